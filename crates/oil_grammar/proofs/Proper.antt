-- The form of the tokens that bytes begin with: names are names, texts have no quote in them, and numbers have
-- room in 64 bits.
use Rattle.std.proofs.Common.{◌≡◌, ℕ, ◌+◌, ◌^◌, ◌<◌, Bool, true, false, cond, List, [], ◌∷◌, length, take, drop, refl, subst, Some, None, Option, Ok, Err, Result}
use Rattle.std.proofs.Math.Numerals.{one-add}
use borrow.Author.Tests.{ltb-true}
use Rattle.std.specs.Prelude.{IfOk, if◌then◌else◌, ◌==◌, nat_lt, not, ⊤}
use Rattle.std.specs.List.{prefix_len}
use Rattle.oil_grammar.specs.declared.fault.OilKind.{OilKind}
use Rattle.oil_grammar.specs.declared.token.Token.{Token}
use Rattle.oil_grammar.specs.declared.token.Token.TheVariants as token
use Rattle.oil_grammar.specs.Bytes.{is_letter, is_digit, is_name_byte, is_numeral_byte}
use Rattle.oil_grammar.specs.Tokens.{Bad, between, after_gap, value_of, with_room, is_hexadecimal, token_at, name_at, number_at, number_given, text_at, text_given, sign_given, sign_at, skipped_at, found, first_in, first_token, first_given, is_skipped, BeginWith, AreTokensOf}
use Rattle.oil_grammar.proofs.Shorter.{pick, pick_five}

-- each byte passes
abbrev pub Every : (ℕ → Bool) → List ℕ → Type 0
Every p [] = ⊤
Every p (b ∷ rest) = (p b ≡ true) × Every p rest

-- a byte that a text may have
abbrev pub is_text_byte : ℕ → Bool
is_text_byte b = not (b == 34)

-- a letter, and letters and digits after it
pub record IsName (name : List ℕ) : Type 0 where
  pub first : ℕ
  pub others : List ℕ
  pub same : name ≡ first ∷ others
  pub letter : is_letter first ≡ true
  pub name_bytes : Every is_name_byte others

abbrev pub IsProper : Token → Type 0
IsProper (token.Name name) = IsName name
IsProper (token.Number negative size) = size < 2 ^ 64
IsProper (token.Text text) = Every is_text_byte text
IsProper token.Open = ⊤
IsProper token.Close = ⊤
IsProper token.Equals = ⊤
IsProper token.Semicolon = ⊤
IsProper token.Colon = ⊤
IsProper token.SkippedOpen = ⊤
IsProper token.SkippedClose = ⊤

abbrev pub AreProper : List Token → Type 0
AreProper [] = ⊤
AreProper (t ∷ tokens) = IsProper t × AreProper tokens

-- What is read.

taken_by : (p : ℕ → Bool) (b : ℕ) (rest : List ℕ) (n : ℕ) (passes : Bool) → p b ≡ passes → Every p (take n rest) → Every p (take (cond passes (1 + n) 0) (b ∷ rest))
taken_by p b rest n false is all = tt
taken_by p b rest n true is all = rw one-add (is, all)

-- the bytes up to the first that doesn't pass
pub taken : (p : ℕ → Bool) (bytes : List ℕ) → Every p (take (prefix_len p bytes) bytes)
taken p [] = tt
taken p (b ∷ rest) = taken_by p b rest (prefix_len p rest) (p b) refl (taken p rest)

GivesProper : Result (Token × List ℕ) OilKind → Type 0
GivesProper read = IfOk read (λ r. IsProper r.0)

-- a name may go on with a letter
pub letter_passes : (b : ℕ) → is_letter b ≡ true → is_name_byte b ≡ true
letter_passes b is = rw is refl

name_from : (b : ℕ) (rest : List ℕ) → is_letter b ≡ true → IsName (take (prefix_len is_name_byte (b ∷ rest)) (b ∷ rest))
name_from b rest is = record {
  first = b;
  others = take (prefix_len is_name_byte rest) rest;
  same = rw (letter_passes b is, one-add) refl;
  letter = is;
  name_bytes = taken is_name_byte rest;
}

name_proper : (b : ℕ) (rest : List ℕ) → is_letter b ≡ true → GivesProper (name_at (b ∷ rest))
unfolding GivesProper
name_proper b rest is = name_from b rest is

room_proper : (negative : Bool) (after : List ℕ) (o : Option ℕ) → GivesProper (number_given negative after (with_room o))
unfolding GivesProper
room_proper negative after None = tt
room_proper negative after (Some n) = fits (nat_lt n (2 ^ 64)) refl
  where
    fits : (small : Bool) → nat_lt n (2 ^ 64) ≡ small → IfOk (number_given negative after (cond small (Some n) None)) (λ r. IsProper r.0)
    fits true is = ltb-true n (2 ^ 64) is
    fits false is = tt

number_proper : (negative : Bool) (bytes : List ℕ) → GivesProper (number_at negative bytes)
number_proper negative bytes =
    let digits = take (prefix_len is_numeral_byte bytes) bytes in
    room_proper negative (drop (prefix_len is_numeral_byte bytes) bytes) (if is_hexadecimal digits then value_of true (drop 2 digits) else value_of false digits)

text_proper : (bytes : List ℕ) → GivesProper (text_at bytes)
unfolding GivesProper
text_proper bytes = by_place (nat_lt (prefix_len is_text_byte bytes) (length bytes))
  where
    by_place : (within : Bool) → IfOk (text_given bytes (cond within (Some (prefix_len is_text_byte bytes)) None)) (λ r. IsProper r.0)
    by_place true = taken is_text_byte bytes
    by_place false = tt

sign_proper : (b : ℕ) (rest : List ℕ) → GivesProper (sign_at b rest)
unfolding GivesProper
sign_proper b rest =
    pick_five (λ o. IfOk (sign_given b rest o) (λ r. IsProper r.0)) (b == 123) (b == 125) (b == 61) (b == 59) (b == 58)
    (Some token.Open) (Some token.Close) (Some token.Equals) (Some token.Semicolon) (Some token.Colon) None
    (λ _. tt) (λ _. tt) tt tt tt tt

skipped_proper : (b : ℕ) (rest : List ℕ) → GivesProper (skipped_at b rest)
unfolding GivesProper
skipped_proper b rest = pick IsProper (b == 123) token.SkippedOpen token.SkippedClose (λ _. tt) (λ _. tt)

token_proper : (skips : Bool) (b : ℕ) (rest : List ℕ) → GivesProper (token_at skips b rest)
unfolding token_at
token_proper true b rest = skipped_proper b rest
token_proper false b rest =
    pick_five GivesProper (is_letter b) (is_digit b) (b == 43) (b == 45) (b == 34)
    (name_at (b ∷ rest)) (number_at false (b ∷ rest)) (number_at false rest) (number_at true rest) (text_at rest) (sign_at b rest)
    (name_proper b rest) (λ _. number_proper false (b ∷ rest)) (number_proper false rest) (number_proper true rest) (text_proper rest) (sign_proper b rest)

given_proper : (from : List ℕ) (read : Result (Token × List ℕ) OilKind) (t : Token) (start after : List ℕ) → GivesProper read → first_given from read ≡ found t start after → IsProper t
unfolding GivesProper
given_proper from (Err kind) t start after proper is = absurd (cc)
given_proper from (Ok read) t start after proper is = let same : read.0 ≡ t = cc in subst (λ u. IsProper u) same proper

gap_proper : (skips : Bool) (gap : Result (List ℕ) Bad) (t : Token) (start after : List ℕ) → first_token skips gap ≡ found t start after → IsProper t
gap_proper skips (Err why) t start after is = absurd (cc)
gap_proper skips (Ok []) t start after is = absurd (cc)
gap_proper skips (Ok (b ∷ rest)) t start after is = given_proper (b ∷ rest) (token_at skips b rest) t start after (token_proper skips b rest) is

found_proper : (skips : Bool) (bytes : List ℕ) (t : Token) (from after : List ℕ) → first_in skips bytes ≡ found t from after → IsProper t
found_proper skips bytes t from after is = gap_proper skips (after_gap skips between bytes) t from after is

begin_proper : (tokens : List Token) (bytes left : List ℕ) → BeginWith tokens bytes left → AreProper tokens
unfolding BeginWith
begin_proper [] bytes left begin = tt
begin_proper (t ∷ tokens) bytes left begin = (found_proper (is_skipped t) bytes t begin.0 begin.1 begin.2, begin_proper tokens begin.1 left begin.3)

-- the tokens of a text are proper
pub text_tokens_proper : (tokens : List Token) (bytes : List ℕ) → AreTokensOf tokens bytes → AreProper tokens
text_tokens_proper tokens bytes are = begin_proper tokens bytes are.left are.begin
