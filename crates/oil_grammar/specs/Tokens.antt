-- What stands between tokens, what a token is, and which tokens bytes begin with.
use Rattle.std.specs.Prelude.{◌≡◌, ℕ, ◌+◌, ◌*◌, ◌^◌, ◌==◌, ◌&&◌, ◌||◌, nat_lt, not, Bool, true, false, List, [], ◌∷◌, take, drop, Option, Some, None, Result, Ok, Err, if◌then◌else◌, nat_eq, codes, position, option_and_then}
use Rattle.std.specs.List.{prefix_len, starts_with}
use Rattle.oil_grammar.specs.Bytes.{is_white, is_letter, is_digit, is_name_byte, is_numeral_byte, first_of, digit_of}
use Rattle.oil_grammar.specs.declared.fault.OilKind.{OilKind}
use Rattle.oil_grammar.specs.declared.fault.OilKind.TheVariants.{Byte, Comment, Text, Number, Include}
use Rattle.oil_grammar.specs.declared.token.Token.{Token}
use Rattle.oil_grammar.specs.declared.token.Token.TheVariants as token

-- What stands between tokens.

-- where a byte between two tokens stands
pub data Within : Type 0 where
  -- outside of comments
  between : Within
  -- in a comment to the end of the line
  line : Within
  -- at the star of a `/*`; with the bytes from its slash on
  opening : List ℕ → Within
  -- in a comment that this `/*` begins
  comment : List ℕ → Within
  -- at the slash of a `*/`
  closing : Within
  -- in a text of the skipped part, with the bytes from its quote on
  quoted : List ℕ → Within

-- whether a slash stands there, and then this byte
abbrev pub is_slash_and : ℕ → ℕ → List ℕ → Bool
is_slash_and second b rest = (b == 47) && (first_of rest == second)

-- what is passed over outside of comments and texts: white space, and in the skipped part all but braces
abbrev pub is_passed : Bool → ℕ → Bool
is_passed false b = is_white b
is_passed true b = not ((b == 123) || (b == 125))

-- where the bytes after b stand, or None where b is the first byte of a token
abbrev pub within_after : Bool → Within → ℕ → List ℕ → Option Within
within_after skips between b rest =
    if is_slash_and 47 b rest then Some line
    else (if is_slash_and 42 b rest then Some (opening (b ∷ rest))
    else (if skips && (b == 34) then Some (quoted (b ∷ rest))
    else (if is_passed skips b then Some between else None)))
within_after skips line b rest = if b == 10 then Some between else Some line
within_after skips (opening from) b rest = Some (comment from)
within_after skips (comment from) b rest = if (b == 42) && (first_of rest == 47) then Some closing else Some (comment from)
within_after skips closing b rest = Some between
within_after skips (quoted from) b rest = if b == 34 then Some between else Some (quoted from)

-- bytes that form no token: the place is what is left from their first byte on
pub record Bad : Type 0 where
  pub kind : OilKind
  pub place : List ℕ

-- the end of the text
abbrev pub gap_at_end : Within → Result (List ℕ) Bad
gap_at_end between = Ok []
gap_at_end line = Ok []
gap_at_end (opening from) = Err (record { kind = Comment; place = from })
gap_at_end (comment from) = Err (record { kind = Comment; place = from })
gap_at_end closing = Ok []
gap_at_end (quoted from) = Err (record { kind = Text; place = from })

abbrev pub onward : Option Within → List ℕ → (Within → Result (List ℕ) Bad) → Result (List ℕ) Bad
onward None bytes go_on = Ok bytes
onward (Some next) bytes go_on = go_on next

-- What is left once white space and comments are passed over; in the skipped part, also texts and all bytes
-- but braces. So it is empty, or begins with the first byte of a token or with a byte that begins none.
unfoldable pub after_gap : Bool → Within → List ℕ → Result (List ℕ) Bad
after_gap skips within [] = gap_at_end within
after_gap skips within (b ∷ rest) = onward (within_after skips within b rest) (b ∷ rest) (λ next. after_gap skips next rest)

-- The tokens.

-- the value of digits, the leftmost the greatest, after those that give the number so far
unfoldable pub value_after : Bool → ℕ → List ℕ → Option ℕ
value_after hexadecimal n [] = Some n
value_after hexadecimal n (b ∷ rest) = option_and_then (λ d. value_after hexadecimal (n * (if hexadecimal then 16 else 10) + d) rest) (digit_of hexadecimal b)

-- one digit or more
abbrev pub value_of : Bool → List ℕ → Option ℕ
value_of hexadecimal [] = None
value_of hexadecimal (b ∷ rest) = value_after hexadecimal 0 (b ∷ rest)

-- `0x` or `0X`
abbrev pub is_hexadecimal : List ℕ → Bool
is_hexadecimal [] = false
is_hexadecimal (b ∷ rest) = (b == 48) && ((first_of rest == 120) || (first_of rest == 88))

-- a number that has room in 64 bits
abbrev pub with_room : Option ℕ → Option ℕ
with_room None = None
with_room (Some n) = if nat_lt n (2 ^ 64) then Some n else None

-- the number that a numeral without its sign stands for: decimal digits, or `0x` and hexadecimal ones
abbrev pub numeral : List ℕ → Option ℕ
numeral run = with_room (if is_hexadecimal run then value_of true (drop 2 run) else value_of false run)

abbrev pub number_given : Bool → List ℕ → Option ℕ → Result (Token × List ℕ) OilKind
number_given negative after None = Err Number
number_given negative after (Some size) = Ok (token.Number negative size, after)

-- A number, behind its sign. It is a numeral up to the first byte that may follow one.
abbrev pub number_at : Bool → List ℕ → Result (Token × List ℕ) OilKind
number_at negative bytes = number_given negative (drop (prefix_len is_numeral_byte bytes) bytes) (numeral (take (prefix_len is_numeral_byte bytes) bytes))

abbrev pub text_given : List ℕ → Option ℕ → Result (Token × List ℕ) OilKind
text_given bytes None = Err Text
text_given bytes (Some n) = Ok (token.Text (take n bytes), drop 1 (drop n bytes))

-- a text, behind its first quote
abbrev pub text_at : List ℕ → Result (Token × List ℕ) OilKind
text_at bytes = text_given bytes (position (λ b. b == 34) bytes)

-- a name goes on as far as it can
abbrev pub name_at : List ℕ → Result (Token × List ℕ) OilKind
name_at bytes = Ok (token.Name (take (prefix_len is_name_byte bytes) bytes), drop (prefix_len is_name_byte bytes) bytes)

abbrev pub sign_of : ℕ → Option Token
sign_of b =
    if b == 123 then Some token.Open
    else (if b == 125 then Some token.Close
    else (if b == 61 then Some token.Equals
    else (if b == 59 then Some token.Semicolon
    else (if b == 58 then Some token.Colon
    else None))))

-- why no token begins with the byte
abbrev pub no_token : ℕ → List ℕ → OilKind
no_token b rest = if (b == 35) && starts_with nat_eq rest (codes "include") then Include else Byte

abbrev pub sign_given : ℕ → List ℕ → Option Token → Result (Token × List ℕ) OilKind
sign_given b rest None = Err (no_token b rest)
sign_given b rest (Some sign) = Ok (sign, rest)

-- a sign, or a byte that begins no token
abbrev pub sign_at : ℕ → List ℕ → Result (Token × List ℕ) OilKind
sign_at b rest = sign_given b rest (sign_of b)

-- the braces are the only tokens of the skipped part
abbrev pub skipped_at : ℕ → List ℕ → Result (Token × List ℕ) OilKind
skipped_at b rest = Ok ((if b == 123 then token.SkippedOpen else token.SkippedClose), rest)

-- The token that begins with b and goes on in rest, with the bytes after it; or why these form none.
unfoldable pub token_at : Bool → ℕ → List ℕ → Result (Token × List ℕ) OilKind
token_at true b rest = skipped_at b rest
token_at false b rest =
    if is_letter b then name_at (b ∷ rest)
    else (if is_digit b then number_at false (b ∷ rest)
    else (if b == 43 then number_at false rest
    else (if b == 45 then number_at true rest
    else (if b == 34 then text_at rest
    else sign_at b rest))))

-- What bytes begin with, in the skipped part or outside of it: the end, a token with the bytes from it on and
-- those after it, or bytes that form no token.
pub data First : Type 0 where
  ended : First
  bad : OilKind → List ℕ → First
  found : Token → List ℕ → List ℕ → First

abbrev pub first_given : List ℕ → Result (Token × List ℕ) OilKind → First
first_given from (Err kind) = bad kind from
first_given from (Ok read) = found read.0 from read.1

abbrev pub first_token : Bool → Result (List ℕ) Bad → First
first_token skips (Err fault) = bad fault.kind fault.place
first_token skips (Ok []) = ended
first_token skips (Ok (b ∷ rest)) = first_given (b ∷ rest) (token_at skips b rest)

abbrev pub first_in : Bool → List ℕ → First
first_in skips bytes = first_token skips (after_gap skips between bytes)

-- whether a token stands in the skipped part
abbrev pub is_skipped : Token → Bool
is_skipped (token.Name name) = false
is_skipped (token.Number negative size) = false
is_skipped (token.Text text) = false
is_skipped token.Open = false
is_skipped token.Close = false
is_skipped token.Equals = false
is_skipped token.Semicolon = false
is_skipped token.Colon = false
is_skipped token.SkippedOpen = true
is_skipped token.SkippedClose = true

-- bytes begin with these tokens, and left are those after the last one
unfoldable pub BeginWith : List Token → List ℕ → List ℕ → Type 0
BeginWith [] bytes left = left ≡ bytes
BeginWith (t ∷ tokens) bytes left =
    (from : List ℕ) × (after : List ℕ) × (first_in (is_skipped t) bytes ≡ found t from after) × BeginWith tokens after left

-- the whole text is these tokens, with white space and comments between them
pub record AreTokensOf (tokens : List Token) (bytes : List ℕ) : Type 0 where
  pub left : List ℕ
  pub begin : BeginWith tokens bytes left
  pub end : first_in false left ≡ ended
