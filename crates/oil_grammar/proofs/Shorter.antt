-- What is left behind a token is shorter than what it was read from.
use Rattle.std.proofs.Common.{◌≡◌, ℕ, suc, ◌+◌, ◌≤◌, ◌<◌, Bool, true, false, cond, ◌||◌, List, [], ◌∷◌, length, take, drop, refl, sym, subst, Some, None, Option, Ok, Err, Result, arith, length-drop}
use Rattle.std.proofs.lemmas.Bool.{or_left, or_right}
use Rattle.std.specs.Prelude.{IfOk, if◌then◌else◌, ◌==◌, position}
use Rattle.std.specs.List.{prefix_len}
use Rattle.oil_grammar.specs.declared.fault.OilKind.{OilKind}
use Rattle.oil_grammar.specs.declared.token.Token.{Token}
use Rattle.oil_grammar.specs.Bytes.{is_letter, is_digit, is_name_byte, is_numeral_byte}
use Rattle.oil_grammar.specs.Tokens.{Within, between, line, opening, comment, closing, quoted, Bad, after_gap, gap_at_end, onward, within_after, token_at, name_at, number_at, number_given, numeral, text_at, text_given, sign_of, sign_given, sign_at, skipped_at, found, first_in, first_token, first_given}

-- Gaps.

nothing : (left : List ℕ) (n : ℕ) → ◌≡◌ {A = Result (List ℕ) Bad} (Ok []) (Ok left) → length left ≤ n
nothing [] n same = omega arith
nothing (b ∷ rest) n same = absurd (cc)

end_shorter : (w : Within) (left : List ℕ) (n : ℕ) → gap_at_end w ≡ Ok left → length left ≤ n
end_shorter between left n is = nothing left n is
end_shorter line left n is = nothing left n is
end_shorter (opening from) left n is = absurd (cc)
end_shorter (comment from) left n is = absurd (cc)
end_shorter closing left n is = nothing left n is
end_shorter (quoted from) left n is = absurd (cc)

onward_shorter : (o : Option Within) (bytes left : List ℕ) (n : ℕ) (go_on : Within → Result (List ℕ) Bad) → length bytes ≤ n → ((w : Within) → go_on w ≡ Ok left → length left ≤ n) → onward o bytes go_on ≡ Ok left → length left ≤ n
onward_shorter None bytes left n go_on le recur is = let same : bytes ≡ left = cc in subst (λ b. length b ≤ n) same le
onward_shorter (Some w) bytes left n go_on le recur is = recur w is

longer : {n m : ℕ} → n ≤ m → n ≤ suc m
longer le = omega arith

gap_shorter : (skips : Bool) (w : Within) (bytes left : List ℕ) → after_gap skips w bytes ≡ Ok left → length left ≤ length bytes
unfolding after_gap
gap_shorter skips w [] left is = end_shorter w left 0 is
gap_shorter skips w (b ∷ rest) left is =
    onward_shorter (within_after skips w b rest) (b ∷ rest) left (suc (length rest)) (λ next. after_gap skips next rest) (omega arith)
    (λ next h. longer (gap_shorter skips next rest left h)) is

-- Tokens.

pub pick : {X : Type 0} (P : X → Type 0) (b : Bool) (x y : X) → (b ≡ true → P x) → (b ≡ false → P y) → P (if b then x else y)
pick P true x y then_is else_is = then_is refl
pick P false x y then_is else_is = else_is refl

-- a token leaves so much at most
LeavesUpTo : ℕ → Result (Token × List ℕ) OilKind → Type 0
LeavesUpTo n read = IfOk read (λ r. length r.1 ≤ n)

drop_some : (p : ℕ → Bool) (b : ℕ) (rest : List ℕ) → p b ≡ true → length (drop (prefix_len p (b ∷ rest)) (b ∷ rest)) ≤ length rest
drop_some p b rest is = subst (λ t. length (drop (cond t (1 + prefix_len p rest) 0) (b ∷ rest)) ≤ length rest) (sym is)
    (omega (arith, length-drop (1 + prefix_len p rest) (b ∷ rest)))

name_shorter : (b : ℕ) (rest : List ℕ) → is_letter b ≡ true → LeavesUpTo (length rest) (name_at (b ∷ rest))
unfolding LeavesUpTo
name_shorter b rest is = drop_some is_name_byte b rest (or_left (is_letter b) (is_digit b) is)

given_shorter : (negative : Bool) (after : List ℕ) (o : Option ℕ) (n : ℕ) → length after ≤ n → LeavesUpTo n (number_given negative after o)
unfolding LeavesUpTo
given_shorter negative after None n le = tt
given_shorter negative after (Some size) n le = le

pub digit_is_numeral : (b : ℕ) → is_digit b ≡ true → is_numeral_byte b ≡ true
digit_is_numeral b is = or_left (is_letter b || is_digit b) (b == 46) (or_right (is_letter b) (is_digit b) is)

digits_shorter : (b : ℕ) (rest : List ℕ) → is_digit b ≡ true → LeavesUpTo (length rest) (number_at false (b ∷ rest))
digits_shorter b rest is = given_shorter false _ (numeral (take (prefix_len is_numeral_byte (b ∷ rest)) (b ∷ rest))) (length rest) (drop_some is_numeral_byte b rest (digit_is_numeral b is))

number_shorter : (negative : Bool) (rest : List ℕ) → LeavesUpTo (length rest) (number_at negative rest)
number_shorter negative rest = given_shorter negative _ (numeral (take (prefix_len is_numeral_byte rest) rest)) (length rest) (omega (arith, length-drop (prefix_len is_numeral_byte rest) rest))

text_shorter : (rest : List ℕ) → LeavesUpTo (length rest) (text_at rest)
unfolding LeavesUpTo
text_shorter rest = by_place (position (λ b. b == 34) rest)
  where
    by_place : (o : Option ℕ) → IfOk (text_given rest o) (λ r. length r.1 ≤ length rest)
    by_place None = tt
    by_place (Some n) = omega (arith, length-drop 1 (drop n rest), length-drop n rest)

sign_given_shorter : (b : ℕ) (rest : List ℕ) (o : Option Token) → LeavesUpTo (length rest) (sign_given b rest o)
unfolding LeavesUpTo
sign_given_shorter b rest None = tt
sign_given_shorter b rest (Some sign) = omega arith

skipped_shorter : (b : ℕ) (rest : List ℕ) → LeavesUpTo (length rest) (skipped_at b rest)
unfolding LeavesUpTo
skipped_shorter b rest = omega arith

pub pick_five : {X : Type 0} (P : X → Type 0) (b c d e f : Bool) (v w x y z u : X) → (b ≡ true → P v) → (c ≡ true → P w) → P x → P y → P z → P u → P (if b then v else (if c then w else (if d then x else (if e then y else (if f then z else u)))))
pick_five P b c d e f v w x y z u at_b at_c at_d at_e at_f otherwise =
    pick P b v _ at_b (λ _. pick P c w _ at_c (λ _. pick P d x _ (λ _. at_d) (λ _. pick P e y _ (λ _. at_e) (λ _. pick P f z u (λ _. at_f) (λ _. otherwise)))))

token_shorter : (skips : Bool) (b : ℕ) (rest : List ℕ) → LeavesUpTo (length rest) (token_at skips b rest)
unfolding token_at
token_shorter true b rest = skipped_shorter b rest
token_shorter false b rest =
    pick_five (LeavesUpTo (length rest)) (is_letter b) (is_digit b) (b == 43) (b == 45) (b == 34)
    (name_at (b ∷ rest)) (number_at false (b ∷ rest)) (number_at false rest) (number_at true rest) (text_at rest) (sign_at b rest)
    (name_shorter b rest) (digits_shorter b rest) (number_shorter false rest) (number_shorter true rest) (text_shorter rest) (sign_given_shorter b rest (sign_of b))

-- The first token.

given_found : (from : List ℕ) (n : ℕ) (read : Result (Token × List ℕ) OilKind) (t : Token) (start after : List ℕ) → LeavesUpTo n read → first_given from read ≡ found t start after → length after ≤ n
unfolding LeavesUpTo
given_found from n (Err kind) t start after le is = absurd (cc)
given_found from n (Ok read) t start after le is = let same : read.1 ≡ after = cc in subst (λ a. length a ≤ n) same le

gap_found : (skips : Bool) (bytes : List ℕ) (gap : Result (List ℕ) Bad) (t : Token) (start after : List ℕ) → ((left : List ℕ) → gap ≡ Ok left → length left ≤ length bytes) → first_token skips gap ≡ found t start after → length after < length bytes
gap_found skips bytes (Err why) t start after le is = absurd (cc)
gap_found skips bytes (Ok []) t start after le is = absurd (cc)
gap_found skips bytes (Ok (b ∷ rest)) t start after le is =
    let most : length after ≤ length rest = given_found (b ∷ rest) (length rest) (token_at skips b rest) t start after (token_shorter skips b rest) is in
    let all : suc (length rest) ≤ length bytes = le (b ∷ rest) refl in
    omega arith

pub found_shorter : (skips : Bool) (bytes : List ℕ) (t : Token) (from after : List ℕ) → first_in skips bytes ≡ found t from after → length after < length bytes
found_shorter skips bytes t from after is =
    gap_found skips bytes (after_gap skips between bytes) t from after (λ left. gap_shorter skips between bytes left) is
