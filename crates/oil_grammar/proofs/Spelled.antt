-- Bytes that are read as a token, with what may follow it.
use Rattle.std.proofs.Common.{◌≡◌, ℕ, suc, ◌+◌, ◌-◌, ◌*◌, ◌/◌, ◌%◌, ◌^◌, ◌≤◌, ◌<◌, Bool, true, false, cond, ◌||◌, List, [], ◌∷◌, ◌++◌, length, take, drop, refl, sym, ap, ◌∙◌, subst, Some, None, Ok, arith, append_assoc, length-append, lt-ltb}
use Rattle.std.proofs.lemmas.List.{append-nil}
use Rattle.std.proofs.Math.Bool.{and-false}
use Rattle.std.proofs.Math.Numerals.{one-add}
use Rattle.std.proofs.Math.Seq.{take-append_seam, drop-append_seam}
use Rattle.std.proofs.lemmas.Bool.Decides.{nat_tests}
use Rattle.std.proofs.lemmas.Fmt.{decimal_by_steps}
use Rattle.std.specs.Prelude.{◌==◌, nat_lt, decimal, codes}
use Rattle.std.specs.List.{prefix_len}
use Rattle.oil_grammar.specs.declared.token.Token.{Token}
use Rattle.oil_grammar.specs.declared.token.Token.TheVariants as token
use Rattle.oil_grammar.specs.declared.tree.Value.{Value}
use Rattle.oil_grammar.specs.declared.tree.Value.TheVariants as value
use Rattle.oil_grammar.specs.Bytes.{is_white, is_letter, is_digit, is_name_byte, is_numeral_byte, digit_of}
use Rattle.oil_grammar.specs.Tokens.{between, after_gap, value_after, value_of, is_hexadecimal, numeral, number_given, text_given, token_at, name_at, number_at, text_at, found, first_in, first_token, first_given}
use Rattle.oil_grammar.specs.Grammar.{value_token}
use Rattle.oil_grammar.specs.Layout.{quoted_layout, sign_layout, value_layout}
use Rattle.oil_grammar.proofs.GapSteps.{piece_none}
use Rattle.oil_grammar.proofs.Numerals.{digit_step, with_room_small}
use Rattle.oil_grammar.proofs.Shorter.{digit_is_numeral}
use Rattle.oil_grammar.proofs.Proper.{letter_passes, Every, is_text_byte, IsName, IsProper}

-- the bytes that pass, before one that doesn't
pub prefix_every : (p : ℕ → Bool) (bytes : List ℕ) (c : ℕ) (rest : List ℕ) → Every p bytes → p c ≡ false → prefix_len p (bytes ++ c ∷ rest) ≡ length bytes
prefix_every p [] c rest all stops = rw stops refl
prefix_every p (b ∷ bytes) c rest all stops =
    let more : prefix_len p (bytes ++ c ∷ rest) ≡ length bytes = prefix_every p bytes c rest all.1 stops in
    rw (all.0, one-add) (ap suc more)

-- a byte that begins a token is no gap
first_byte : (b : ℕ) (rest : List ℕ) → (b == 47) ≡ false → is_white b ≡ false → after_gap false between (b ∷ rest) ≡ Ok (b ∷ rest)
first_byte b rest no_slash no_white = piece_none false b (b ∷ rest) rest refl (rw no_slash refl) (rw no_slash refl) refl no_white

-- the bytes that pass are taken, and no more
taken_all : (p : ℕ → Bool) (bytes : List ℕ) (c : ℕ) (rest : List ℕ) → Every p bytes → p c ≡ false → take (prefix_len p (bytes ++ c ∷ rest)) (bytes ++ c ∷ rest) ≡ bytes
taken_all p bytes c rest all stops = ap (λ n. take n (bytes ++ c ∷ rest)) (prefix_every p bytes c rest all stops) ∙ take-append_seam bytes (c ∷ rest)

left_behind : (p : ℕ → Bool) (bytes : List ℕ) (c : ℕ) (rest : List ℕ) → Every p bytes → p c ≡ false → drop (prefix_len p (bytes ++ c ∷ rest)) (bytes ++ c ∷ rest) ≡ c ∷ rest
left_behind p bytes c rest all stops = ap (λ n. drop n (bytes ++ c ∷ rest)) (prefix_every p bytes c rest all stops) ∙ drop-append_seam bytes (c ∷ rest)

-- a token that bytes begin with at once
first_here : (b : ℕ) (rest : List ℕ) (t : Token) (after : List ℕ) → (b == 47) ≡ false → is_white b ≡ false → token_at false b rest ≡ Ok (t, after) → first_in false (b ∷ rest) ≡ found t (b ∷ rest) after
first_here b rest t after no_slash no_white is = ap (λ g. first_token false g) (first_byte b rest no_slash no_white) ∙ ap (λ r. first_given (b ∷ rest) r) is

-- Names.

letter_no_slash : (b : ℕ) → is_letter b ≡ true → (b == 47) ≡ false
letter_no_slash b is = grind (arith, nat_tests)

letter_no_white : (b : ℕ) → is_letter b ≡ true → is_white b ≡ false
letter_no_white b is = grind (arith, nat_tests)

token_is_name : (b : ℕ) (rest : List ℕ) → is_letter b ≡ true → token_at false b rest ≡ name_at (b ∷ rest)
unfolding token_at
token_is_name b rest is = rw is refl

name_read : (name : List ℕ) (c : ℕ) (rest : List ℕ) → Every is_name_byte name → is_name_byte c ≡ false → name_at (name ++ c ∷ rest) ≡ Ok (token.Name name, c ∷ rest)
name_read name c rest all stops =
    ap (λ n. Ok (token.Name n, drop (prefix_len is_name_byte (name ++ c ∷ rest)) (name ++ c ∷ rest))) (taken_all is_name_byte name c rest all stops)
    ∙ ap (λ after. Ok (token.Name name, after)) (left_behind is_name_byte name c rest all stops)

pub first_name : (name : List ℕ) (c : ℕ) (rest : List ℕ) → IsName name → is_name_byte c ≡ false → first_in false (name ++ c ∷ rest) ≡ found (token.Name name) (name ++ c ∷ rest) (c ∷ rest)
first_name name c rest is stops =
    subst (λ n. first_in false (n ++ c ∷ rest) ≡ found (token.Name n) (n ++ c ∷ rest) (c ∷ rest)) (sym is.same)
    (first_here is.first (is.others ++ c ∷ rest) (token.Name (is.first ∷ is.others)) (c ∷ rest) (letter_no_slash is.first is.letter) (letter_no_white is.first is.letter)
    (token_is_name is.first (is.others ++ c ∷ rest) is.letter ∙ name_read (is.first ∷ is.others) c rest (letter_passes is.first is.letter, is.name_bytes) stops))

-- Signs.

pub first_equals : (rest : List ℕ) → first_in false (61 ∷ rest) ≡ found token.Equals (61 ∷ rest) rest
unfolding token_at
first_equals rest = first_here 61 rest token.Equals rest refl refl refl

pub first_semicolon : (rest : List ℕ) → first_in false (59 ∷ rest) ≡ found token.Semicolon (59 ∷ rest) rest
unfolding token_at
first_semicolon rest = first_here 59 rest token.Semicolon rest refl refl refl

pub first_open : (rest : List ℕ) → first_in false (123 ∷ rest) ≡ found token.Open (123 ∷ rest) rest
unfolding token_at
first_open rest = first_here 123 rest token.Open rest refl refl refl

pub first_close : (rest : List ℕ) → first_in false (125 ∷ rest) ≡ found token.Close (125 ∷ rest) rest
unfolding token_at
first_close rest = first_here 125 rest token.Close rest refl refl refl

-- Texts.

text_place : (text rest : List ℕ) → Every is_text_byte text → text_at (text ++ 34 ∷ rest) ≡ Ok (token.Text text, rest)
text_place text rest all =
    let len : prefix_len is_text_byte (text ++ 34 ∷ rest) ≡ length text = prefix_every is_text_byte text 34 rest all refl in
    let within : nat_lt (length text) (length (text ++ 34 ∷ rest)) ≡ true = lt-ltb (length text) (length (text ++ 34 ∷ rest)) (omega (arith, length-append text (34 ∷ rest))) in
    ap (λ n. text_given (text ++ 34 ∷ rest) (cond (nat_lt n (length (text ++ 34 ∷ rest))) (Some n) None)) len
    ∙ (ap (λ b. text_given (text ++ 34 ∷ rest) (cond b (Some (length text)) None)) within
    ∙ (ap (λ t. Ok (token.Text t, drop 1 (drop (length text) (text ++ 34 ∷ rest)))) (take-append_seam text (34 ∷ rest))
    ∙ ap (λ l. Ok (token.Text text, drop 1 l)) (drop-append_seam text (34 ∷ rest))))

pub first_text : (text rest : List ℕ) → Every is_text_byte text → first_in false (quoted_layout text ++ rest) ≡ found (token.Text text) (quoted_layout text ++ rest) rest
unfolding token_at
first_text text rest all =
    subst (λ tail. first_in false (34 ∷ tail) ≡ found (token.Text text) (34 ∷ tail) rest) (sym (append_assoc text (34 ∷ []) rest))
    (first_here 34 (text ++ 34 ∷ rest) (token.Text text) rest refl refl (text_place text rest all))

-- Numbers.

-- the decimal digits of a number
record Digits (n : ℕ) (digits : List ℕ) : Type 0 where
  first : ℕ
  others : List ℕ
  same : digits ≡ first ∷ others
  digit : is_digit first ≡ true
  all_digits : Every is_digit others
  value : (tail : List ℕ) → value_after false 0 (digits ++ tail) ≡ value_after false n tail

glyph_digit : (d : ℕ) → d < 10 → is_digit (48 + d) ≡ true
glyph_digit d lt = grind (arith, nat_tests)

glyph_value : (d : ℕ) → d < 10 → digit_of false (48 + d) ≡ Some d
glyph_value d lt = let is : is_digit (48 + d) ≡ true = glyph_digit d lt in let same : 48 + d - 48 ≡ d = omega arith in rw is (ap Some same)

every_push : (p : ℕ → Bool) (bytes : List ℕ) (b : ℕ) → Every p bytes → p b ≡ true → Every p (bytes ++ b ∷ [])
every_push p [] b all is = (is, tt)
every_push p (c ∷ bytes) b all is = (all.0, every_push p bytes b all.1 is)

one_digit : (n : ℕ) → n < 10 → Digits n ((48 + n) ∷ [])
one_digit n lt = record {
  first = 48 + n;
  others = [];
  same = refl;
  digit = glyph_digit n lt;
  all_digits = tt;
  value = λ tail. digit_step false 0 n (48 + n) ((48 + n) ∷ tail) tail refl (glyph_value n lt) ∙ ap (λ k. value_after false k tail) (nothing n);
}
  where
    nothing : (n : ℕ) → 0 * 10 + n ≡ n
    nothing n = omega arith

more_digits : (n : ℕ) (digits : List ℕ) → 10 ≤ n → Digits (n / 10) digits → Digits n (digits ++ ((48 + n % 10) ∷ []))
more_digits n digits le are =
    let lt : n % 10 < 10 = omega arith in
    let whole : (n / 10) * 10 + n % 10 ≡ n = omega arith in
    record {
      first = are.first;
      others = are.others ++ ((48 + n % 10) ∷ []);
      same = ap (λ ds. ds ++ ((48 + n % 10) ∷ [])) are.same;
      digit = are.digit;
      all_digits = every_push is_digit are.others (48 + n % 10) are.all_digits (glyph_digit (n % 10) lt);
      value = λ tail. ap (λ ds. value_after false 0 ds) (append_assoc digits ((48 + n % 10) ∷ []) tail)
          ∙ (are.value ((48 + n % 10) ∷ tail)
          ∙ (digit_step false (n / 10) (n % 10) (48 + n % 10) ((48 + n % 10) ∷ tail) tail refl (glyph_value (n % 10) lt)
          ∙ ap (λ k. value_after false k tail) whole));
    }

decimal_digits : (n : ℕ) → n < 2 ^ 64 → Digits n (decimal n)
decimal_digits n room = decimal_by_steps (λ n digits. Digits n digits) one_digit more_digits n room

no_hexadecimal : (first : ℕ) (others : List ℕ) → Every is_digit others → is_hexadecimal (first ∷ others) ≡ false
no_hexadecimal first [] all = and-false (first == 48)
no_hexadecimal first (b ∷ others) all =
    let no : ((b == 120) || (b == 88)) ≡ false = no_radix b all.0 in
    rw no (and-false (first == 48))
  where
    no_radix : (b : ℕ) → is_digit b ≡ true → ((b == 120) || (b == 88)) ≡ false
    no_radix b is = grind (arith, nat_tests)

every_numeral : (digits : List ℕ) → Every is_digit digits → Every is_numeral_byte digits
every_numeral [] all = tt
every_numeral (b ∷ digits) all = (digit_is_numeral b all.0, every_numeral digits all.1)

digits_value : (n : ℕ) (digits : List ℕ) → n < 2 ^ 64 → Digits n digits → numeral digits ≡ Some n
unfolding value_after
digits_value n digits room are =
    let no : is_hexadecimal digits ≡ false = ap is_hexadecimal are.same ∙ no_hexadecimal are.first are.others are.all_digits in
    let some : value_of false digits ≡ value_after false 0 digits = ap (value_of false) are.same ∙ ap (value_after false 0) (sym are.same) in
    let value : value_after false 0 digits ≡ Some n = ap (value_after false 0) (sym (append-nil digits)) ∙ are.value [] in
    rw (no, some, value) (sym (with_room_small n room))

number_read : (negative : Bool) (n : ℕ) (digits : List ℕ) (c : ℕ) (rest : List ℕ) → n < 2 ^ 64 → Digits n digits → is_numeral_byte c ≡ false → number_at negative (digits ++ c ∷ rest) ≡ Ok (token.Number negative n, c ∷ rest)
number_read negative n digits c rest room are stops =
    let all : Every is_numeral_byte digits = subst (λ ds. Every is_numeral_byte ds) (sym are.same) (digit_is_numeral are.first are.digit, every_numeral are.others are.all_digits) in
    ap (λ ds. number_given negative (drop (prefix_len is_numeral_byte (digits ++ c ∷ rest)) (digits ++ c ∷ rest)) (numeral ds)) (taken_all is_numeral_byte digits c rest all stops)
    ∙ (ap (λ after. number_given negative after (numeral digits)) (left_behind is_numeral_byte digits c rest all stops)
    ∙ ap (λ o. number_given negative (c ∷ rest) o) (digits_value n digits room are))

digit_no_slash : (b : ℕ) → is_digit b ≡ true → (b == 47) ≡ false
digit_no_slash b is = grind (arith, nat_tests)

digit_no_white : (b : ℕ) → is_digit b ≡ true → is_white b ≡ false
digit_no_white b is = grind (arith, nat_tests)

digit_no_letter : (b : ℕ) → is_digit b ≡ true → is_letter b ≡ false
digit_no_letter b is = grind (arith, nat_tests)

token_is_number : (b : ℕ) (rest : List ℕ) → is_digit b ≡ true → token_at false b rest ≡ number_at false (b ∷ rest)
unfolding token_at
token_is_number b rest is =
    let no : is_letter b ≡ false = digit_no_letter b is in
    rw (no, is) refl

positive_number : (n : ℕ) (digits : List ℕ) (c : ℕ) (rest : List ℕ) → n < 2 ^ 64 → Digits n digits → is_numeral_byte c ≡ false → first_in false (digits ++ c ∷ rest) ≡ found (token.Number false n) (digits ++ c ∷ rest) (c ∷ rest)
positive_number n digits c rest room are stops =
    let read : number_at false ((are.first ∷ are.others) ++ c ∷ rest) ≡ Ok (token.Number false n, c ∷ rest) = subst (λ ds. number_at false (ds ++ c ∷ rest) ≡ Ok (token.Number false n, c ∷ rest)) are.same (number_read false n digits c rest room are stops) in
    subst (λ ds. first_in false (ds ++ c ∷ rest) ≡ found (token.Number false n) (ds ++ c ∷ rest) (c ∷ rest)) (sym are.same)
    (first_here are.first (are.others ++ c ∷ rest) (token.Number false n) (c ∷ rest) (digit_no_slash are.first are.digit) (digit_no_white are.first are.digit)
    (token_is_number are.first (are.others ++ c ∷ rest) are.digit ∙ read))

negative_number : (n : ℕ) (digits : List ℕ) (c : ℕ) (rest : List ℕ) → n < 2 ^ 64 → Digits n digits → is_numeral_byte c ≡ false → first_in false (45 ∷ (digits ++ c ∷ rest)) ≡ found (token.Number true n) (45 ∷ (digits ++ c ∷ rest)) (c ∷ rest)
unfolding token_at
negative_number n digits c rest room are stops = first_here 45 (digits ++ c ∷ rest) (token.Number true n) (c ∷ rest) refl refl (number_read true n digits c rest room are stops)

pub first_number : (negative : Bool) (n c : ℕ) (rest : List ℕ) → n < 2 ^ 64 → is_numeral_byte c ≡ false → first_in false ((sign_layout negative ++ decimal n) ++ c ∷ rest) ≡ found (token.Number negative n) ((sign_layout negative ++ decimal n) ++ c ∷ rest) (c ∷ rest)
first_number true n c rest room stops = negative_number n (decimal n) c rest room (decimal_digits n room) stops
first_number false n c rest room stops = positive_number n (decimal n) c rest room (decimal_digits n room) stops

-- Values. The `;` or the space behind one belongs to none.

pub first_value : (v : Value) (c : ℕ) (rest : List ℕ) → IsProper (value_token v) → is_numeral_byte c ≡ false → is_name_byte c ≡ false → first_in false (value_layout v ++ c ∷ rest) ≡ found (value_token v) (value_layout v ++ c ∷ rest) (c ∷ rest)
first_value (value.Name name) c rest proper number_ends name_ends = first_name name c rest proper name_ends
first_value (value.Number negative size) c rest proper number_ends name_ends = first_number negative size c rest proper number_ends
first_value (value.Text text) c rest proper number_ends name_ends = first_text text (c ∷ rest) proper
first_value (value.Bool true) c rest proper number_ends name_ends = first_name (codes "TRUE") c rest proper name_ends
first_value (value.Bool false) c rest proper number_ends name_ends = first_name (codes "FALSE") c rest proper name_ends
first_value value.Auto c rest proper number_ends name_ends = first_name (codes "AUTO") c rest proper name_ends

-- White space.

pub first_behind_space : (skips : Bool) (rest : List ℕ) → first_in skips (32 ∷ rest) ≡ first_in skips rest
unfolding after_gap
first_behind_space true rest = refl
first_behind_space false rest = refl

pub first_behind_newline : (skips : Bool) (rest : List ℕ) → first_in skips (10 ∷ rest) ≡ first_in skips rest
unfolding after_gap
first_behind_newline true rest = refl
first_behind_newline false rest = refl
