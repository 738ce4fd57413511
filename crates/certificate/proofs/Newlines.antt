-- A newline after a JSON text doesn't change what is read of it.
use Rattle.std.proofs.Common.{◌≡◌, ℕ, suc, ◌+◌, ◌-◌, ◌==◌, Bool, true, false, cond, List, [], ◌∷◌, ◌++◌, length, drop, Option, Some, None, option_map, option_and_then, refl, ap, arith, length-append}
use Rattle.std.specs.List.{prefix_len}
use Rattle.std.specs.Char.{is_ascii_digit}
use Rattle.std.proofs.Math.Bool.{and-false}
use Rattle.std.proofs.lemmas.List.{take-append-le}
use Rattle.json.specs.Ascii as ascii
use Rattle.json.specs.Text.{Within, plain, after_backslash, after_u, after_high, content, code_unit, short_escape}
use Rattle.json.specs.Token.{boolean, null}
use Rattle.json.specs.Word.{ends_word, after_digits, after_minus, after_sign, after_whole, after_fraction, after_exponent, after_number, number_before, literal, word}
use Rattle.json.specs.Lex.{Lexeme, Class, quote, backslash, operator, space, other, class, Mode, between, in_word, in_string, in_escape, lex_byte, lex, punctuate, fresh, tokens}
use Rattle.json.specs.Json as json
use Rattle.serde_json.specs.Read.{read, max_depth, of_json}

abbrev newline : List ℕ
newline = 10 ∷ []

-- ---- strings

no_unit : (a b c : ℕ) → code_unit a b c 10 ≡ None
unfolding code_unit
no_unit a b c = rw and-false refl

none_either : {A : Type 0} (test : Bool) → cond {A = Option A} test None None ≡ None
none_either true = refl
none_either false = refl

same_next : {A B : Type 0} (o : Option A) (f g : A → Option B) → ((x : A) → f x ≡ g x) → option_and_then f o ≡ option_and_then g o
same_next None f g each = refl
same_next (Some x) f g each = each x

content-newline : (w : Within) (xs : List ℕ) → content w (xs ++ newline) ≡ content w xs
unfolding content short_escape
content-newline plain [] = refl
content-newline plain (x ∷ xs) = rw (content-newline plain xs, content-newline after_backslash xs) refl
content-newline after_backslash [] = refl
content-newline after_backslash (x ∷ xs) = rw (content-newline plain xs, content-newline after_u xs) refl
content-newline after_u [] = refl
content-newline after_u (a ∷ []) = refl
content-newline after_u (a ∷ b ∷ []) = refl
content-newline after_u (a ∷ b ∷ c ∷ []) = rw (no_unit a b c) refl
content-newline after_u (a ∷ b ∷ c ∷ d ∷ xs) = same_next (code_unit a b c d) _ _ (λ u. rw (content-newline plain xs, content-newline (after_high u) xs) refl)
content-newline (after_high h) [] = refl
content-newline (after_high h) (s ∷ []) = refl
content-newline (after_high h) (s ∷ u ∷ []) = refl
content-newline (after_high h) (s ∷ u ∷ a ∷ []) = refl
content-newline (after_high h) (s ∷ u ∷ a ∷ b ∷ []) = refl
content-newline (after_high h) (s ∷ u ∷ a ∷ b ∷ c ∷ []) = rw (no_unit a b c) (none_either _)
content-newline (after_high h) (s ∷ u ∷ a ∷ b ∷ c ∷ d ∷ xs) = rw (content-newline plain xs) refl

-- ---- words

abbrev more : Option (List ℕ) → Option (List ℕ)
more rest = option_map (λ t. t ++ newline) rest

ends_word-newline : (t : List ℕ) → ends_word (t ++ newline) ≡ ends_word t
ends_word-newline [] = refl
ends_word-newline (x ∷ xs) = refl

prefix_len-newline : (t : List ℕ) → prefix_len is_ascii_digit (t ++ newline) ≡ prefix_len is_ascii_digit t
prefix_len-newline [] = refl
prefix_len-newline (x ∷ xs) = rw (prefix_len-newline xs) refl

drop_digit : (digit : Bool) (x n : ℕ) (xs : List ℕ) → drop n (xs ++ newline) ≡ drop n xs ++ newline
    → drop (cond digit (1 + n) 0) (x ∷ (xs ++ newline)) ≡ drop (cond digit (1 + n) 0) (x ∷ xs) ++ newline
drop_digit true x n xs same = let next : 1 + n ≡ suc n = omega arith in rw next same
drop_digit false x n xs same = refl

drop_digits : (t : List ℕ) → drop (prefix_len is_ascii_digit t) (t ++ newline) ≡ drop (prefix_len is_ascii_digit t) t ++ newline
drop_digits [] = refl
drop_digits (x ∷ xs) = drop_digit (is_ascii_digit x) x (prefix_len is_ascii_digit xs) xs (drop_digits xs)

more_if_not : (test : Bool) (t : List ℕ) → cond test None (Some (t ++ newline)) ≡ more (cond test None (Some t))
more_if_not true t = refl
more_if_not false t = refl

either : {A B : Type 0} (f : A → B) (test : Bool) (x y : A) → cond test (f x) (f y) ≡ f (cond test x y)
either f true x y = refl
either f false x y = refl

after_digits-newline : (t : List ℕ) → after_digits (t ++ newline) ≡ more (after_digits t)
after_digits-newline t = rw (prefix_len-newline t, drop_digits t) (more_if_not _ _)

after_minus-newline : (t : List ℕ) → after_minus (t ++ newline) ≡ after_minus t ++ newline
after_minus-newline [] = refl
after_minus-newline (x ∷ xs) = either (λ t. t ++ newline) (x == ascii.minus) xs (x ∷ xs)

after_sign-newline : (t : List ℕ) → after_sign (t ++ newline) ≡ after_sign t ++ newline
after_sign-newline [] = refl
after_sign-newline (x ∷ xs) = either (λ t. t ++ newline) _ xs (x ∷ xs)

after_whole-newline : (t : List ℕ) → after_whole (t ++ newline) ≡ more (after_whole t)
after_whole-newline [] = refl
after_whole-newline (x ∷ xs) = rw (after_digits-newline (x ∷ xs)) (either more (x == ascii.zero) (Some xs) (after_digits (x ∷ xs)))

after_fraction-newline : (t : List ℕ) → after_fraction (t ++ newline) ≡ more (after_fraction t)
after_fraction-newline [] = refl
after_fraction-newline (x ∷ xs) = rw (after_digits-newline xs) (either more (x == ascii.dot) (after_digits xs) (Some (x ∷ xs)))

after_exponent-newline : (t : List ℕ) → after_exponent (t ++ newline) ≡ more (after_exponent t)
after_exponent-newline [] = refl
after_exponent-newline (x ∷ xs) =
    rw (after_sign-newline xs, after_digits-newline (after_sign xs)) (either more _ (after_digits (after_sign xs)) (Some (x ∷ xs)))

then_more : (next : List ℕ → Option (List ℕ)) → ((t : List ℕ) → next (t ++ newline) ≡ more (next t))
    → (rest : Option (List ℕ)) → option_and_then next (more rest) ≡ more (option_and_then next rest)
then_more next each None = refl
then_more next each (Some t) = each t

after_number-newline : (t : List ℕ) → after_number (t ++ newline) ≡ more (after_number t)
unfolding after_number
after_number-newline t =
    let whole = after_whole (after_minus t) in
    rw (after_minus-newline t, after_whole-newline (after_minus t), then_more after_fraction after_fraction-newline whole)
    (then_more after_exponent after_exponent-newline (option_and_then after_fraction whole))

number_before-newline : (t : List ℕ) (rest : Option (List ℕ)) → number_before (t ++ newline) (more rest) ≡ number_before t rest
number_before-newline t None = refl
number_before-newline t (Some rest) =
    let many : length (t ++ newline) - length (rest ++ newline) ≡ length t - length rest = omega (arith, length-append t newline, length-append rest newline) in
    rw (many, ends_word-newline rest, take-append-le (length t - length rest) t newline (omega arith)) refl

true-newline : (t : List ℕ) → literal ascii.true_text (boolean true) (t ++ newline) ≡ literal ascii.true_text (boolean true) t
true-newline [] = refl
true-newline (a ∷ []) = refl
true-newline (a ∷ b ∷ []) = refl
true-newline (a ∷ b ∷ c ∷ []) = refl
true-newline (a ∷ b ∷ c ∷ d ∷ rest) = rw (ends_word-newline rest) refl

false-newline : (t : List ℕ) → literal ascii.false_text (boolean false) (t ++ newline) ≡ literal ascii.false_text (boolean false) t
false-newline [] = refl
false-newline (a ∷ []) = refl
false-newline (a ∷ b ∷ []) = refl
false-newline (a ∷ b ∷ c ∷ []) = refl
false-newline (a ∷ b ∷ c ∷ d ∷ []) = refl
false-newline (a ∷ b ∷ c ∷ d ∷ e ∷ rest) = rw (ends_word-newline rest) refl

null-newline : (t : List ℕ) → literal ascii.null_text null (t ++ newline) ≡ literal ascii.null_text null t
null-newline [] = refl
null-newline (a ∷ []) = refl
null-newline (a ∷ b ∷ []) = refl
null-newline (a ∷ b ∷ c ∷ []) = refl
null-newline (a ∷ b ∷ c ∷ d ∷ rest) = rw (ends_word-newline rest) refl

word-newline : (x : ℕ) (xs : List ℕ) → word (x ∷ (xs ++ newline)) ≡ word (x ∷ xs)
unfolding word
word-newline x xs =
    rw (
      true-newline (x ∷ xs),
      false-newline (x ∷ xs),
      null-newline (x ∷ xs),
      after_number-newline (x ∷ xs),
      number_before-newline (x ∷ xs) (after_number (x ∷ xs)),
    ) refl

-- ---- lexemes

lex_byte-same : (m : Mode) (c : Class) (x : ℕ) (xs ys : List ℕ) (k j : Mode → List Lexeme)
    → content plain xs ≡ content plain ys → word (x ∷ xs) ≡ word (x ∷ ys) → ((next : Mode) → k next ≡ j next)
    → lex_byte m c x xs k ≡ lex_byte m c x ys j
lex_byte-same between quote x xs ys k j text name each = rw (text, each in_string) refl
lex_byte-same between backslash x xs ys k j text name each = rw (each in_word) refl
lex_byte-same between operator x xs ys k j text name each = rw (each between) refl
lex_byte-same between space x xs ys k j text name each = each between
lex_byte-same between other x xs ys k j text name each = rw (name, each in_word) refl
lex_byte-same in_word quote x xs ys k j text name each = each in_word
lex_byte-same in_word backslash x xs ys k j text name each = each in_word
lex_byte-same in_word operator x xs ys k j text name each = rw (each between) refl
lex_byte-same in_word space x xs ys k j text name each = each between
lex_byte-same in_word other x xs ys k j text name each = each in_word
lex_byte-same in_string quote x xs ys k j text name each = each between
lex_byte-same in_string backslash x xs ys k j text name each = each in_escape
lex_byte-same in_string operator x xs ys k j text name each = each in_string
lex_byte-same in_string space x xs ys k j text name each = each in_string
lex_byte-same in_string other x xs ys k j text name each = each in_string
lex_byte-same in_escape c x xs ys k j text name each = each in_string

lex-newline : (m : Mode) (xs : List ℕ) → lex m (xs ++ newline) ≡ lex m xs
unfolding lex
lex-newline between [] = refl
lex-newline in_word [] = refl
lex-newline in_string [] = refl
lex-newline in_escape [] = refl
lex-newline m (x ∷ xs) = lex_byte-same m (class x) x (xs ++ newline) xs _ _ (content-newline plain xs) (word-newline x xs) (λ next. lex-newline next xs)

pub tokens-newline : (text : List ℕ) → tokens (text ++ newline) ≡ tokens text
tokens-newline text = ap (punctuate fresh) (lex-newline between text)

-- a text and its line are read as the same value
pub read-newline : (text : List ℕ) → read (text ++ newline) ≡ read text
read-newline text = ap (λ ts. option_and_then of_json (option_and_then (λ p. json.if_last p.0 p.1) (json.value max_depth ts))) (tokens-newline text)
