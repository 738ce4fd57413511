-- The names of the objects of a generated system.
use Rattle.std.proofs.Common.{◌≡◌, ℕ, ◌+◌, ◌<◌, true, List, [], ◌∷◌, refl, sym, ◌∙◌, arith, decimal}
use Rattle.std.proofs.lemmas.Fmt.{decimal_digit}
use Rattle.oil_grammar.specs.Bytes.{is_name_byte}
use Rattle.oil_grammar.specs.Grammar.{IsNoWord}
use Rattle.oil_grammar.proofs.Proper.{Every, IsName}
use Rattle.demo_gen.specs.Demo.{task_name, alarm_name}
use Rattle.demo_gen.proofs.Below.{passing}

goes_on : (number : ℕ) → number < 8 → is_name_byte (48 + number) ≡ true
goes_on number early = passing (λ n. is_name_byte (48 + n)) 8 number refl early

digits_go_on : (number : ℕ) → number < 8 → Every is_name_byte (decimal number)
digits_go_on number early = rw (decimal_digit number (omega arith)) (goes_on number early, tt)

pub task_is_name : (number : ℕ) → number < 8 → IsName (task_name number)
task_is_name number early = record { first = 80; others = decimal number; same = refl; letter = refl; name_bytes = digits_go_on number early }

pub alarm_is_name : (number : ℕ) → number < 8 → IsName (alarm_name number)
alarm_is_name number early = record { first = 65; others = decimal number; same = refl; letter = refl; name_bytes = digits_go_on number early }

-- lists that begin otherwise are others
pub other_first : (a b : ℕ) (xs ys : List ℕ) → (a ∷ xs) ≡ (b ∷ ys) → (a ≡ b → ⊥) → ⊥
other_first a b xs ys is differ = differ cc

pub task_is_no_word : (number : ℕ) → IsNoWord (task_name number)
task_is_no_word number = record {
  not_true = λ is. other_first _ _ _ _ is (λ h. omega (arith, h));
  not_false = λ is. other_first _ _ _ _ is (λ h. omega (arith, h));
  not_auto = λ is. other_first _ _ _ _ is (λ h. omega (arith, h));
}

-- names tell their numbers
pub same_number : (a b : ℕ) → a < 8 → b < 8 → decimal a ≡ decimal b → a ≡ b
same_number a b early early' same =
    let digits : ((48 + a) ∷ []) ≡ ((48 + b) ∷ []) = sym (decimal_digit a (omega arith)) ∙ same ∙ decimal_digit b (omega arith) in
    let codes : 48 + a ≡ 48 + b = cc in
    omega (arith, codes)
