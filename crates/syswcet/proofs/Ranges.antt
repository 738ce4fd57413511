-- The numbers of a command that words have are in the ranges that it asks for.
use Rattle.std.proofs.Common.{◌≡◌, ℕ, ◌≤◌, Bool, true, false, cond, List, Option, Some, None, refl, arith}
use Rattle.std.specs.Prelude.{IfSome, nat_le, ◌&&◌, ◌==◌, length, codes, option_and_then}
use Rattle.std.specs.Option.{option_map}
use Rattle.std.proofs.lemmas.Bool.{leb-true, and_parts}
use Rattle.syswcet.specs.declared.words.Command.{Command}
use Rattle.syswcet.specs.declared.words.Command.TheVariants.{Demo}
use Rattle.syswcet.specs.Words as shapes
use Rattle.syswcet.specs.Words.{IsInRange, word, has_word, is_single, is_shape, begins, is_last, number_of, number_within, within, limit_of, cuts_of, cuts_limit, command_of}
use Rattle.split_commands.specs.Find.{usual_cuts}

-- ---- of options

either : {A : Type 0} (P : A → Type 0) (b : Bool) (x y : A) → P x → P y → P (cond b x y)
either P true x y one other = one
either P false x y one other = other

tested : {A : Type 0} (P : A → Type 0) (b : Bool) (x : A) → (b ≡ true → P x) → IfSome (cond b (Some x) None) P
tested P true x holds = holds refl
tested P false x holds = tt

mapped : {A B : Type 0} (P : A → Type 0) (Q : B → Type 0) (f : A → B) (o : Option A) → IfSome o P → ((x : A) → P x → Q (f x)) → IfSome (option_map f o) Q
mapped P Q f None has gives = tt
mapped P Q f (Some x) has gives = gives x has

chained : {A B : Type 0} (P : A → Type 0) (Q : B → Type 0) (f : A → Option B) (o : Option A) → IfSome o P → ((x : A) → P x → IfSome (f x) Q)
    → IfSome (option_and_then f o) Q
chained P Q f None has gives = tt
chained P Q f (Some x) has gives = gives x has

anything : {A : Type 0} (o : Option A) → IfSome o (λ x. Unit {0})
anything None = tt
anything (Some x) = tt

-- ---- numbers within a range

abbrev IsWithin : ℕ → ℕ → ℕ → Type 0
IsWithin low high n = (low ≤ n) × (n ≤ high)

number_is_within : (low high : ℕ) (text : List ℕ) → IfSome (number_within low high text) (IsWithin low high)
number_is_within low high text = chained (λ n. Unit {0}) (IsWithin low high) (within low high) (number_of text) (anything (number_of text))
    (λ n _. tested (IsWithin low high) (nat_le low n && nat_le n high) n (λ is. let both = and_parts _ _ is in (leb-true _ _ both.0, leb-true _ _ both.1)))

few_cuts : (words : List (List ℕ)) → IfSome (cuts_limit words) (λ cuts. cuts ≤ 100)
few_cuts words = either (λ (o : Option ℕ). IfSome o (λ cuts. cuts ≤ 100)) (length words == 8) (Some usual_cuts) _ (omega arith)
    (either (λ (o : Option ℕ). IfSome o (λ cuts. cuts ≤ 100)) ((length words == 10) && has_word words 8 (codes "--cuts")) (cuts_of (word words 9)) None
    (weaker (cuts_of (word words 9)) (number_is_within 1 100 (word words 9))) tt)
  where
    weaker : (o : Option ℕ) → IfSome o (IsWithin 1 100) → IfSome o (λ cuts. cuts ≤ 100)
    weaker None holds = tt
    weaker (Some cuts) holds = holds.1

-- ---- the commands

abbrev IsRanged : Option Command → Type 0
IsRanged o = IfSome o IsInRange

with_limit : (f : ℕ → Command) (o : Option ℕ) → ((n : ℕ) → IsInRange (f n)) → IsRanged (option_map f o)
with_limit f o holds = mapped (λ n. Unit {0}) IsInRange f o (anything o) (λ n _. holds n)

found_in_range : (words : List (List ℕ)) → IsRanged (shapes.split_find_of words)
found_in_range words = chained (λ cuts. cuts ≤ 100) IsInRange (λ cuts. option_map (shapes.split_find words cuts) (number_of (word words 7))) (cuts_limit words)
    (few_cuts words) (λ cuts few. mapped (λ n. Unit {0}) IsInRange (shapes.split_find words cuts) (number_of (word words 7)) (anything (number_of (word words 7)))
    (λ bound _. few))

demo_in_range : (words : List (List ℕ)) → IsRanged (shapes.demo_of words)
demo_in_range words = chained (IsWithin 0 4294967295) IsInRange (λ seed. option_map (Demo seed) (number_within 1 8 (word words 2)))
    (number_within 0 4294967295 (word words 1)) (number_is_within 0 4294967295 (word words 1))
    (λ seed _. mapped (IsWithin 1 8) IsInRange (Demo seed) (number_within 1 8 (word words 2)) (number_is_within 1 8 (word words 2)) (λ count is. is))

pub in_range : (words : List (List ℕ)) → IfSome (command_of words) IsInRange
in_range words =
    either IsRanged (has_word words 0 (codes "check")) _ _ (either IsRanged (is_last words) (Some (shapes.check words)) None tt tt)
    (either IsRanged (has_word words 0 (codes "bound")) _ _ (with_limit (shapes.bound words) (limit_of words) (λ n. tt))
    (either IsRanged (has_word words 0 (codes "certify")) _ _ (with_limit (shapes.certify words) (limit_of words) (λ n. tt))
    (either IsRanged (is_single words (codes "all") 5) (Some (shapes.all words)) _ tt
    (either IsRanged (is_shape words (codes "show") (codes "oil") 3) (Some (shapes.show_oil words)) _ tt
    (either IsRanged (is_shape words (codes "show") (codes "code") 5) (Some (shapes.show_code words)) _ tt
    (either IsRanged (is_single words (codes "replay") 5) (Some (shapes.replay words)) _ tt
    (either IsRanged (is_single words (codes "loops") 6) (Some (shapes.loops words)) _ tt
    (either IsRanged (is_shape words (codes "split") (codes "check") 7) (Some (shapes.split_check words)) _ tt
    (either IsRanged (begins words (codes "split") (codes "find")) (shapes.split_find_of words) _ (found_in_range words)
    (either IsRanged (is_shape words (codes "trace") (codes "record") 6) (Some (shapes.trace_record words)) _ tt
    (either IsRanged (is_shape words (codes "trace") (codes "judge") 8) (Some (shapes.trace_judge words)) _ tt
    (either IsRanged (is_single words (codes "demo") 3) (shapes.demo_of words) None (demo_in_range words) tt))))))))))))
