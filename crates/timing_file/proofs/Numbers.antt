-- Numbers by name are in their range, and are read one after another.
use Rattle.std.proofs.Common.{◌≡◌, ℕ, List, [], ◌∷◌, ◌++◌, String, Global, string_bytes, Some, Result, Ok, Err, refl, sym, ap, subst, ◌∙◌, append_assoc, arith}
use Rattle.std.specs.Prelude.{◌≤◌, IfOk, ok_or, All}
use Rattle.std.specs.List.{AllByRecursion}
use Rattle.std.proofs.lemmas.List.Elements.{All-from_recursion}
use Rattle.serde_json.specs.Data.{Data, Members, no_members, member}
use Rattle.serde_json.specs.View.{view, members_view}
use Rattle.serde_json.specs.declared.value.Value.{Value}
use Rattle.listed.specs.Steps.{◌>>=◌}
use Rattle.listed.proofs.Answered.{IfOk-step}
use Rattle.json_fields.specs.Numbers.{whole_in}
use Rattle.json_fields.proofs.Laws.{whole_in-range, IfOk-ok_or}
use Rattle.json_fields.proofs.Loops.{with_front}
use Rattle.timing_file.specs.declared.fault.TimingKind.{TimingKind}
use Rattle.timing_file.specs.declared.fault.TimingKind.TheVariants.{Range}
use Rattle.timing_file.specs.declared.timing.NamedNumber.{NamedNumber}
use Rattle.timing_file.specs.Timing.{named, numbers_of}
use Rattle.timing_file.specs.Lawful.{AreUpTo, AreNumbers, IsInRange}

-- one number more was read
pub numbers_go_on : (greatest : ℕ) (front : List NamedNumber) (left rest : List (String Global × Value)) (k : String Global) (v : Value) (n : ℕ) (whole : Result (List NamedNumber) TimingKind)
    → left ≡ (k, v) ∷ rest → Some n ≡ whole_in 1 greatest (view v)
    → with_front front (numbers_of greatest (members_view left)) ≡ whole
    → with_front (front ++ named (string_bytes k) n ∷ []) (numbers_of greatest (members_view rest)) ≡ whole
numbers_go_on greatest front left rest k v n whole split is before =
    let step : with_front front (numbers_of greatest (members_view left)) ≡ with_front (front ++ named (string_bytes k) n ∷ []) (numbers_of greatest (members_view rest)) =
    rw (split, ← is) (joined front (named (string_bytes k) n) (numbers_of greatest (members_view rest))) in
    sym step ∙ before
  where
    joined : (front : List NamedNumber) (y : NamedNumber) (rest : Result (List NamedNumber) TimingKind) → with_front front (rest >>= λ ys. Ok (y ∷ ys)) ≡ with_front (front ++ y ∷ []) rest
    joined front y (Err kind) = refl
    joined front y (Ok ys) = ap Ok (sym (append_assoc front (y ∷ []) ys))

abbrev IsUpTo : ℕ → NamedNumber → Type 0
IsUpTo greatest named = (1 ≤ named.number) × (named.number ≤ greatest)

in_range : (greatest : ℕ) (ms : Members) → IfOk (numbers_of greatest ms) (AllByRecursion (IsUpTo greatest))
in_range greatest no_members = tt
in_range greatest (member name d ms) =
    IfOk-step (λ n. IsUpTo greatest (named name n)) (AllByRecursion (IsUpTo greatest)) (ok_or (whole_in 1 greatest d) Range)
    (λ number. numbers_of greatest ms >>= λ more. Ok (named name number ∷ more))
    (IfOk-ok_or (λ n. IsUpTo greatest (named name n)) (whole_in 1 greatest d) Range (λ n is. whole_in-range 1 greatest d n is))
    (λ number first. IfOk-step (AllByRecursion (IsUpTo greatest)) (AllByRecursion (IsUpTo greatest)) (numbers_of greatest ms)
    (λ more. Ok (named name number ∷ more)) (in_range greatest ms) (λ more rest. (first, rest)))

pub numbers_in_range : (greatest : ℕ) (ms : Members) (ns : List NamedNumber) → numbers_of greatest ms ≡ Ok ns → All (IsUpTo greatest) ns
numbers_in_range greatest ms ns is =
    All-from_recursion (IsUpTo greatest) ns (subst (λ r. IfOk r (AllByRecursion (IsUpTo greatest))) is (in_range greatest ms))

-- numbers up to the greatest distance
pub up_to_distance : (numbers : List NamedNumber) → AreUpTo 2147483647 numbers → AreNumbers numbers
up_to_distance numbers are = record {
  range = λ k d inside. (let range = are.range k d inside in (range.0, omega (arith, range.1)));
  order = are.order;
  once = are.once;
}
