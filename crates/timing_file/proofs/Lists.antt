-- Loops and extras that are read are ranges of code words, and at most 256.
use Rattle.std.proofs.Common.{◌≡◌, ℕ, ◌%◌, ◌^◌, ◌<◌, ◌≤◌, cond, List, [], length, Option, Some, None, Result, Ok, Err, subst, arith, eqb}
use Rattle.std.proofs.lemmas.Option.{same_Some}
use Rattle.std.specs.Prelude.{IfOk, ok_or, codes, nat_le}
use Rattle.std.specs.List.{AllByRecursion}
use Rattle.std.proofs.lemmas.Bool.{eqb-true, leb-true}
use Rattle.std.proofs.lemmas.List.Elements.{All-from_recursion}
use Rattle.serde_json.specs.Data.{Data}
use Rattle.serde_json.specs.Find.{get}
use Rattle.listed.specs.Faults.{Gives}
use Rattle.listed.specs.Lists.{all_of}
use Rattle.listed.specs.declared.fault.Fault.{Fault}
use Rattle.listed.proofs.Answered.{IfOk-step, IfOk-all_of, IfOk-each_from_length, IfOk-from_Gives}
use Rattle.json_fields.specs.Lists.{list_up_to}
use Rattle.json_fields.specs.Numbers.{address_in}
use Rattle.json_fields.proofs.Laws.{whole_in-range, address_in-lt, bind_some, passed, list_up_to-length, IfOk-ok_or}
use Rattle.timing_file.specs.declared.fault.TimingKind.{TimingKind}
use Rattle.timing_file.specs.declared.fault.TimingKind.TheVariants.{Range}
use Rattle.timing_file.specs.declared.ranges.Ranged.{Ranged}
use Rattle.timing_file.specs.declared.timing.Extra.{Extra}
use Rattle.timing_file.specs.declared.timing.Loop.{Loop}
use Rattle.timing_file.specs.Ranges.{word_in, word_at, count_in, count_at, ranged_at}
use Rattle.timing_file.specs.Timing.{or_empty, list_with, loop_of, extra_of, loops_at, extras_at}
use Rattle.timing_file.specs.Lawful.{AreWords, IsLoop, IsExtra}
use Rattle.timing_file.specs.Working.InRange.{AreFew}

word_at-word : (key : List ℕ) (d : Data) (n : ℕ) → word_at key d ≡ Some n → (n % 4 ≡ 0) × (n < 2 ^ 32)
word_at-word key d n is =
    let found = bind_some (get key d) word_in n is in
    let read = bind_some (address_in found.0) (λ address. cond (eqb (address % 4) 0) (Some address) None) n found.2 in
    let test = passed (eqb (read.0 % 4) 0) (Some read.0) n read.2 in
    subst (λ (m : ℕ). (m % 4 ≡ 0) × (m < 2 ^ 32)) (same_Some read.0 n test.1) (eqb-true _ _ test.0, address_in-lt found.0 read.0 read.1)

count_at-le : (key : List ℕ) (d : Data) (n : ℕ) → count_at key d ≡ Some n → n ≤ 2 ^ 20
count_at-le key d n is =
    let found = bind_some (get key d) count_in n is in
    (whole_in-range 0 (2 ^ 20) found.0 n found.2).1

record IsRanged (r : Ranged) : Type 0 where
  pub words : AreWords r.from r.to
  pub number : r.number ≤ 2 ^ 20

ranged : (key : List ℕ) (d : Data) (r : Ranged) → ranged_at key d ≡ Some r → IsRanged r
unfolding ranged_at
ranged key d r is =
    let from = bind_some (word_at (codes "from") d) _ r is in
    let to = bind_some (word_at (codes "to") d) _ r from.2 in
    let number = bind_some (count_at key d) _ r to.2 in
    let found : Ranged = record { from = from.0; to = to.0; number = number.0 } in
    let test = passed (nat_le from.0 to.0) (Some found) r number.2 in
    let low = word_at-word (codes "from") d from.0 from.1 in
    let high = word_at-word (codes "to") d to.0 to.1 in
    let words : AreWords from.0 to.0 = record { from_aligned = low.0; to_aligned = high.0; order = leb-true from.0 to.0 test.0; below = high.1 } in
    subst IsRanged (same_Some found r test.1) (record { words = words; number = count_at-le key d number.0 number.1 })

loop-is : (d : Data) → IfOk (loop_of d) IsLoop
loop-is d =
    IfOk-step IsRanged IsLoop (ok_or (ranged_at (codes "bound") d) Range) (λ r. Ok (record { from = r.from; to = r.to; bound = r.number }))
    (IfOk-ok_or IsRanged (ranged_at (codes "bound") d) Range (λ r is. ranged (codes "bound") d r is))
    (λ r is. (is.words, is.number))

extra-is : (d : Data) → IfOk (extra_of d) IsExtra
extra-is d =
    IfOk-step IsRanged IsExtra (ok_or (ranged_at (codes "cycles") d) Range) (λ r. Ok (record { from = r.from; to = r.to; cycles = r.number }))
    (IfOk-ok_or IsRanged (ranged_at (codes "cycles") d) Range (λ r is. ranged (codes "cycles") d r is))
    (λ r is. (is.words, is.number))

both_ok : {A : Type 0} (P : A → Type 0) (r : Result (List A) TimingKind) (n : ℕ) → n ≤ 256 → IfOk r (AllByRecursion P) → IfOk r (λ xs. length xs ≡ n) → IfOk r (AreFew P)
both_ok P (Ok xs) n few each same = record { few = omega (arith, few, same); each = All-from_recursion P xs each }
both_ok P (Err kind) n few each same = tt

few_of : {A : Type 0} (P : A → Type 0) (gives : Data → Result A TimingKind) → ((d : Data) → IfOk (gives d) P) → (d : Data) → IfOk (list_with (λ place. gives) d) (AreFew P)
few_of P gives each d =
    IfOk-step (λ ds. length ds ≤ 256) (AreFew P) (ok_or (list_up_to 256 d) Range) (all_of gives)
    (IfOk-ok_or (λ ds. length ds ≤ 256) (list_up_to 256 d) Range (λ ds is. list_up_to-length 256 d ds is))
    (λ ds few. both_ok P (all_of gives ds) (length ds) few (IfOk-all_of gives P each 0 ds) (IfOk-each_from_length (λ place. gives) 0 ds))

few_at : {A : Type 0} (P : A → Type 0) (gives : Data → Result A TimingKind) → ((d : Data) → IfOk (gives d) P) → (o : Option Data) → IfOk (or_empty (list_with (λ place. gives)) o) (AreFew P)
few_at P gives each None = record { few = omega arith; each = All-from_recursion P [] tt }
few_at P gives each (Some d) = few_of P gives each d

pub few_loops : (d : Data) (r : Result (List Loop) (Fault TimingKind)) → Gives r (loops_at d) → IfOk r (AreFew IsLoop)
few_loops d r gives = IfOk-from_Gives (AreFew IsLoop) r (loops_at d) gives (few_at IsLoop loop_of loop-is (get (codes "loops") d))

pub few_extras : (d : Data) (r : Result (List Extra) (Fault TimingKind)) → Gives r (extras_at d) → IfOk r (AreFew IsExtra)
few_extras d r gives = IfOk-from_Gives (AreFew IsExtra) r (extras_at d) gives (few_at IsExtra extra_of extra-is (get (codes "extra") d))
