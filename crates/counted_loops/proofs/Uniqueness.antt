-- That the code of a loop has one counter, start, step and limit at most.
use Rattle.std.proofs.Common.{◌≡◌, ℕ, zero, suc, ℤ, List, Bool, true, false, Option, Some, None, MatchOption, refl, sym, ◌∙◌, ap, subst, arith}
use Rattle.std.specs.Option.{option_map_or}
use Rattle.std.specs.Prelude.{nat_eq}
use Rattle.std.proofs.lemmas.Bool.Decides.{nat_tests}
use Rattle.rv32_decode.specs.declared.instruction.BranchOp.{BranchOp}
use Rattle.rv32_decode.specs.declared.instruction.Insn.{Insn}
use Rattle.rv32_machine.specs.Places.{preceding}
use Rattle.timing_file.specs.declared.timing.Loop.{Loop}
use Rattle.flow_graph.specs.declared.flow.Flow.{Flow}
use Rattle.counted_loops.specs.Counted.{Closes, CountsOnce, HasLimit, IsCounted}
use Rattle.counted_loops.specs.Laws.{HaveOneBound}
use Rattle.counted_loops.specs.Rounds.{IsLeastFromOne}
use Rattle.counted_loops.specs.Words.{IsWordIn, writes, writes_at, loads, adds}
use Rattle.counted_loops.specs.declared.counting.Closing.{Closing}
use Rattle.counted_loops.specs.declared.counting.Counting.{Counting}
use Rattle.counted_loops.specs.Working.Counting.{IsCounting, HasForm, AreRoundsOf}

-- the parts of a branch that closes the loop
pub record AreSame (op op' : BranchOp) (counter counter' limit limit' : ℕ) : Type 0 where
  pub op_is : op ≡ op'
  pub counter_is : counter ≡ counter'
  pub limit_is : limit ≡ limit'

pub closes_once : (code : ℕ → Option Insn) (l : Loop) (op op' : BranchOp) (counter counter' limit limit' : ℕ)
    → Closes code l op counter limit → Closes code l op' counter' limit' → AreSame op op' counter counter' limit limit'
closes_once code l op op' counter counter' limit limit' a b =
    let same = sym a.branch ∙ b.branch in
    record { op_is = cc; counter_is = cc; limit_is = cc }

-- the constant that a word loads, and what one adds
pub loads_once : (code : ℕ → Option Insn) (address register : ℕ) (one other : ℤ) → code address ≡ Some (loads register one)
    → code address ≡ Some (loads register other) → one ≡ other
loads_once code address register one other a b = let same = sym a ∙ b in cc

-- a word that adds to a register writes it
adds_writes : (code : ℕ → Option Insn) (address register : ℕ) (step : ℤ) → code address ≡ Some (adds register step) → writes_at code register address ≡ true
adds_writes code address register step at =
    ap (λ (found : Option Insn). option_map_or (writes register) found false) at ∙ same_number register
  where
    same_number : (n : ℕ) → nat_eq n n ≡ true
    same_number n = grind (arith, nat_tests)

pub counts_one : (code : ℕ → Option Insn) (l : Loop) (counter : ℕ) (one other : ℤ) → CountsOnce code l counter one → CountsOnce code l counter other
    → one ≡ other
counts_one code l counter one other a b =
    let same : b.place ≡ a.place = a.alone b.place b.inside (adds_writes code b.place counter other b.counts) in
    let there : code a.place ≡ Some (adds counter other) = ap code (sym same) ∙ b.counts in
    let both : Some (adds counter one) ≡ Some (adds counter other) = sym a.counts ∙ there in
    cc both

pub limits_one : (code : ℕ → Option Insn) (l : Loop) (limit : ℕ) (one other : ℤ) → HasLimit code l limit one → HasLimit code l limit other → one ≡ other
limits_one code l zero one other a b = a ∙ sym b
limits_one code l (suc n) one other a b = loads_once code (preceding (preceding l.from)) (suc n) one other a b

-- ---- The whole

pub counted_by : (code : ℕ → Option Insn) (entries : List (Option ℕ)) (flow : Flow) (l : Loop) (counting : Counting) (bound : ℕ)
    → IsCounting code l counting → HasForm code entries flow l counting.closing.limit → AreRoundsOf counting bound → IsCounted code entries flow l bound
counted_by code entries flow l counting bound is form rounds = record {
  op = counting.closing.op;
  counter = counting.closing.counter;
  limit = counting.closing.limit;
  start = counting.start;
  step = counting.step;
  value = counting.value;
  reached = form.front.reached;
  closes = is.closes;
  plain = form.plain;
  counts = is.counts;
  keeps = form.keeps;
  starts = is.starts;
  no_entry = form.front.no_entry;
  entered = form.front.entered;
  limit_is = is.limit_is;
  limit_loaded = form.limit_loaded;
  rounds = rounds;
}

-- the numbers of a counted loop
abbrev pub numbers_of : (code : ℕ → Option Insn) (entries : List (Option ℕ)) (flow : Flow) (l : Loop) (bound : ℕ) → IsCounted code entries flow l bound → Counting
numbers_of code entries flow l bound is = record {
  closing = record { op = is.op; counter = is.counter; limit = is.limit };
  start = is.start;
  step = is.step;
  value = is.value;
}

pub counting_is : (code : ℕ → Option Insn) (entries : List (Option ℕ)) (flow : Flow) (l : Loop) (bound : ℕ) (is : IsCounted code entries flow l bound)
    → IsCounting code l (numbers_of code entries flow l bound is)
counting_is code entries flow l bound is = record { closes = is.closes; counts = is.counts; starts = is.starts; limit_is = is.limit_is }

form_of : (code : ℕ → Option Insn) (entries : List (Option ℕ)) (flow : Flow) (l : Loop) (bound : ℕ) (is : IsCounted code entries flow l bound)
    → HasForm code entries flow l is.limit
form_of code entries flow l bound is = record {
  plain = is.plain;
  keeps = is.keeps;
  front = record { reached = is.reached; no_entry = is.no_entry; entered = is.entered };
  limit_loaded = is.limit_loaded;
}

abbrev numbers : BranchOp → ℕ → ℕ → ℤ → ℤ → ℤ → Counting
numbers op counter limit start step value = record { closing = record { op = op; counter = counter; limit = limit }; start = start; step = step; value = value }

same_numbers : (op op' : BranchOp) (counter counter' limit limit' : ℕ) (start start' step step' value value' : ℤ) → AreSame op op' counter counter' limit limit'
    → start ≡ start' → step ≡ step' → value ≡ value' → numbers op counter limit start step value ≡ numbers op' counter' limit' start' step' value'
same_numbers op op' counter counter' limit limit' start start' step step' value value' same a b c =
    ap (λ o. numbers o counter limit start step value) same.op_is
    ∙ (ap (λ n. numbers op' n limit start step value) same.counter_is ∙ (ap (λ n. numbers op' counter' n start step value) same.limit_is
    ∙ (ap (λ z. numbers op' counter' limit' z step value) a ∙ (ap (λ z. numbers op' counter' limit' start' z value) b
    ∙ ap (λ z. numbers op' counter' limit' start' step' z) c))))

-- two that a loop has are one
numbers_once : (code : ℕ → Option Insn) (l : Loop) (one other : Counting) → IsCounting code l one → IsCounting code l other → one ≡ other
numbers_once code l one other a b =
    let same = closes_once code l one.closing.op other.closing.op one.closing.counter other.closing.counter one.closing.limit other.closing.limit a.closes b.closes in
    let start : one.start ≡ other.start = loads_once code (preceding l.from) other.closing.counter one.start other.start
    (subst (λ counter. code (preceding l.from) ≡ Some (loads counter one.start)) same.counter_is a.starts) b.starts in
    let step : one.step ≡ other.step = counts_one code l other.closing.counter one.step other.step
    (subst (λ counter. CountsOnce code l counter one.step) same.counter_is a.counts) b.counts in
    let value : one.value ≡ other.value = limits_one code l other.closing.limit one.value other.value
    (subst (λ limit. HasLimit code l limit one.value) same.limit_is a.limit_is) b.limit_is in
    same_numbers one.closing.op other.closing.op one.closing.counter other.closing.counter one.closing.limit other.closing.limit one.start other.start
    one.step other.step one.value other.value same start step value

-- a counted loop has the form, and the rounds, of any numbers that it has
pub record Has (code : ℕ → Option Insn) (entries : List (Option ℕ)) (flow : Flow) (l : Loop) (counting : Counting) (bound : ℕ) : Type 0 where
  pub form : HasForm code entries flow l counting.closing.limit
  pub rounds : AreRoundsOf counting bound

pub counted_has : (code : ℕ → Option Insn) (entries : List (Option ℕ)) (flow : Flow) (l : Loop) (counting : Counting) (bound : ℕ)
    → IsCounting code l counting → IsCounted code entries flow l bound → Has code entries flow l counting bound
counted_has code entries flow l counting bound counts is =
    subst (λ c. Has code entries flow l c bound)
    (numbers_once code l (numbers_of code entries flow l bound is) counting (counting_is code entries flow l bound is) counts)
    (record { form = form_of code entries flow l bound is; rounds = is.rounds })

-- ---- Its bound

least_once : (P : ℕ → Type 0) (m n : ℕ) → IsLeastFromOne P m → IsLeastFromOne P n → m ≡ n
least_once P m n a b = omega (arith, a.least n b.positive b.holds, b.least m a.positive a.holds)

pub have_one_bound : HaveOneBound
have_one_bound code entries flow l one other a b =
    let has : Has code entries flow l (numbers_of code entries flow l other b) one =
    counted_has code entries flow l (numbers_of code entries flow l other b) one (counting_is code entries flow l other b) a in
    let same : suc one ≡ suc other = least_once _ (suc one) (suc other) has.rounds.first b.rounds.first in
    omega arith
