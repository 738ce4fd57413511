-- A text that is written piece by piece.
use Rattle.std.proofs.Common.{◌≡◌, ℕ, suc, ◌<◌, ◌≤◌, List, [], ◌∷◌, length, take, drop, min, Result, Ok, Err, inl, inr, refl, ap, ◌∙◌, sym, subst, arith}
use Rattle.std.proofs.lemmas.Bool.{cases_lt}
use Rattle.std.proofs.lemmas.List.{take_min, drop_all}
use Rattle.wcet_io.specs.declared.fault.SinkFault.{SinkFault}
use Rattle.command_steps.specs.Reports.{Writes, Puts, WritesText}

-- writing the rest from here writes the text from the start
abbrev pub Continues : {O : Type 0} → Writes O → O → List ℕ → O → List ℕ → Type 0
Continues {O} writes start text now rest =
    (count : ℕ) (given : Result (Unit {0}) SinkFault) (after : O) → Puts writes count now rest given after → WritesText writes start text given after

drop_min : (n : ℕ) (xs : List ℕ) → drop (min n (length xs)) xs ≡ drop n xs
drop_min n xs = elim (cases_lt n (length xs)) [
  | inl few ↦ ap (λ (k : ℕ). drop k xs) (omega arith)
  | inr past ↦ drop_all (min n (length xs)) xs (omega arith) ∙ sym (drop_all n xs past)
]

pub nothing_left : (xs : List ℕ) → length xs ≤ 0 → xs ≡ []
nothing_left [] few = refl
nothing_left (x ∷ xs) few = absurd (omega (arith, few))

-- a piece was written, and the rest behind it is left
pub one_more : {O : Type 0} (writes : Writes O) (start : O) (text : List ℕ) (now : O) (rest : List ℕ) (size : ℕ) (piece left : List ℕ) (next : O)
    → Continues writes start text now rest → 0 < length rest → size ≡ min 4096 (length rest) → piece ≡ take size rest → left ≡ drop size rest
    → writes now piece (Ok tt) next → Continues writes start text next left
one_more {O} writes start text now rest size piece left next goes some is taken dropped wrote count given after puts =
    let same_piece : piece ≡ take 4096 rest = taken ∙ ap (λ (k : ℕ). take k rest) is ∙ take_min 4096 rest in
    let same_left : left ≡ drop 4096 rest = dropped ∙ ap (λ (k : ℕ). drop k rest) is ∙ drop_min 4096 rest in
    goes (suc count) given after (
      some,
      inl (
        next,
        subst (λ (p : List ℕ). writes now p (Ok tt) next) same_piece wrote,
        subst
            (λ (l : List ℕ). Puts writes count next l given after) same_left puts,
      ),
    )

-- the next piece was refused
pub refused : {O : Type 0} (writes : Writes O) (start : O) (text : List ℕ) (now : O) (rest : List ℕ) (size : ℕ) (piece : List ℕ) (fault : SinkFault)
    (after : O)
    → Continues writes start text now rest → 0 < length rest → size ≡ min 4096 (length rest) → piece ≡ take size rest
    → writes now piece (Err fault) after → WritesText writes start text (Err fault) after
refused {O} writes start text now rest size piece fault after goes some is taken wrote =
    let same_piece : piece ≡ take 4096 rest = taken ∙ ap (λ (k : ℕ). take k rest) is ∙ take_min 4096 rest in
    goes 1 (Err fault) after (some, inr (fault, subst (λ (p : List ℕ). writes now p (Err fault) after) same_piece wrote, refl))
