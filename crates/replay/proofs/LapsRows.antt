-- The laps of one invocation, of which the first ones have moved on.
use Rattle.std.proofs.Common.{◌≡◌, ℕ, ◌+◌, ◌<◌, ◌≤◌, ◌^◌, ◌≢◌, ◌⊎◌, inl, inr, Bool, true, false, List, length, get_or, set, Some, refl, sym, ◌∙◌, ap, subst, arith, get_or-set_other, get_or-set_same}
use Rattle.std.specs.Prelude.{◌&&◌, slice_get, nat_le}
use Rattle.std.proofs.lemmas.Bool.{leb-true, le-leb, and_parts}
use Rattle.std.proofs.lemmas.List.{length-set}
use Rattle.std.proofs.lemmas.Option.{same_Some, slice_get_within, slice_get-get_or}
use Rattle.timing_file.specs.declared.timing.Loop.{Loop}
use Rattle.osek_machine.specs.Loops.{laps_after}
use Rattle.replay.specs.Working.Laps.{AreBounded, AreWithin, HasMovedOn}

-- the laps before the n-th are within bounds
pub record AreWithinBelow (loops : List Loop) (laps : List ℕ) (n : ℕ) : Type 0 where
  pub each : (k : ℕ) (declared : Loop) → k < n → slice_get loops k ≡ Some declared → get_or laps k 0 ≤ declared.bound

pub record MovedBelow (loops : List Loop) (from to : ℕ) (old new : List ℕ) (n : ℕ) (within : Bool) : Type 0 where
  pub count : length new ≡ length old
  pub below : (k : ℕ) (declared : Loop) → k < n → slice_get loops k ≡ Some declared → get_or new k 0 ≡ laps_after declared from to (get_or old k 0)
  pub above : (k : ℕ) → n ≤ k → get_or new k 0 ≡ get_or old k 0
  pub yes : within ≡ true → AreWithinBelow loops new n
  pub no : within ≡ false → AreWithinBelow loops new n → ⊥

pub none_moved : (loops : List Loop) (from to : ℕ) (laps : List ℕ) → MovedBelow loops from to laps laps 0 true
none_moved loops from to laps = record {
  count = refl;
  below = λ k declared lt is. absurd (omega arith);
  above = λ k h. refl;
  yes = λ e. record { each = λ k declared lt is. absurd (omega arith) };
  no = λ e h. absurd cc;
}

at_or_below : (k n : ℕ) → k < n + 1 → (k ≡ n) ⊎ (k < n)
at_or_below k n h = grind arith

true_false : true ≡ false → ⊥
true_false e = cc

-- one more
pub one_moved : (loops : List Loop) (from to : ℕ) (old new : List ℕ) (n : ℕ) (within : Bool) (declared : Loop) (laps : ℕ)
    → MovedBelow loops from to old new n within → n < length new → slice_get loops n ≡ Some declared
    → laps ≡ laps_after declared from to (get_or new n 0)
    → MovedBelow loops from to old (set new n laps) (n + 1) (within && nat_le laps declared.bound)
one_moved loops from to old new n within declared laps moved here found is = record {
  count = length-set new n laps ∙ moved.count;
  below = λ k d lt at. elim (at_or_below k n lt) [
    | inl same ↦ below_here k d same at
    | inr less ↦ (let other : k ≢ n = omega arith in get_or-set_other new n k laps 0 other ∙ moved.below k d less at)
  ];
  above = λ k h. (let other : k ≢ n = omega arith in get_or-set_other new n k laps 0 other ∙ moved.above k (omega arith));
  yes = λ e. (let tests = and_parts within (nat_le laps declared.bound) e in record {
    each = λ k d lt at. elim (at_or_below k n lt) [
      | inl same ↦ within_here k d same at (leb-true laps declared.bound tests.1)
      | inr less ↦ (let other : k ≢ n = omega arith in
          subst (λ (m : ℕ). m ≤ d.bound) (sym (get_or-set_other new n k laps 0 other)) ((moved.yes tests.0).each k d less at))
    ];
  });
  no = λ e all. refused within refl (nat_le laps declared.bound) refl e all;
}
  where
    put : get_or (set new n laps) n 0 ≡ laps
    put = get_or-set_same new n laps 0 here

    same_loop : (k : ℕ) (d : Loop) → k ≡ n → slice_get loops k ≡ Some d → declared ≡ d
    same_loop k d same at = same_Some declared d (sym found ∙ (ap (slice_get loops) (sym same) ∙ at))

    below_here : (k : ℕ) (d : Loop) → k ≡ n → slice_get loops k ≡ Some d → get_or (set new n laps) k 0 ≡ laps_after d from to (get_or old k 0)
    below_here k d same at =
        ap (λ m. get_or (set new n laps) m 0) same ∙ (put ∙ (is ∙ (ap (λ (x : Loop). laps_after x from to (get_or new n 0)) (same_loop k d same at)
        ∙ (ap (laps_after d from to) (moved.above n (omega arith)) ∙ ap (λ m. laps_after d from to (get_or old m 0)) (sym same)))))

    within_here : (k : ℕ) (d : Loop) → k ≡ n → slice_get loops k ≡ Some d → laps ≤ declared.bound → get_or (set new n laps) k 0 ≤ d.bound
    within_here k d same at le =
        subst (λ (x : Loop). get_or (set new n laps) k 0 ≤ x.bound) (same_loop k d same at)
        (subst (λ (m : ℕ). m ≤ declared.bound) (sym (ap (λ m. get_or (set new n laps) m 0) same ∙ put)) le)

    refused : (a : Bool) → within ≡ a → (b : Bool) → nat_le laps declared.bound ≡ b → (within && nat_le laps declared.bound) ≡ false
        → AreWithinBelow loops (set new n laps) (n + 1) → ⊥
    refused false ea b eb e all = moved.no ea (record {
      each = λ k d lt at. (let other : k ≢ n = omega arith in
          subst (λ (m : ℕ). m ≤ d.bound) (get_or-set_other new n k laps 0 other) (all.each k d (omega arith) at));
    })
    refused true ea true eb e all = true_false (rw (ea, eb) at e)
    refused true ea false eb e all =
        let le : laps ≤ declared.bound = subst (λ (m : ℕ). m ≤ declared.bound) put (all.each n declared (omega arith) found) in
        true_false (sym (le-leb laps declared.bound le) ∙ eb)

-- the loop of a number, or this where there is none
abbrev pub loop_at : List Loop → ℕ → Loop
loop_at loops n = get_or loops n (record { from = 0; to = 0; bound = 0 })

pub one_more : (loops : List Loop) (from to : ℕ) (old new : List ℕ) (n : ℕ) (within : Bool) (laps : ℕ) (answer : Bool)
    → MovedBelow loops from to old new n within → n < length new → n < length loops
    → laps ≡ laps_after (loop_at loops n) from to (get_or new n 0) → answer ≡ (within && nat_le laps (loop_at loops n).bound)
    → MovedBelow loops from to old (set new n laps) (n + 1) answer
one_more loops from to old new n within laps answer moved here there is told =
    subst (MovedBelow loops from to old (set new n laps) (n + 1)) (sym told)
    (one_moved loops from to old new n within (loop_at loops n) laps moved here (slice_get-get_or loops n (record { from = 0; to = 0; bound = 0 }) there) is)

-- laps that have not moved yet stay below 2^20
pub still_low : (loops : List Loop) (from to : ℕ) (old new : List ℕ) (n : ℕ) (within : Bool) → MovedBelow loops from to old new n within
    → AreBounded loops → AreWithin loops old → n < length loops → get_or new n 0 ≤ 2 ^ 20
still_low loops from to old new n within moved bounded all there =
    let at : slice_get loops n ≡ Some (loop_at loops n) = slice_get-get_or loops n (record { from = 0; to = 0; bound = 0 }) there in
    let le : get_or old n 0 ≤ (loop_at loops n).bound = all.each n (loop_at loops n) at in
    let most : (loop_at loops n).bound ≤ 2 ^ 20 = bounded.each n (loop_at loops n) at in
    let same : get_or new n 0 ≡ get_or old n 0 = moved.above n (omega arith) in
    omega arith

found_below : (loops : List Loop) (k : ℕ) (declared : Loop) (n : ℕ) → slice_get loops k ≡ Some declared → length loops ≤ n → k < n
found_below loops k declared n at all = omega (arith, slice_get_within loops k declared at)

-- all
pub all_moved : (loops : List Loop) (from to : ℕ) (old new : List ℕ) (n : ℕ) (within : Bool) → MovedBelow loops from to old new n within
    → length loops ≤ n → HasMovedOn loops from to old new
all_moved loops from to old new n within moved all = record {
  count = moved.count;
  each = λ k declared at. moved.below k declared (found_below loops k declared n at all) at;
}

pub all_judged : (loops : List Loop) (from to : ℕ) (old new : List ℕ) (n : ℕ) (within : Bool) → MovedBelow loops from to old new n within
    → length loops ≤ n → (within ≡ true → AreWithin loops new) × (AreWithin loops new → within ≡ true)
all_judged loops from to old new n true moved all = (
  (λ e. record { each = λ k declared at. (moved.yes refl).each k declared (found_below loops k declared n at all) at }),
  (λ h. refl),
)
all_judged loops from to old new n false moved all = (
  (λ e. absurd (true_false (sym e))),
  (λ h. absurd (moved.no refl (record { each = λ k declared lt at. h.each k declared at }))),
)
