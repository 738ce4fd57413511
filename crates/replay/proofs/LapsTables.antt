-- The laps of one context, as its rows change.
use Rattle.std.proofs.Common.{◌≡◌, ℕ, zero, suc, ◌+◌, ◌<◌, ◌≤◌, ◌≢◌, ◌⊎◌, inl, inr, Bool, true, false, List, [], ◌∷◌, length, set, replicate, Option, Some, None, refl, sym, ◌∙◌, ap, subst, arith, get_or-set_other, get_or-set_same, add-one}
use Rattle.std.specs.Prelude.{slice_index, nat_eq}
use Rattle.std.proofs.lemmas.Bool.{eqb-true, eqb-false}
use Rattle.std.proofs.lemmas.List.{length-set, length-replicate, get_or-replicate}
use Rattle.rv32_machine.specs.Execution.{following}
use Rattle.timing_file.specs.declared.timing.Loop.{Loop}
use Rattle.osek_machine.specs.Loops.{begun, moved_on, returned}
use Rattle.replay.specs.Working.Table.{Table}
use Rattle.replay.specs.Working.Laps.{AreWithin, HasMovedOn, deepest, row_at, column, laps_in, HasRoom, IsWithin, KeepBounds, ChangesBy, IsStarted, moving_on, opening, returning, starting}

-- ---- Columns

pub column-set : (rows : List (List ℕ)) (n m : ℕ) (row : List ℕ) (i : ℕ) → n ≤ m → column (set rows m row) n i ≡ column rows n i
column-set rows zero m row i h = refl
column-set rows (suc n) m row i h =
    let other : n ≢ m = omega arith in
    ap (λ r. slice_index r i ∷ column (set rows m row) n i) (get_or-set_other rows m n row [] other)
    ∙ ap (λ rest. slice_index (row_at rows n) i ∷ rest) (column-set rows n m row i (omega arith))

-- the row of the innermost invocation is replaced
pub column-set_last : (rows : List (List ℕ)) (m : ℕ) (row : List ℕ) (i : ℕ) → m < length rows
    → column (set rows m row) (suc m) i ≡ slice_index row i ∷ column rows m i
column-set_last rows m row i h =
    ap (λ r. slice_index r i ∷ column (set rows m row) m i) (get_or-set_same rows m row [] h)
    ∙ ap (λ rest. slice_index row i ∷ rest) (column-set rows m m row i (omega arith))

pub length-column : (rows : List (List ℕ)) (n i : ℕ) → length (column rows n i) ≡ n
length-column rows zero i = refl
length-column rows (suc n) i = ap suc (length-column rows n i)

zero-row : (n i : ℕ) → slice_index (replicate n 0) i ≡ 0
zero-row zero i = refl
zero-row (suc n) zero = refl
zero-row (suc n) (suc i) = zero-row n i

-- ---- Room

apart_by : (m n : ℕ) (b : Bool) → nat_eq m n ≡ b → (m ≡ n) ⊎ (m ≢ n)
apart_by m n true e = inl (eqb-true m n e)
apart_by m n false e = inr (eqb-false m n e)

-- two numbers are one, or two
pub same_or_other : (m n : ℕ) → (m ≡ n) ⊎ (m ≢ n)
same_or_other m n = apart_by m n (nat_eq m n) refl

room-set : (loops : List Loop) (t : Table) (m depth : ℕ) (row : List ℕ) → HasRoom loops t
    → m < deepest → length row ≡ length loops → depth ≤ deepest → HasRoom loops (record { rows = set t.rows m row; depth = depth })
room-set loops t m depth row room here count most = record {
  rows = length-set t.rows m row ∙ room.rows;
  each = λ n lt. elim (same_or_other n m) [
    | inl same ↦ ap (λ k. length (row_at (set t.rows m row) k)) same
        ∙ (ap (λ (r : List ℕ). length r) (get_or-set_same t.rows m row [] (omega (arith, room.rows))) ∙ count)
    | inr other ↦ ap (λ (r : List ℕ). length r) (get_or-set_other t.rows m n row [] other) ∙ room.each n lt
  ];
  depth = most;
}

room-depth : (loops : List Loop) (t : Table) (depth : ℕ) → HasRoom loops t → depth ≤ deepest → HasRoom loops (record t { depth = depth })
room-depth loops t depth room most = record { rows = room.rows; each = room.each; depth = most }

-- ---- An invocation moves on

pub last_within : (loops : List Loop) (t : Table) (m : ℕ) → t.depth ≡ suc m → KeepBounds loops t → AreWithin loops (row_at t.rows m)
last_within loops t m is bounds = record {
  each = λ i declared at. (subst (λ d. IsWithin declared (column t.rows d i)) is (bounds.each i declared at)).0;
}

-- the laps of a context whose last row is replaced
replaced : (t : Table) (m : ℕ) (row : List ℕ) (i : ℕ) → t.depth ≡ suc m → m < length t.rows
    → laps_in (record t { rows = set t.rows m row }) i ≡ slice_index row i ∷ column t.rows m i
replaced t m row i is here = ap (λ d. column (set t.rows m row) d i) is ∙ column-set_last t.rows m row i here

opened : (t : Table) (m : ℕ) (i : ℕ) → t.depth ≡ suc m → laps_in t i ≡ slice_index (row_at t.rows m) i ∷ column t.rows m i
opened t m i is = ap (λ d. column t.rows d i) is

pub length-moved_on : (declared : Loop) (from to : ℕ) (xs : List ℕ) → length (moved_on declared from to xs) ≡ length xs
length-moved_on declared from to [] = refl
length-moved_on declared from to (x ∷ xs) = refl

pub moved : (loops : List Loop) (from to : ℕ) (t : Table) (m : ℕ) (row : List ℕ) → t.depth ≡ suc m → HasRoom loops t
    → HasMovedOn loops from to (row_at t.rows m) row → ChangesBy (moving_on from to) loops t (record t { rows = set t.rows m row })
moved loops from to t m row is room on = record {
  room = room-set loops t m t.depth row room here (on.count ∙ room.each m here) room.depth;
  each = λ i declared at.
      replaced t m row i is there
      ∙ (ap (λ n. n ∷ column t.rows m i) (on.each i declared at)
      ∙ ap (moved_on declared from to) (sym (opened t m i is)));
  deep = λ declared xs e. length-moved_on declared from to xs ∙ e;
}
  where
    here : m < deepest
    here = omega (arith, room.depth, is)

    there : m < length t.rows
    there = omega (arith, room.rows, here)

pub moved_within : (loops : List Loop) (t : Table) (m : ℕ) (row : List ℕ) → t.depth ≡ suc m → HasRoom loops t → KeepBounds loops t
    → AreWithin loops row → KeepBounds loops (record t { rows = set t.rows m row })
moved_within loops t m row is room bounds within = record {
  each = λ i declared at. subst (IsWithin declared) (sym (replaced t m row i is (omega (arith, room.rows, room.depth, is))))
      (within.each i declared at, (subst (IsWithin declared) (opened t m i is) (bounds.each i declared at)).1);
}

pub within_moved : (loops : List Loop) (t : Table) (m : ℕ) (row : List ℕ) → t.depth ≡ suc m → HasRoom loops t
    → KeepBounds loops (record t { rows = set t.rows m row }) → AreWithin loops row
within_moved loops t m row is room bounds = record {
  each = λ i declared at. (subst (IsWithin declared) (replaced t m row i is (omega (arith, room.rows, room.depth, is))) (bounds.each i declared at)).0;
}

-- where no invocation is open nothing changes
pub moved_nowhere : (loops : List Loop) (from to : ℕ) (t : Table) → t.depth ≡ 0 → HasRoom loops t → ChangesBy (moving_on from to) loops t t
moved_nowhere loops from to t none room = record {
  room = room;
  each = λ i declared at. (let e : laps_in t i ≡ [] = ap (λ d. column t.rows d i) none in e ∙ ap (moved_on declared from to) (sym e));
  deep = λ declared xs e. length-moved_on declared from to xs ∙ e;
}

-- ---- An invocation is called

pub called : (loops : List Loop) (t : Table) (row : List ℕ) → t.depth < deepest → HasRoom loops t → length row ≡ length loops
    → ((i : ℕ) → slice_index row i ≡ 0) → ChangesBy opening loops t (record { rows = set t.rows t.depth row; depth = t.depth + 1 })
called loops t row shallow room count zeros = record {
  room = room-set loops t t.depth (t.depth + 1) row room shallow count (omega arith);
  each = λ i declared at. called_laps t row i zeros (omega (arith, room.rows));
  deep = λ declared xs e. ap suc e ∙ sym (add-one t.depth);
}
  where
    called_laps : (t : Table) (row : List ℕ) (i : ℕ) → ((i : ℕ) → slice_index row i ≡ 0) → t.depth < length t.rows
        → column (set t.rows t.depth row) (t.depth + 1) i ≡ begun (laps_in t i)
    called_laps t row i zeros here =
        ap (λ d. column (set t.rows t.depth row) d i) (add-one t.depth)
        ∙ (column-set_last t.rows t.depth row i here ∙ ap (λ n. n ∷ laps_in t i) (zeros i))

-- after a call all is within bounds as before
pub called_within : (loops : List Loop) (t t' : Table) → ChangesBy opening loops t t' → KeepBounds loops t → KeepBounds loops t'
called_within loops t t' changes bounds = record {
  each = λ i declared at. subst (IsWithin declared) (sym (changes.each i declared at)) (omega arith, bounds.each i declared at);
}

-- ---- An invocation ends

pub popped_room : (loops : List Loop) (t : Table) (m : ℕ) → t.depth ≡ suc m → HasRoom loops t → HasRoom loops (record t { depth = m })
popped_room loops t m is room = room-depth loops t m room (omega (arith, room.depth, is))

pub popped_within : (loops : List Loop) (t : Table) (m : ℕ) → t.depth ≡ suc m → KeepBounds loops t → KeepBounds loops (record t { depth = m })
popped_within loops t m is bounds = record {
  each = λ i declared at. (subst (IsWithin declared) (opened t m i is) (bounds.each i declared at)).1;
}

pub ended : (loops : List Loop) (call : ℕ) (t t' : Table) (m : ℕ) → t.depth ≡ suc m
    → ChangesBy (moving_on call (following call)) loops (record t { depth = m }) t' → ChangesBy (returning (Some call)) loops t t'
ended loops call t t' m is changes = record {
  room = changes.room;
  each = λ i declared at. changes.each i declared at ∙ ap (returned declared (Some call)) (sym (opened t m i is));
  deep = λ declared xs e. deep_in declared xs (e ∙ is);
}
  where
    deep_in : (declared : Loop) (xs : List ℕ) → length xs ≡ suc m → length (returned declared (Some call) xs) ≡ t'.depth
    deep_in declared [] e = absurd (omega arith)
    deep_in declared (x ∷ xs) e = changes.deep declared xs (omega arith)

pub ended_nowhere : (loops : List Loop) (call : Option ℕ) (t : Table) → t.depth ≡ 0 → HasRoom loops t → ChangesBy (returning call) loops t t
ended_nowhere loops call t none room = record {
  room = room;
  each = λ i declared at. (let e : laps_in t i ≡ [] = ap (λ d. column t.rows d i) none in e ∙ (nothing declared call ∙ ap (returned declared call) (sym e)));
  deep = λ declared xs e. empty declared call xs (e ∙ none) ∙ sym none;
}
  where
    nothing : (declared : Loop) (call : Option ℕ) → [] ≡ returned declared call []
    nothing declared None = refl
    nothing declared (Some c) = refl

    empty : (declared : Loop) (call : Option ℕ) (xs : List ℕ) → length xs ≡ 0 → length (returned declared call xs) ≡ 0
    empty declared None [] e = refl
    empty declared (Some c) [] e = refl
    empty declared call (x ∷ xs) e = absurd (omega arith)

-- ---- A context starts

pub fresh : (loops : List Loop) (t : Table) (row : List ℕ) → HasRoom loops t → length row ≡ length loops
    → ((i : ℕ) → slice_index row i ≡ 0) → IsStarted loops (record { rows = set t.rows 0 row; depth = 1 })
fresh loops t row room count zeros = record {
  room = room-set loops t 0 1 row room (omega arith) count (omega arith);
  each = λ i. column-set_last t.rows 0 row i (omega (arith, room.rows)) ∙ ap (λ n. n ∷ []) (zeros i);
  depth = refl;
}

pub fresh_changes : (loops : List Loop) (t t' : Table) → IsStarted loops t' → ChangesBy starting loops t t'
fresh_changes loops t t' begun_is = record {
  room = begun_is.room;
  each = λ i declared at. begun_is.each i;
  deep = λ declared xs e. sym begun_is.depth;
}

pub fresh_within : (loops : List Loop) (t : Table) → IsStarted loops t → KeepBounds loops t
fresh_within loops t begun_is = record {
  each = λ i declared at. subst (IsWithin declared) (sym (begun_is.each i)) (omega arith, tt);
}

pub fresh_rows : (loops : List Loop) (rows : List (List ℕ)) → rows ≡ replicate deepest (replicate (length loops) 0)
    → IsStarted loops (record { rows = rows; depth = 1 })
fresh_rows loops rows is = record {
  room = record {
    rows = ap (λ (rs : List (List ℕ)). length rs) is ∙ length-replicate {A = List ℕ} deepest (replicate (length loops) 0);
    each = λ n lt. ap (λ (r : List ℕ). length r) (row_is n lt) ∙ length-replicate {A = ℕ} (length loops) 0;
    depth = omega arith;
  };
  each = λ i. ap (λ (r : List ℕ). slice_index r i ∷ []) (row_is 0 (omega arith)) ∙ ap (λ n. n ∷ []) (zero-row (length loops) i);
  depth = refl;
}
  where
    row_is : (n : ℕ) → n < deepest → row_at rows n ≡ replicate (length loops) 0
    row_is n lt = ap (λ rs. row_at rs n) is ∙ get_or-replicate deepest n (replicate (length loops) 0) [] lt

pub zeros_row : (n i : ℕ) → slice_index (replicate n 0) i ≡ 0
zeros_row n i = zero-row n i
