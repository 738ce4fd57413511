-- The same for a table that is seen by its fields and a slice of its rows.
use Rattle.std.proofs.Common.{◌≡◌, ℕ, suc, ◌+◌, ◌-◌, ◌<◌, Bool, true, List, Option, Some, length, set, replicate, refl, sym, ◌∙◌, ap, subst, arith}
use Rattle.std.specs.Prelude.{IsTrue, ◌↔◌}
use Rattle.std.proofs.lemmas.List.{length-replicate}
use Rattle.timing_file.specs.declared.timing.Loop.{Loop}
use Rattle.rv32_machine.specs.declared.turns.Turn.{Turn}
use Rattle.rv32_machine.specs.declared.turns.Turn.TheVariants.{Calling}
use Rattle.rv32_machine.specs.Execution.{following}
use Rattle.replay.specs.Working.Table.{Table}
use Rattle.replay.specs.Working.Laps.{AreWithin, HasMovedOn, RowMovedOn, deepest, row_at, HasRoom, KeepBounds, ChangesBy, IsStarted, moving_on, opening, returning, turning}
use Rattle.replay.proofs.LapsTables.{last_within, moved, moved_within, within_moved, called, called_within, popped_room, popped_within, ended, fresh, zeros_row}

-- the table with these fields
abbrev pub table_of : List (List ℕ) → ℕ → Table
table_of rows depth = record { rows = rows; depth = depth }

one_below : (n : ℕ) → (n ≡ 0 → ⊥) → n ≡ suc (n - 1)
one_below n h = omega arith

pub row_within : (loops : List Loop) (t : Table) (rows slice : List (List ℕ)) (depth : ℕ) → table_of rows depth ≡ t → slice ≡ rows
    → (depth ≡ 0 → ⊥) → KeepBounds loops t → AreWithin loops (row_at slice (depth - 1))
row_within loops t rows slice depth is sliced some bounds =
    subst (λ (s : List (List ℕ)). AreWithin loops (row_at s (depth - 1))) (sym sliced)
    (last_within loops (table_of rows depth) (depth - 1) (one_below depth some) (subst (KeepBounds loops) (sym is) bounds))

pub move_changes : (loops : List Loop) (from to : ℕ) (t : Table) (rows slice rows' : List (List ℕ)) (depth : ℕ) (answer : Bool) → table_of rows depth ≡ t
    → slice ≡ rows
    → (depth ≡ 0 → ⊥) → HasRoom loops t → RowMovedOn loops from to (depth - 1) slice rows' answer
    → ChangesBy (moving_on from to) loops t (table_of rows' depth)
move_changes loops from to t rows slice rows' depth answer is sliced some room on =
    let becomes : rows' ≡ set rows (depth - 1) on.row = on.becomes ∙ ap (λ (s : List (List ℕ)). set s (depth - 1) on.row) sliced in
    subst (λ (old : Table). ChangesBy (moving_on from to) loops old (table_of rows' depth)) is
    (subst (λ (r : List (List ℕ)). ChangesBy (moving_on from to) loops (table_of rows depth) (table_of r depth)) (sym becomes)
    (moved loops from to (table_of rows depth) (depth - 1) on.row (one_below depth some) (subst (HasRoom loops) (sym is) room)
    (subst (λ (s : List (List ℕ)). HasMovedOn loops from to (row_at s (depth - 1)) on.row) sliced on.moved)))

pub move_answers : (loops : List Loop) (from to : ℕ) (t : Table) (rows slice rows' : List (List ℕ)) (depth : ℕ) (answer : Bool) → table_of rows depth ≡ t
    → slice ≡ rows
    → (depth ≡ 0 → ⊥) → HasRoom loops t → KeepBounds loops t → RowMovedOn loops from to (depth - 1) slice rows' answer
    → IsTrue answer ↔ KeepBounds loops (table_of rows' depth)
move_answers loops from to t rows slice rows' depth answer is sliced some room bounds on =
    let becomes : rows' ≡ set rows (depth - 1) on.row = on.becomes ∙ ap (λ (s : List (List ℕ)). set s (depth - 1) on.row) sliced in
    let room' : HasRoom loops (table_of rows depth) = subst (HasRoom loops) (sym is) room in
    let bounds' : KeepBounds loops (table_of rows depth) = subst (KeepBounds loops) (sym is) bounds in
    subst (λ (r : List (List ℕ)). IsTrue answer ↔ KeepBounds loops (table_of r depth)) (sym becomes) (
      (λ yes. moved_within loops (table_of rows depth) (depth - 1) on.row (one_below depth some) room' bounds' (on.answers.0 yes)),
      (λ all. on.answers.1 (within_moved loops (table_of rows depth) (depth - 1) on.row (one_below depth some) room' all)),
    )

pub begin_changes : (loops : List Loop) (t : Table) (rows slice rows' : List (List ℕ)) (depth : ℕ) → table_of rows depth ≡ t → slice ≡ rows
    → t.depth < deepest → HasRoom loops t → rows' ≡ set slice depth (replicate (length (row_at slice depth)) 0)
    → ChangesBy opening loops t (table_of rows' (depth + 1))
begin_changes loops t rows slice rows' depth is sliced shallow room on =
    let row : List ℕ = replicate (length (row_at rows depth)) 0 in
    let becomes : rows' ≡ set rows depth row = on ∙ ap (λ (s : List (List ℕ)). set s depth (replicate (length (row_at s depth)) 0)) sliced in
    let shallow' : depth < deepest = subst (λ (old : Table). old.depth < deepest) (sym is) shallow in
    let room' : HasRoom loops (table_of rows depth) = subst (HasRoom loops) (sym is) room in
    subst (λ (old : Table). ChangesBy opening loops old (table_of rows' (depth + 1))) is
    (subst (λ (r : List (List ℕ)). ChangesBy opening loops (table_of rows depth) (table_of r (depth + 1))) (sym becomes)
    (called loops (table_of rows depth) row shallow' room' (length-replicate (length (row_at rows depth)) 0 ∙ room'.each depth shallow')
    (zeros_row (length (row_at rows depth)))))

pub begin_answers : (loops : List Loop) (t t' : Table) → ChangesBy opening loops t t' → KeepBounds loops t → IsTrue true ↔ KeepBounds loops t'
begin_answers loops t t' changes bounds = ((λ yes. called_within loops t t' changes bounds), (λ all. refl))

pub pop_room : (loops : List Loop) (t : Table) (rows : List (List ℕ)) (depth : ℕ) → table_of rows depth ≡ t
    → (depth ≡ 0 → ⊥) → HasRoom loops t → HasRoom loops (table_of rows (depth - 1))
pop_room loops t rows depth is some room =
    popped_room loops (table_of rows depth) (depth - 1) (one_below depth some) (subst (HasRoom loops) (sym is) room)

pub pop_within : (loops : List Loop) (t : Table) (rows : List (List ℕ)) (depth : ℕ) → table_of rows depth ≡ t
    → (depth ≡ 0 → ⊥) → KeepBounds loops t → KeepBounds loops (table_of rows (depth - 1))
pop_within loops t rows depth is some bounds =
    popped_within loops (table_of rows depth) (depth - 1) (one_below depth some) (subst (KeepBounds loops) (sym is) bounds)

pub pop_changes : (loops : List Loop) (call : ℕ) (t t' : Table) (rows : List (List ℕ)) (depth : ℕ) → table_of rows depth ≡ t
    → (depth ≡ 0 → ⊥) → ChangesBy (moving_on call (following call)) loops (table_of rows (depth - 1)) t' → ChangesBy (returning (Some call)) loops t t'
pop_changes loops call t t' rows depth is some changes =
    subst (λ (old : Table). ChangesBy (returning (Some call)) loops old t') is
    (ended loops call (table_of rows depth) t' (depth - 1) (one_below depth some) changes)

pub start_fresh : (loops : List Loop) (t : Table) (rows slice rows' : List (List ℕ)) (depth : ℕ) → table_of rows depth ≡ t → slice ≡ rows
    → HasRoom loops t → rows' ≡ set slice 0 (replicate (length (row_at slice 0)) 0) → IsStarted loops (table_of rows' 1)
start_fresh loops t rows slice rows' depth is sliced room on =
    let row : List ℕ = replicate (length (row_at rows 0)) 0 in
    let becomes : rows' ≡ set rows 0 row = on ∙ ap (λ (s : List (List ℕ)). set s 0 (replicate (length (row_at s 0)) 0)) sliced in
    let room' : HasRoom loops (table_of rows depth) = subst (HasRoom loops) (sym is) room in
    subst (λ (r : List (List ℕ)). IsStarted loops (table_of r 1)) (sym becomes)
    (fresh loops (table_of rows depth) row room' (length-replicate (length (row_at rows 0)) 0 ∙ room'.each 0 (omega arith))
    (zeros_row (length (row_at rows 0))))

pub seen_as : (loops : List Loop) (from to place : ℕ) (old new new' : List (List ℕ)) (answer : Bool) → new' ≡ new
    → RowMovedOn loops from to place old new answer → RowMovedOn loops from to place old new' answer
seen_as loops from to place old new new' answer same on = record {
  row = on.row;
  becomes = same ∙ on.becomes;
  moved = on.moved;
  answers = on.answers;
}

-- ---- Turns

pub turns_in_call : (loops : List Loop) (turn : Option Turn) (target from to : ℕ) (call : Option ℕ) (t t' : Table) → turn ≡ Some (Calling target)
    → ChangesBy opening loops t t' → ChangesBy (turning turn from to call) loops t t'
turns_in_call loops turn target from to call t t' is changes =
    subst (λ (o : Option Turn). ChangesBy (turning o from to call) loops t t') (sym is)
    (record { room = changes.room; each = changes.each; deep = changes.deep })
