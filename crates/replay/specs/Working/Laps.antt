-- How often a played run goes round in its declared loops, as it is kept: for each context a table.
use Rattle.std.specs.Prelude.{◌≡◌, ℕ, zero, suc, ◌^◌, ◌<◌, ◌≤◌, ◌↔◌, ◌&&◌, Bool, true, false, not, IsTrue, List, [], ◌∷◌, length, slice_get, slice_set, slice_index, slice_index_or, Option, Some, None, if◌then◌else◌}
use Rattle.std.specs.List.{AllByRecursion}
use Rattle.oil_model.specs.declared.system.System.{System}
use Rattle.oil_model.specs.System.{IsLawful}
use Rattle.elf_image.specs.Image.{ImageData}
use Rattle.timing_file.specs.declared.timing.Loop.{Loop}
use Rattle.timing_file.specs.declared.timing.Timing.{Timing}
use Rattle.rv32_machine.specs.declared.turns.Turn.{Turn}
use Rattle.rv32_machine.specs.declared.turns.Turn.TheVariants.{Calling, Returning}
use Rattle.rv32_machine.specs.Execution.{following}
use Rattle.osek_kernel.specs.declared.context.Context.{Context}
use Rattle.osek_kernel.specs.Contexts.{IsContext, place_of, context_count}
use Rattle.osek_machine.specs.Events.{Event}
use Rattle.osek_machine.specs.Loops.{is_this, laps_after, begun, moved_on, returned, laps_of}
use Rattle.osek_machine.specs.Declarations.{AreWithinBounds}
use Rattle.replay.specs.Working.Table.{Table}
use Rattle.replay.specs.declared.laps.Laps.{Laps}

-- ---- One invocation: a number for each declared loop

-- no loop's bound passes 2^20
pub record AreBounded (loops : List Loop) : Type 0 where
  pub each : (i : ℕ) (declared : Loop) → slice_get loops i ≡ Some declared → declared.bound ≤ 2 ^ 20

pub record AreWithin (loops : List Loop) (laps : List ℕ) : Type 0 where
  pub each : (i : ℕ) (declared : Loop) → slice_get loops i ≡ Some declared → slice_index laps i ≤ declared.bound

-- the invocation went from one address to another
pub record HasMovedOn (loops : List Loop) (from to : ℕ) (old new : List ℕ) : Type 0 where
  pub count : length new ≡ length old
  pub each : (i : ℕ) (declared : Loop) → slice_get loops i ≡ Some declared
      → slice_index new i ≡ laps_after declared from to (slice_index old i)

-- ---- One context

-- the most invocations of a context that may be open
abbrev pub deepest : ℕ
deepest = 17

abbrev pub row_at : List (List ℕ) → ℕ → List ℕ
row_at rows n = slice_index_or rows n []

-- the laps in the loop of a number of so many open invocations, the innermost first
abbrev pub column : List (List ℕ) → ℕ → ℕ → List ℕ
column rows zero i = []
column rows (suc n) i = slice_index (row_at rows n) i ∷ column rows n i

abbrev pub laps_in : Table → ℕ → List ℕ
laps_in table i = column table.rows table.depth i

pub record HasRoom (loops : List Loop) (table : Table) : Type 0 where
  pub rows : length table.rows ≡ deepest
  pub each : (n : ℕ) → n < deepest → length (row_at table.rows n) ≡ length loops
  pub depth : table.depth ≤ deepest

abbrev pub IsWithin : Loop → List ℕ → Type 0
IsWithin declared invocations = AllByRecursion (λ laps. laps ≤ declared.bound) invocations

-- The row at the place moved on; and whether it is within bounds then.
pub record RowMovedOn (loops : List Loop) (from to place : ℕ) (old new : List (List ℕ)) (answer : Bool) : Type 0 where
  pub row : List ℕ
  pub becomes : new ≡ slice_set old place row
  pub moved : HasMovedOn loops from to (row_at old place) row
  pub answers : IsTrue answer ↔ AreWithin loops row

-- all laps of a context are within the loops' bounds
pub record KeepBounds (loops : List Loop) (table : Table) : Type 0 where
  pub each : (i : ℕ) (declared : Loop) → slice_get loops i ≡ Some declared → IsWithin declared (laps_in table i)

-- The laps of a context change so in each loop.
pub record ChangesBy (change : Loop → List ℕ → List ℕ) (loops : List Loop) (old new : Table) : Type 0 where
  pub room : HasRoom loops new
  pub each : (i : ℕ) (declared : Loop) → slice_get loops i ≡ Some declared → laps_in new i ≡ change declared (laps_in old i)
  pub deep : (declared : Loop) (invocations : List ℕ) → length invocations ≡ old.depth
      → length (change declared invocations) ≡ new.depth

-- ---- What steps change

abbrev pub moving_on : ℕ → ℕ → Loop → List ℕ → List ℕ
moving_on from to declared invocations = moved_on declared from to invocations

-- an invocation is called
abbrev pub opening : Loop → List ℕ → List ℕ
opening declared invocations = begun invocations

abbrev pub returning : Option ℕ → Loop → List ℕ → List ℕ
returning call declared invocations = returned declared call invocations

-- an invocation's step by an instruction, with the innermost open call before it
abbrev pub turning : Option Turn → ℕ → ℕ → Option ℕ → Loop → List ℕ → List ℕ
turning (Some (Calling target)) from to call declared invocations = begun invocations
turning (Some Returning) from to call declared invocations = returned declared call invocations
turning turn from to call declared invocations = moved_on declared from to invocations

-- an invocation goes on behind a service, unless that ends it
abbrev pub going_on : Bool → ℕ → Loop → List ℕ → List ℕ
going_on stays at declared invocations = if stays then moved_on declared at (following at) invocations else invocations

-- a context starts
abbrev pub starting : Loop → List ℕ → List ℕ
starting declared invocations = begun []

-- one more invocation may be open after a call
abbrev pub MayTurn : Option Turn → Table → Type 0
MayTurn (Some (Calling target)) table = table.depth < deepest
MayTurn turn table = Unit {0}

-- ---- All contexts

-- There is room in each table, and all laps are within bounds.
pub record IsSound (loops : List Loop) (tables : List Table) : Type 0 where
  pub room : (place : ℕ) (table : Table) → slice_get tables place ≡ Some table → HasRoom loops table
  pub bounds : (place : ℕ) (table : Table) → slice_get tables place ≡ Some table → KeepBounds loops table

-- a context that has just started, in which nothing was called yet
pub record IsStarted (loops : List Loop) (table : Table) : Type 0 where
  pub room : HasRoom loops table
  pub each : (i : ℕ) → laps_in table i ≡ begun []
  pub depth : table.depth ≡ 1

-- so many contexts have just started
pub record AreStarted (loops : List Loop) (count : ℕ) (tables : List Table) : Type 0 where
  pub many : length tables ≡ count
  pub each : (place : ℕ) (table : Table) → slice_get tables place ≡ Some table → IsStarted loops table

-- One context's laps change so; and whether they are within bounds then.
pub record Changes (change : Loop → List ℕ → List ℕ) (loops : List Loop) (place : ℕ) (old new : List Table) (answer : Bool) : Type 0 where
  pub before : Table
  pub after : Table
  pub was : slice_get old place ≡ Some before
  pub becomes : new ≡ slice_set old place after
  pub changes : ChangesBy change loops before after
  pub answers : IsTrue answer ↔ KeepBounds loops after

-- a context starts, if there is one
abbrev pub Starts : System → List Loop → Option Context → List Table → List Table → Type 0
Starts system loops None old new = new ≡ old
Starts system loops (Some context) old new = Changes starting loops (place_of system context) old new true

-- A context goes on behind a service at the address, unless that ends it or starts it anew; and another one starts.
pub record HasServed (system : System) (loops : List Loop) (caller : Context) (at : ℕ) (goes_on : Bool) (started : Option Context)
    (old new : List Table) (answer : Bool) : Type 0 where
  pub between : List Table
  pub starts : Starts system loops started old between
  pub moves : Changes (going_on (goes_on && not (is_this caller started)) at) loops (place_of system caller) between new answer

-- The tables have room for the contexts of the system and the declared loops, and all laps are within bounds.
pub record Fits (system : System) (timing : Timing) (tables : List Table) : Type 0 where
  pub lawful : IsLawful system
  pub bounded : AreBounded timing.loops
  pub count : length tables ≡ context_count system
  pub sound : IsSound timing.loops tables

-- one more invocation of the context may be open after a call
pub record MayTurnAt (system : System) (context : Context) (turn : Option Turn) (tables : List Table) : Type 0 where
  pub may : (table : Table) → slice_get tables (place_of system context) ≡ Some table → MayTurn turn table

-- ---- The laps of a run

-- The tables have the laps that are told of each loop and context, and all are within bounds.
pub record Keep (told : Loop → Context → List ℕ) (system : System) (loops : List Loop) (tables : List Table) : Type 0 where
  pub count : length tables ≡ context_count system
  pub sound : IsSound loops tables
  pub laps : (c : Context) (table : Table) → IsContext system c → slice_get tables (place_of system c) ≡ Some table
      → (i : ℕ) (declared : Loop) → slice_get loops i ≡ Some declared → laps_in table i ≡ told declared c
  pub deep : (c : Context) (table : Table) → IsContext system c → slice_get tables (place_of system c) ≡ Some table
      → (declared : Loop) → length (told declared c) ≡ table.depth
  pub within : (c : Context) (i : ℕ) (declared : Loop) → slice_get loops i ≡ Some declared → IsWithin declared (told declared c)

-- The laps are those of the run, and all within bounds.
pub record AreKept (image : ImageData) (system : System) (timing : Timing) (events : List Event) (laps : Laps) : Type 0 where
  pub keep : Keep (λ declared context. laps_of image declared context events) system timing.loops laps.contexts.items

-- The answer tells whether the run's laps are within bounds; where they are, they are kept.
pub record Answers (image : ImageData) (system : System) (timing : Timing) (events : List Event) (laps : Laps) (answer : Bool) : Type 0 where
  pub kept : answer ≡ true → AreKept image system timing events laps
  pub within : answer ≡ true → AreWithinBounds image timing events
  pub past : answer ≡ false → AreWithinBounds image timing events → ⊥
