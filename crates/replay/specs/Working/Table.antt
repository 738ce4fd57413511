-- The laps of one context's open invocations, as a table with a row for each invocation that may be open, the
-- outermost first, and in each row a number for each declared loop.
use Rattle.std.specs.Prelude.{ℕ, List}

pub record Table : Type 0 where
  pub rows : List (List ℕ)
  -- how many invocations are open
  pub depth : ℕ
