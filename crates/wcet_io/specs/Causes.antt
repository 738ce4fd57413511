-- Counts of the outside, such as of faults and of bytes taken, and what makes a fault's cause.
use Rattle.std.specs.Prelude.{◌≡◌, ◌⊎◌, ℕ, ◌+◌, ◌-◌, ◌^◌, ◌<◌, ◌≤◌, min, Bool, true, false, refl}
use Rattle.std.proofs.Common.{inl, inr, lit<}

-- where every count of the outside stops
abbrev pub greatest_count : ℕ
greatest_count = 2 ^ 64 - 1

-- A count rose: it is greater than before, or stands where it stops.
abbrev pub Rose : ℕ → ℕ → Type 0
Rose before after = (before < after) ⊎ (after ≡ greatest_count)

-- A count rose by a number: it is greater by that number, or stands where it stops.
abbrev pub RoseBy : ℕ → ℕ → ℕ → Type 0
RoseBy number before after = after ≡ min (before + number) greatest_count

-- A count goes on: it doesn't fall, and doesn't pass where it stops.
pub record CountsOn (before after : ℕ) : Type 0 where
  pub never_falls : before ≤ after
  pub stops : before ≤ greatest_count → after ≤ greatest_count

-- An answer has its cause: where it is a fault of the outside, the count of faults rose in the call.
-- Where it isn't one, the count is as before.
abbrev pub HasCause : Bool → ℕ → ℕ → Type 0
HasCause true before after = Rose before after
HasCause false before after = after ≡ before

-- Worked cases: from 4 to 5 a count rose; where it has stopped it counts as risen;
-- from 4 it rose by 3 to 7; and near the end it rose by 3 to the end.
four_to_five : Rose 4 5
four_to_five = inl (lit< tt)

at_the_end : Rose greatest_count greatest_count
at_the_end = inr refl

four_by_three : RoseBy 3 4 7
four_by_three = refl

past_the_end : RoseBy 3 18446744073709551613 greatest_count
past_the_end = refl
