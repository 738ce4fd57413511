-- Tasks that are drawn one after the other are those of the seed.
use Rattle.std.proofs.Common.{◌≡◌, ℕ, suc, ◌+◌, ◌*◌, ◌%◌, ◌<◌, ◌≤◌, List, map, ◌++◌, ◌∷◌, [], refl, sym, arith}
use Rattle.std.specs.List.{range_with_len}
use Rattle.std.proofs.lemmas.List.FromFn.{map-range_with_len_more}
use Rattle.demo_gen.specs.declared.task.DemoTask.{DemoTask}
use Rattle.demo_gen.specs.Draws.{state_after, draw, entry_of, task_at}
use Rattle.demo_gen.specs.Working.Drawing.{task_from, thrice}

-- so many tasks have been drawn, and this state and address are those of the next one
pub record HasDrawn (seed count number state entry : ℕ) (made : List DemoTask) : Type 0 where
  pub state_is : state ≡ state_after seed (3 * number)
  pub entry_is : entry ≡ entry_of seed number
  pub low : entry ≤ 0x1000 + 104 * number
  pub made_is : made ≡ map (task_at seed count) (range_with_len 0 number)

pub next_state : (seed number : ℕ) → thrice (state_after seed (3 * number)) ≡ state_after seed (3 * (number + 1))
next_state seed number = let after : 3 * (number + 1) ≡ suc (suc (suc (3 * number))) = omega arith in rw after refl

pub next_task : (seed count number : ℕ) → task_from (state_after seed (3 * number)) count number (entry_of seed number) ≡ task_at seed count number
next_task seed count number =
    let second : 3 * number + 1 ≡ suc (3 * number) = omega arith in
    let third : 3 * number + 2 ≡ suc (suc (3 * number)) = omega arith in
    rw (second, third) refl

pub next_entry : (seed number : ℕ) → entry_of seed number + 4 * (1 + draw seed (3 * number) % 20 + 6) ≡ entry_of seed (number + 1)
unfolding entry_of
next_entry seed number = let next : number + 1 ≡ suc number = omega arith in rw next refl

pub drawn_more : (seed count number state entry : ℕ) (made : List DemoTask) (task : DemoTask) → HasDrawn seed count number state entry made
    → task ≡ task_from state count number entry
    → HasDrawn seed count (number + 1) (thrice state) (entry + 4 * (task.steps + 6)) (made ++ task ∷ [])
drawn_more seed count number state entry made task so is =
    let same : task ≡ task_at seed count number = rw (is, so.state_is, so.entry_is) (next_task seed count number) in
    record {
      state_is = rw so.state_is (next_state seed number);
      entry_is = rw (same, so.entry_is) (next_entry seed number);
      low = let low : draw seed (3 * number) % 20 < 20 = omega arith in rw same (omega (arith, so.low, low));
      made_is = rw (same, so.made_is) (sym (map-range_with_len_more (task_at seed count) 0 number number (omega arith)));
    }
