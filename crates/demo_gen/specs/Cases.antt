-- Worked cases of draws, tasks and states.
use Rattle.std.specs.Prelude.{◌≡◌, ℕ, ◌+◌, ◌*◌, true, false, [], ◌∷◌, map, None, refl}
use Rattle.std.specs.List.{range_with_len}
use Rattle.abstract_sched.specs.declared.states.TaskAt.TheVariants.{Suspended, At}
use Rattle.demo_gen.specs.declared.task.DemoTask.{DemoTask}
use Rattle.demo_gen.specs.Draws.{draw, entry_of, tasks_of}
use Rattle.demo_gen.specs.Demo.{words_of, sets_in_order, state_of}

nine_draws : map (draw 1) (range_with_len 0 9) ≡ 16838 ∷ 5758 ∷ 10113 ∷ 17515 ∷ 31051 ∷ 5627 ∷ 23010 ∷ 7419 ∷ 16212 ∷ []
nine_draws = refl

three_tasks : tasks_of 1 3
    ≡ record { number = 0; entry = 0x1000; steps = 19; bound = 6; cycle = 9000 }
    ∷ record { number = 1; entry = 0x1064; steps = 16; bound = 3; cycle = 15000 }
    ∷ record { number = 2; entry = 0x10bc; steps = 11; bound = 3; cycle = 18000 }
    ∷ []
unfolding entry_of
three_tasks = refl

-- the cycles of a task that nothing interrupts: 1 for each instruction, the loop's two one time more
-- than it goes back, and 10 for the service
abbrev alone : DemoTask → ℕ
alone task = task.steps + 1 + 2 * (task.bound + 1) + 2 + 10

three_bodies : map alone (tasks_of 1 3) ≡ 46 ∷ 37 ∷ 32 ∷ []
unfolding entry_of
three_bodies = refl

-- addi t0, t0, 1; addi t1, zero, 3; addi t1, t1, -1; bne t1, zero, -4; and TerminateTask
one_step : words_of (record { number = 0; entry = 0x1000; steps = 1; bound = 2; cycle = 2000 } ∷ [])
    ≡ 0x00128293 ∷ 0x00300313 ∷ 0xfff30313 ∷ 0xfe031ee3 ∷ 0x00000513 ∷ 0x00200893 ∷ 0x00000073 ∷ []
one_step = refl

three_sets : sets_in_order 3
    ≡ (false ∷ false ∷ false ∷ [])
    ∷ (true ∷ false ∷ false ∷ []) ∷ (false ∷ true ∷ false ∷ []) ∷ (false ∷ false ∷ true ∷ [])
    ∷ (true ∷ true ∷ false ∷ []) ∷ (true ∷ false ∷ true ∷ []) ∷ (false ∷ true ∷ true ∷ [])
    ∷ (true ∷ true ∷ true ∷ []) ∷ []
three_sets = refl

second_alone : state_of (false ∷ true ∷ [])
    ≡ record { mode = 0; tasks = Suspended ∷ At 1 false [] ∷ []; isr = None; disabled = false; suspended = 0 }
second_alone = refl
