-- What the step of the command leaves of the outside: it reads no file.
use Rattle.std.proofs.Common.{ℕ, List}
use Rattle.wcet_io.specs.Files.{FilesOutside}
use Rattle.command_steps.specs.Steps.{Calls, IsCall}
use Rattle.command_steps.proofs.Honest.{IsHonest, judged}
use Rattle.demo_command.specs.Demo.{AnswersDemo, Demo}

pub demo_honest : {F : Type 0} (outside : F → FilesOutside) (reads : Calls F) (names : List (List ℕ)) (seed count : ℕ)
    → IsHonest outside names (Demo (IsCall outside reads) seed count)
demo_honest outside reads names seed count = judged outside names (AnswersDemo seed count)
