-- The statuses with which a run ends, and the numbers that the process gives for them.
use Rattle.std.specs.Prelude.{ℕ}
use Rattle.command_steps.specs.declared.status.Reason.{Reason}
use Rattle.command_steps.specs.declared.status.Reason.TheVariants as reason
use Rattle.command_steps.specs.declared.status.Status.{Status}
use Rattle.command_steps.specs.declared.status.Status.TheVariants.{Ok, No, Words, Input, Unbounded, Budget, Wide, Misuse, ReadFault, WriteFault, Memory, NotDeclared}

-- how a run ends that was refused for this reason
abbrev pub status_of : Reason → Status
status_of reason.No = No
status_of reason.Words = Words
status_of reason.Input = Input
status_of reason.Unbounded = Unbounded
status_of reason.Budget = Budget
status_of reason.Wide = Wide
status_of reason.Misuse = Misuse
status_of reason.NotDeclared = NotDeclared

abbrev pub code_of : Status → ℕ
code_of Ok = 0
code_of No = 1
code_of Words = 2
code_of Input = 3
code_of Unbounded = 4
code_of Budget = 5
code_of Wide = 6
code_of Misuse = 7
code_of ReadFault = 8
code_of WriteFault = 9
code_of Memory = 10
code_of NotDeclared = 11
