-- What `?` gives of a step that halted.
use Rattle.std.proofs.Common.{◌≡◌, Result, Ok, Err, ap}
use Rattle.std.specs.Result.{IsErr, IsErrAnd}
use Rattle.command_steps.specs.declared.halt.Halt.{Halt}

pub err_is : {X : Type 0} (r : Result X Halt) (e : Halt) → IsErr r → IsErrAnd r (λ x. x ≡ e) → r ≡ Err e
err_is (Ok x) e is same = absurd cc
err_is (Err x) e is same = ap Err same
