-- The steps of `do`: each goes on with what the one before gave, and the first that gave nothing
-- decides. `Steps.Options` has them where no kind is told.
use Rattle.std.specs.Prelude.{Result, Ok, Err}
pub mod Options

infixl 10 ◌>>=◌
abbrev pub ◌>>=◌ : {A B K : Type 0} → Result A K → (A → Result B K) → Result B K
(Ok x) >>= next = next x
(Err kind) >>= next = Err kind
