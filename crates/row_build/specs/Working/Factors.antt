-- A factor as the difference of two numbers.
use Rattle.std.specs.Prelude.{ℕ, Bool, if◌then◌else◌, ℤ, pos, ◌-ℤ◌}
use Rattle.row_build.specs.declared.factor.Factor.{Factor}

abbrev pub entry_of : Factor → ℤ
entry_of factor = pos factor.more -ℤ pos factor.less

-- once, or not at all
abbrev pub once : Bool → ℕ
once test = if test then 1 else 0
