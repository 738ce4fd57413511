-- States of a list that are found in a set.
use Rattle.std.specs.Prelude.{◌≡◌, List}
use Rattle.std.specs.List.{list_any}
use Rattle.std.specs.BTreeSet.{BTreeSet, contains}
use Rattle.abstract_sched.specs.declared.states.AbsState.{AbsState}
use Rattle.abstract_sched.specs.States.{same_state}
use Rattle.abstract_sched.specs.contracts.states.AbsStateOrd.TheImpl as order

-- what is found in the set is one of the states
abbrev pub AreIn : BTreeSet AbsState → List AbsState → Type 0
AreIn set states = (state : AbsState) → contains order.cmp-value.it set state ≡ list_any (same_state state) states
