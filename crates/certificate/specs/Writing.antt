-- What a certificate is written as: a JSON value, in the form of `Form`, and its text. A state is the list
-- `[mode, tasks, isr, disable, suspend]`. A task is `[]` where it is suspended, else
-- `[block, inner, held ids..]`; isr is `[]` where none is active, else `[isr, block]`.
use Rattle.std.specs.Prelude.{ℕ, List, [], ◌∷◌, ◌++◌, map, Bool, true, false, Option, Some, None, codes, decimal, ◌≡◌, refl}
use Rattle.std.specs.Fmt.{digits}
use Rattle.json.specs.Print.{escape_byte}
use Rattle.serde_json.specs.Data.{Data, number, unsigned, string, array, object, no_members, member}
use Rattle.serde_json.specs.View.{items_of}
use Rattle.serde_json.specs.Written.{compact_text}
use Rattle.abstract_sched.specs.declared.states.AbsState.{AbsState}
use Rattle.abstract_sched.specs.declared.states.IsrAt.{IsrAt}
use Rattle.abstract_sched.specs.declared.states.TaskAt.{TaskAt}
use Rattle.abstract_sched.specs.declared.states.TaskAt.TheVariants.{Suspended, At}
use Rattle.certificate.specs.declared.cert.Cert.{Cert}

abbrev pub number_data : ℕ → Data
number_data n = number (unsigned n)

-- 0 or 1
abbrev pub flag_data : Bool → Data
flag_data false = number_data 0
flag_data true = number_data 1

-- a text of decimal digits
abbrev pub digits_data : ℕ → Data
digits_data n = string (decimal n)

abbrev pub list_data : List Data → Data
list_data ds = array (items_of ds)

abbrev pub task_members : TaskAt → List Data
task_members Suspended = []
task_members (At block inner held) = number_data block ∷ flag_data inner ∷ map number_data held

abbrev pub task_data : TaskAt → Data
task_data task = list_data (task_members task)

abbrev pub isr_members : Option IsrAt → List Data
isr_members None = []
isr_members (Some at) = number_data at.isr ∷ number_data at.block ∷ []

abbrev pub isr_data : Option IsrAt → Data
isr_data isr = list_data (isr_members isr)

abbrev pub state_data : AbsState → Data
state_data state = list_data (
    number_data state.mode
    ∷ list_data (map task_data state.tasks)
    ∷ isr_data state.isr
    ∷ flag_data state.disabled
    ∷ number_data state.suspended
    ∷ []
    )

-- for the task of this name
unfoldable pub cert_data : List ℕ → Cert → Data
cert_data name cert = object (
    member (codes "bound") (digits_data cert.bound)
    (member (codes "denominator") (digits_data cert.denominator)
    (member (codes "multipliers") (list_data (map digits_data cert.multipliers))
    (member (codes "states") (list_data (map state_data cert.states))
    (member (codes "task") (string name) no_members))))
    )

-- one line: the value with no space, and a newline
abbrev pub cert_text : List ℕ → Cert → List ℕ
cert_text name cert = compact_text (cert_data name cert) ++ 10 ∷ []

-- the same of a list of states alone
abbrev pub states_text : List AbsState → List ℕ
states_text states = compact_text (list_data (map state_data states)) ++ 10 ∷ []

-- ---- worked cases

lone : Cert
lone = record {
  task = 0;
  bound = 13;
  denominator = 1;
  multipliers = 13 ∷ 10 ∷ 3 ∷ 2 ∷ 1 ∷ 0 ∷ 3 ∷ 0 ∷ 0 ∷ [];
  states = record { mode = 0; tasks = At 0 false [] ∷ []; isr = None; disabled = false; suspended = 0 }
      ∷ record { mode = 0; tasks = Suspended ∷ []; isr = None; disabled = false; suspended = 0 }
      ∷ [];
}

its_line : cert_text (codes "T") lone
    ≡ codes "{\"bound\":\"13\",\"denominator\":\"1\",\"multipliers\":[\"13\",\"10\",\"3\",\"2\",\"1\",\"0\",\"3\",\"0\",\"0\"],\"states\":[[0,[[0,0]],[],0,0],[0,[[]],[],0,0]],\"task\":\"T\"}\n"
unfolding lone cert_data digits escape_byte
its_line = refl

its_states : states_text lone.states ≡ codes "[[0,[[0,0]],[],0,0],[0,[[]],[],0,0]]\n"
unfolding lone digits
its_states = refl

-- a task that holds resources 1 and 4 with its inner ceiling in force, while ISR 2 is active
interrupted : AbsState
interrupted = record {
  mode = 3;
  tasks = At 7 true (1 ∷ 4 ∷ []) ∷ [];
  isr = Some (record { isr = 2; block = 9 });
  disabled = true;
  suspended = 5;
}

its_value : compact_text (state_data interrupted) ≡ codes "[3,[[7,1,1,4]],[2,9],1,5]"
unfolding interrupted digits
its_value = refl
