-- A certificate, or a list of states, that is written is read again as the same.
use Rattle.std.proofs.Common.{◌≡◌, ℕ, zero, suc, ◌+◌, ◌^◌, ◌<◌, ◌≤◌, Bool, true, false, List, [], ◌∷◌, ◌++◌, length, map, Option, Some, None, Result, Ok, refl, sym, ap, ◌∙◌, arith, inl, decimal}
use Rattle.std.proofs.lemmas.Bool.{false≢true, le-leb, lt-ltb, ne_eqb, eq-eqb}
use Rattle.std.proofs.lemmas.List.{length-map}
use Rattle.std.proofs.lemmas.Option.{same_Some}
use Rattle.std.proofs.lemmas.Slice.Eq.{bytes_eq-Decides}
use Rattle.std.proofs.lemmas.Str.{IsUtf8-append}
use Rattle.std.specs.Prelude.{IsUtf8, IfSome, nat_eq, slice_get}
use Rattle.std.specs.List.{AllByRecursion, list_all}
use Rattle.json.proofs.Printed.Utf8.{IsUtf8-are_ascii}
use Rattle.serde_json.specs.Data.{Data, depth, items_depth}
use Rattle.serde_json.specs.Read.{read, max_depth}
use Rattle.serde_json.specs.View.{items_of}
use Rattle.serde_json.specs.Written.{has_float, items_have_float, compact_text}
use Rattle.listed.specs.Lists.{each_from, differ, AllFrom}
use Rattle.json_fields.specs.Files.{IsGiven}
use Rattle.json_fields.specs.Forms.{is_number, is_text}
use Rattle.json_fields.proofs.Words.{members_of-items_of}
use Rattle.osek_kernel.specs.declared.context.Context.{Context}
use Rattle.osek_kernel.specs.declared.context.Context.TheVariants.{Task, Isr}
use Rattle.abstract_sched.specs.declared.rules.StateRules.{StateRules}
use Rattle.abstract_sched.specs.declared.states.AbsState.{AbsState}
use Rattle.abstract_sched.specs.declared.states.IsrAt.{IsrAt}
use Rattle.abstract_sched.specs.declared.states.TaskAt.{TaskAt}
use Rattle.abstract_sched.specs.declared.states.TaskAt.TheVariants.{Suspended, At}
use Rattle.abstract_sched.specs.Fits.{IsId, IsBlockOf, FitsTask, FitsIsr, FitsRules, AreLawful}
use Rattle.certificate.specs.declared.cert.Cert.{Cert}
use Rattle.certificate.specs.declared.fault.CertKind.TheVariants as cert_kinds
use Rattle.certificate.specs.declared.fault.StatesKind.TheVariants as states_kinds
use Rattle.certificate.specs.Certificate.{multiplier_in, cert_numbers, cert_in}
use Rattle.certificate.specs.Form.{CertParts, is_task, is_isr, is_state, cert_parts}
use Rattle.certificate.specs.Lawful.{IsLawful}
use Rattle.certificate.specs.Parts.{number_in, id_below, flag_in, depth_in, same_context, block_of, inner_of, isr_at}
use Rattle.certificate.specs.States.{held_id, held_of, task_at, task_of, tasks_of, state_of_parts, state_of, states_of, states_in}
use Rattle.certificate.specs.Writing.{number_data, flag_data, digits_data, task_data, isr_members, isr_data, state_data, list_data, states_text, cert_data, cert_text}
use Rattle.certificate.proofs.Decimals.{digits_below-decimal}
use Rattle.certificate.proofs.Newlines.{read-newline}

-- ---- lists

each_back : {A K : Type 0} (gives : ℕ → Data → Result A K) (data_of : A → Data) (P : ℕ → A → Type 0)
    → ((place : ℕ) (x : A) → P place x → gives place (data_of x) ≡ Ok x)
    → (place : ℕ) (xs : List A) → AllFrom P place xs → each_from gives place (map data_of xs) ≡ Ok xs
each_back gives data_of P back place [] all = refl
each_back gives data_of P back place (x ∷ xs) all = rw (back place x all.0, each_back gives data_of P back (suc place) xs all.1) refl

all_back : {A K : Type 0} (gives : Data → Result A K) (data_of : A → Data) (P : A → Type 0) → ((x : A) → P x → gives (data_of x) ≡ Ok x)
    → (place : ℕ) (xs : List A) → AllByRecursion P xs → each_from (λ _. gives) place (map data_of xs) ≡ Ok xs
all_back gives data_of P back place [] all = refl
all_back gives data_of P back place (x ∷ xs) all = rw (back x all.0, all_back gives data_of P back (suc place) xs all.1) refl

-- each place is below the count as well
with_places : {A : Type 0} (P : ℕ → A → Type 0) (count place : ℕ) (xs : List A) → AllFrom P place xs → place + length xs ≤ count
    → AllFrom (λ p x. P p x × (p < count)) place xs
with_places P count place [] all fits = tt
with_places P count place (x ∷ xs) all fits = ((all.0, omega arith), with_places P count (suc place) xs all.1 (omega arith))

pub all_pass : {A : Type 0} (test : Data → Bool) (data_of : A → Data) → ((x : A) → test (data_of x) ≡ true) → (xs : List A) → list_all test (map data_of xs) ≡ true
all_pass test data_of passes [] = refl
all_pass test data_of passes (x ∷ xs) = rw (passes x, all_pass test data_of passes xs) refl

-- ---- the numbers of a state

number_back : (n : ℕ) → IsId n → number_in (number_data n) ≡ Some n
number_back n small =
    let least : 0 ≤ n = omega arith in
    let most : n ≤ 4294967295 = omega arith in
    rw (le-leb 0 n least, le-leb n 4294967295 most) refl

id_back : (count n : ℕ) → n < count → IsId n → id_below count (number_data n) ≡ Some n
id_back count n below small = rw (number_back n small, lt-ltb n count below) refl

flag_back : (flag : Bool) → flag_in (flag_data flag) ≡ Some flag
flag_back true = refl
flag_back false = refl

depth_back : (n : ℕ) → n ≤ 7 → depth_in (number_data n) ≡ Some n
depth_back n low = let least : 0 ≤ n = omega arith in rw (le-leb 0 n least, le-leb n 7 low) refl

same_context_itself : (context : Context) → same_context context context ≡ true
same_context_itself (Task id) = eq-eqb id id refl
same_context_itself (Isr id) = eq-eqb id id refl

block_back : (rules : StateRules) (context : Context) (block : ℕ) → IsBlockOf rules context block → block_of rules context (number_data block) ≡ Some block
unfolding block_of
block_back rules context block at = rw (number_back block at.is_id, at.owner, same_context_itself context) refl

inner_back : (has_inner inner : Bool) → (inner ≡ true → has_inner ≡ true) → inner_of has_inner (flag_data inner) ≡ Some inner
unfolding inner_of
inner_back true true allowed = refl
inner_back true false allowed = refl
inner_back false true allowed = absurd (false≢true (allowed refl))
inner_back false false allowed = refl

-- ---- a state

held_back : (rules : StateRules) (ids : List ℕ) → AllByRecursion (λ id. (id < rules.resources) × IsId id) ids → differ nat_eq ids ≡ true
    → held_of rules (map number_data ids) ≡ Ok ids
unfolding held_of
held_back rules ids below once =
    let read : (id : ℕ) → (id < rules.resources) × IsId id → held_id rules (number_data id) ≡ Ok id =
    λ id fits. rw (id_back rules.resources id fits.0 fits.1) refl in
    rw (all_back (held_id rules) number_data (λ id. (id < rules.resources) × IsId id) read 0 ids below, once) refl

flag_there : (flags : List Bool) (i : ℕ) → i < length flags → (flag : Bool) × (slice_get flags i ≡ Some flag)
flag_there [] i below = absurd (omega arith)
flag_there (flag ∷ flags) zero below = (flag, refl)
flag_there (flag ∷ flags) (suc i) below = flag_there flags i (omega arith)

task_back : (rules : StateRules) (id : ℕ) (task : TaskAt) → FitsTask rules id task → id < length rules.inner → task_of rules id (task_data task) ≡ Ok task
unfolding task_at
task_back rules id Suspended fits below = rw ((flag_there rules.inner id below).1) refl
task_back rules id (At block inner held) fits below =
    let flag = flag_there rules.inner id below in
    let allowed : inner ≡ true → flag.0 ≡ true = λ on. same_Some flag.0 true (sym flag.1 ∙ fits.has_inner on) in
    rw (
      flag.1,
      members_of-items_of (map number_data held),
      block_back rules (Task id) block fits.at_block,
      inner_back flag.0 inner allowed,
      held_back rules held fits.resources fits.once,
    ) refl

tasks_back : (rules : StateRules) (tasks : List TaskAt) → AllFrom (FitsTask rules) 0 tasks → length tasks ≡ length rules.inner
    → tasks_of rules (map task_data tasks) ≡ Ok tasks
tasks_back rules tasks fit count =
    let many = eq-eqb (length (map task_data tasks)) (length rules.inner) (rw length-map count) in
    let places = with_places (FitsTask rules) (length rules.inner) 0 tasks fit (omega arith) in
    let Place = λ (id : ℕ) (task : TaskAt). FitsTask rules id task × (id < length rules.inner) in
    rw (many, each_back (task_of rules) task_data Place (λ id task fits. task_back rules id task fits.0 fits.1) 0 tasks places) refl

isr_back : (rules : StateRules) (isr : Option IsrAt) → IfSome isr (FitsIsr rules) → isr_at rules (isr_members isr) ≡ Some isr
unfolding isr_at
isr_back rules None fits = refl
isr_back rules (Some at) fits = rw (id_back rules.isrs at.isr fits.exists fits.is_id, block_back rules (Isr at.isr) at.block fits.at_block) refl

state_back : (rules : StateRules) (state : AbsState) → FitsRules rules state → state_of rules (state_data state) ≡ Ok state
unfolding state_of_parts
state_back rules state fits =
    rw (
      id_back rules.modes state.mode fits.mode.0 fits.mode.1,
      members_of-items_of (map task_data state.tasks),
      tasks_back rules state.tasks fits.tasks fits.count,
      members_of-items_of (isr_members state.isr),
      isr_back rules state.isr fits.isr,
      flag_back state.disabled,
      depth_back state.suspended fits.suspended,
    ) refl

pub states_back : (rules : StateRules) (states : List AbsState) → AreLawful rules states → states_of rules (map state_data states) ≡ Ok states
states_back rules states lawful = rw (all_back (state_of rules) state_data (FitsRules rules) (state_back rules) 0 states lawful.fit, lawful.once) refl

-- ---- forms

flag_form : (flag : Bool) → is_number (flag_data flag) ≡ true
flag_form true = refl
flag_form false = refl

task_form : (task : TaskAt) → is_task (task_data task) ≡ true
task_form Suspended = refl
task_form (At block inner held) =
    rw (
      members_of-items_of (map number_data held),
      ne_eqb (suc (suc (length (map number_data held)))) 1 (λ is. omega arith),
      flag_form inner,
      all_pass is_number number_data (λ _. refl) held,
    ) refl

isr_form : (isr : Option IsrAt) → is_isr (isr_data isr) ≡ true
isr_form None = refl
isr_form (Some at) = refl

pub state_form : (state : AbsState) → is_state (state_data state) ≡ true
state_form state =
    rw (
      members_of-items_of (map task_data state.tasks),
      all_pass is_task task_data task_form state.tasks,
      isr_form state.isr,
      flag_form state.disabled,
    ) refl

-- ---- a certificate

abbrev parts_of : List ℕ → Cert → CertParts
parts_of name cert = record {
  bound = decimal cert.bound;
  denominator = decimal cert.denominator;
  multipliers = map digits_data cert.multipliers;
  states = map state_data cert.states;
  task = name;
}

parts_back : (name : List ℕ) (cert : Cert) → cert_parts (cert_data name cert) ≡ Some (parts_of name cert)
unfolding cert_parts cert_data
parts_back name cert =
    rw (
      members_of-items_of (map digits_data cert.multipliers),
      members_of-items_of (map state_data cert.states),
      all_pass is_text digits_data (λ _. refl) cert.multipliers,
      all_pass is_state state_data state_form cert.states,
    ) refl

pub multipliers_back : (multipliers : List ℕ) → AllByRecursion (λ m. m < 2 ^ 80) multipliers
    → each_from (λ _. multiplier_in) 0 (map digits_data multipliers) ≡ Ok multipliers
multipliers_back multipliers small =
    all_back multiplier_in digits_data (λ m. m < 2 ^ 80) (λ m below. rw (digits_below-decimal (2 ^ 80) m below (omega arith)) refl) 0 multipliers small

numbers_back : (name : List ℕ) (rules : StateRules) (task : ℕ) (cert : Cert) → IsLawful rules task cert
    → cert_numbers (parts_of name cert) ≡ Ok (record { bound = cert.bound; denominator = cert.denominator; multipliers = cert.multipliers })
unfolding cert_numbers
numbers_back name rules task cert lawful =
    rw (
      digits_below-decimal (2 ^ 120) cert.bound lawful.bound (omega (arith, lawful.bound)),
      digits_below-decimal (2 ^ 80) cert.denominator lawful.denominator.1 (omega (arith, lawful.denominator.1)),
      multipliers_back cert.multipliers lawful.multipliers,
      ne_eqb cert.denominator 0 (λ none. omega (arith, lawful.denominator.0)),
    ) refl

cert_back : (name : List ℕ) (rules : StateRules) (task : ℕ) (cert : Cert) → IsLawful rules task cert → cert_in rules task name (cert_data name cert) ≡ Ok cert
cert_back name rules task cert lawful =
    rw (
      parts_back name cert,
      numbers_back name rules task cert lawful,
      states_back rules cert.states lawful.states,
      (bytes_eq-Decides name name).1 refl,
    )
    (ap (λ id. Ok (record { task = id; bound = cert.bound; denominator = cert.denominator; states = cert.states; multipliers = cert.multipliers }))
    (sym lawful.for_task))

-- ---- no float, and few levels

pub all_exact : {A : Type 0} (data_of : A → Data) → ((x : A) → has_float (data_of x) ≡ false) → (xs : List A) → items_have_float (items_of (map data_of xs)) ≡ false
all_exact data_of exact [] = refl
all_exact data_of exact (x ∷ xs) = rw (exact x, all_exact data_of exact xs) refl

flag_exact : (flag : Bool) → has_float (flag_data flag) ≡ false
flag_exact true = refl
flag_exact false = refl

task_exact : (task : TaskAt) → has_float (task_data task) ≡ false
task_exact Suspended = refl
task_exact (At block inner held) = rw (flag_exact inner, all_exact number_data (λ _. refl) held) refl

isr_exact : (isr : Option IsrAt) → has_float (isr_data isr) ≡ false
isr_exact None = refl
isr_exact (Some at) = refl

pub state_exact : (state : AbsState) → has_float (state_data state) ≡ false
state_exact state = rw (all_exact task_data task_exact state.tasks, isr_exact state.isr, flag_exact state.disabled) refl

cert_exact : (name : List ℕ) (cert : Cert) → has_float (cert_data name cert) ≡ false
unfolding cert_data
cert_exact name cert = rw (all_exact digits_data (λ _. refl) cert.multipliers, all_exact state_data state_exact cert.states) refl

pub all_shallow : {A : Type 0} (data_of : A → Data) (n : ℕ) → ((x : A) → depth (data_of x) ≤ n) → (xs : List A) → items_depth (items_of (map data_of xs)) ≤ n
all_shallow data_of n shallow [] = omega arith
all_shallow data_of n shallow (x ∷ xs) = omega (arith, shallow x, all_shallow data_of n shallow xs)

flag_shallow : (flag : Bool) → depth (flag_data flag) ≤ 0
flag_shallow true = omega arith
flag_shallow false = omega arith

task_shallow : (task : TaskAt) → depth (task_data task) ≤ 1
task_shallow Suspended = omega arith
task_shallow (At block inner held) = omega (arith, flag_shallow inner, all_shallow number_data 0 (λ _. omega arith) held)

isr_shallow : (isr : Option IsrAt) → depth (isr_data isr) ≤ 1
isr_shallow None = omega arith
isr_shallow (Some at) = omega arith

pub state_shallow : (state : AbsState) → depth (state_data state) ≤ 3
state_shallow state = omega (arith, all_shallow task_data 1 task_shallow state.tasks, isr_shallow state.isr, flag_shallow state.disabled)

cert_shallow : (name : List ℕ) (cert : Cert) → depth (cert_data name cert) ≤ max_depth
unfolding cert_data
cert_shallow name cert = omega (arith, all_shallow digits_data 0 (λ _. omega arith) cert.multipliers, all_shallow state_data 3 state_shallow cert.states)

-- ---- the text

pub text_of : (name : List ℕ) (cert : Cert) (d : Data) (text : List ℕ) → d ≡ cert_data name cert → (has_float d ≡ false → text ≡ compact_text d)
    → text ++ 10 ∷ [] ≡ cert_text name cert
text_of name cert d text is written =
    let exact : has_float d ≡ false = rw is (cert_exact name cert) in
    ap (λ t. t ++ 10 ∷ []) (written exact ∙ ap compact_text is)

pub read_again : (name : List ℕ) (cert : Cert) (d : Data) (text : List ℕ) → d ≡ cert_data name cert → IsUtf8 text → (depth d ≤ max_depth → read text ≡ Some d)
    → (rules : StateRules) (task : ℕ) → IsLawful rules task cert → IsGiven cert_kinds.Json (cert_in rules task name) (text ++ 10 ∷ []) (Ok cert)
read_again name cert d text is utf8 reads rules task lawful =
    let shallow : depth d ≤ max_depth = rw is (cert_shallow name cert) in
    inl (
      d,
      (IsUtf8-append text (10 ∷ []) utf8 (IsUtf8-are_ascii (10 ∷ []) refl), read-newline text ∙ reads shallow),
      ap (cert_in rules task name) is ∙ cert_back name rules task cert lawful,
    )

-- ---- a list of states

states_exact : (states : List AbsState) → has_float (list_data (map state_data states)) ≡ false
states_exact states = all_exact state_data state_exact states

states_shallow : (states : List AbsState) → depth (list_data (map state_data states)) ≤ max_depth
states_shallow states = omega (arith, all_shallow state_data 3 state_shallow states)

states_list_back : (rules : StateRules) (states : List AbsState) → AreLawful rules states → states_in rules (list_data (map state_data states)) ≡ Ok states
states_list_back rules states lawful =
    rw (members_of-items_of (map state_data states), all_pass is_state state_data state_form states) (states_back rules states lawful)

pub states_text_of : (states : List AbsState) (d : Data) (text : List ℕ) → d ≡ list_data (map state_data states)
    → (has_float d ≡ false → text ≡ compact_text d) → text ++ 10 ∷ [] ≡ states_text states
states_text_of states d text is written =
    let exact : has_float d ≡ false = rw is (states_exact states) in
    ap (λ t. t ++ 10 ∷ []) (written exact ∙ ap compact_text is)

pub states_read_again : (states : List AbsState) (d : Data) (text : List ℕ) → d ≡ list_data (map state_data states) → IsUtf8 text
    → (depth d ≤ max_depth → read text ≡ Some d) → (rules : StateRules) → AreLawful rules states
    → IsGiven states_kinds.Json (states_in rules) (text ++ 10 ∷ []) (Ok states)
states_read_again states d text is utf8 reads rules lawful =
    let shallow : depth d ≤ max_depth = rw is (states_shallow states) in
    inl (
      d,
      (IsUtf8-append text (10 ∷ []) utf8 (IsUtf8-are_ascii (10 ∷ []) refl), read-newline text ∙ reads shallow),
      ap (states_in rules) is ∙ states_list_back rules states lawful,
    )
