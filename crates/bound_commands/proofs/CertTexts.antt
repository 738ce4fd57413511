-- The text of a certificate is JSON for its value, and is read again as the certificate.
use Rattle.std.proofs.Common.{◌≡◌, ℕ, suc, ◌^◌, ◌<◌, List, [], ◌∷◌, map, Option, Some, None, Ok, refl, arith}
use Rattle.std.specs.Prelude.{IfSome, IsUtf8, codes}
use Rattle.std.specs.List.{AllByRecursion}
use Rattle.json.proofs.Printed.Utf8.{IsUtf8-are_ascii}
use Rattle.serde_json.specs.Data.{Data, string, object, Members, no_members, member}
use Rattle.serde_json.specs.Read.{of_members}
use Rattle.serde_json.specs.Written.{compact_text, members_outline}
use Rattle.listed.specs.Lists.{AllFrom}
use Rattle.json_fields.specs.Files.{IsGiven}
use Rattle.abstract_sched.specs.declared.rules.StateRules.{StateRules}
use Rattle.abstract_sched.specs.declared.states.AbsState.{AbsState}
use Rattle.abstract_sched.specs.declared.states.IsrAt.{IsrAt}
use Rattle.abstract_sched.specs.declared.states.TaskAt.{TaskAt}
use Rattle.abstract_sched.specs.declared.states.TaskAt.TheVariants.{Suspended, At}
use Rattle.abstract_sched.specs.Fits.{IsId, FitsTask, FitsIsr, FitsRules}
use Rattle.certificate.specs.declared.cert.Cert.{Cert}
use Rattle.certificate.specs.declared.fault.CertKind.TheVariants as cert_kinds
use Rattle.certificate.specs.Certificate.{cert_in}
use Rattle.certificate.specs.Lawful.{IsLawful}
use Rattle.certificate.specs.Writing.{number_data, flag_data, digits_data, list_data, task_data, isr_data, state_data, cert_data, cert_text}
use Rattle.certificate.proofs.Written.{read_again}
use Rattle.bound_commands.proofs.ReadAgain.{ReadsBack, MembersBack, deeper, number_back, string_back, digits_back, flag_back, list_back, each_back, member_back, no_more_back, object_back, read_text}

-- ---- states

id_back : (n : ℕ) → IsId n → ReadsBack 0 (number_data n)
id_back n small = number_back n (omega (arith, small))

task_back : (rules : StateRules) (task : ℕ) (at : TaskAt) → FitsTask rules task at → ReadsBack 1 (task_data at)
task_back rules task Suspended fits = list_back 0 [] tt
task_back rules task (At block inner held) fits =
    list_back 0 (number_data block ∷ flag_data inner ∷ map number_data held) (
      id_back block fits.at_block.is_id,
      (
        flag_back inner,
        each_back 0 number_data (λ id. (id < rules.resources) × IsId id) (λ id is. id_back id is.1) held fits.resources,
      ),
    )

tasks_back : (rules : StateRules) (place : ℕ) (tasks : List TaskAt) → AllFrom (FitsTask rules) place tasks
    → AllByRecursion (ReadsBack 1) (map task_data tasks)
tasks_back rules place [] all = tt
tasks_back rules place (task ∷ tasks) all = (task_back rules place task all.0, tasks_back rules (suc place) tasks all.1)

isr_back : (rules : StateRules) (isr : Option IsrAt) → IfSome isr (FitsIsr rules) → ReadsBack 1 (isr_data isr)
isr_back rules None fits = list_back 0 [] tt
isr_back rules (Some at) fits =
    list_back 0 (number_data at.isr ∷ number_data at.block ∷ []) (id_back at.isr fits.is_id, (id_back at.block fits.at_block.is_id, tt))

state_back : (rules : StateRules) (state : AbsState) → FitsRules rules state → ReadsBack 3 (state_data state)
state_back rules state fits =
    let depth = fits.suspended in
    let mode : Data = number_data state.mode in
    let tasks : Data = list_data (map task_data state.tasks) in
    let isr : Data = isr_data state.isr in
    let disabled : Data = flag_data state.disabled in
    let suspended : Data = number_data state.suspended in
    list_back 2 (mode ∷ tasks ∷ isr ∷ disabled ∷ suspended ∷ []) (
      deeper 0 2 mode (omega arith) (id_back state.mode fits.mode.1),
      (
        list_back 1 (map task_data state.tasks) (tasks_back rules 0 state.tasks fits.tasks),
        (
          deeper 1 2 isr (omega arith) (isr_back rules state.isr fits.isr),
          (
            deeper 0 2 disabled (omega arith) (flag_back state.disabled),
            (deeper 0 2 suspended (omega arith) (number_back state.suspended (omega arith)), tt),
          ),
        ),
      ),
    )

-- ---- certificates

-- the five members of a certificate
cert_members : Data → Data → Data → Data → Data → Members
cert_members bound denominator multipliers states task =
    member (codes "bound") bound
    (member (codes "denominator") denominator
    (member (codes "multipliers") multipliers
    (member (codes "states") states
    (member (codes "task") task no_members))))

members_same : (bound denominator multipliers states task : Data) (n : ℕ) → ReadsBack n bound → ReadsBack n denominator → ReadsBack n multipliers
    → ReadsBack n states → ReadsBack n task
    → of_members (members_outline (cert_members bound denominator multipliers states task)) no_members
    ≡ Some (cert_members bound denominator multipliers states task)
unfolding cert_members
members_same bound denominator multipliers states task n is_bound is_denominator are_multipliers are_states is_task =
    rw (is_bound.same, is_denominator.same, are_multipliers.same, are_states.same, is_task.same) refl

members_back : (bound denominator multipliers states task : Data) (n : ℕ) → ReadsBack n bound → ReadsBack n denominator → ReadsBack n multipliers
    → ReadsBack n states → ReadsBack n task → MembersBack n (cert_members bound denominator multipliers states task)
unfolding cert_members
members_back bound denominator multipliers states task n is_bound is_denominator are_multipliers are_states is_task =
    let one : Members = member (codes "task") task no_members in
    let two : Members = member (codes "states") states one in
    let three : Members = member (codes "multipliers") multipliers two in
    let four : Members = member (codes "denominator") denominator three in
    member_back n (codes "bound") bound four (IsUtf8-are_ascii (codes "bound") refl) is_bound
    (member_back n (codes "denominator") denominator three (IsUtf8-are_ascii (codes "denominator") refl) is_denominator
    (member_back n (codes "multipliers") multipliers two (IsUtf8-are_ascii (codes "multipliers") refl) are_multipliers
    (member_back n (codes "states") states one (IsUtf8-are_ascii (codes "states") refl) are_states
    (member_back n (codes "task") task no_members (IsUtf8-are_ascii (codes "task") refl) is_task (no_more_back n)))))

cert_object_back : (bound denominator multipliers states task : Data) (n : ℕ) → ReadsBack n bound → ReadsBack n denominator → ReadsBack n multipliers
    → ReadsBack n states → ReadsBack n task → ReadsBack (suc n) (object (cert_members bound denominator multipliers states task))
cert_object_back bound denominator multipliers states task n is_bound is_denominator are_multipliers are_states is_task =
    object_back n (cert_members bound denominator multipliers states task)
    (members_same bound denominator multipliers states task n is_bound is_denominator are_multipliers are_states is_task)
    (members_back bound denominator multipliers states task n is_bound is_denominator are_multipliers are_states is_task)

cert_reads : (rules : StateRules) (task : ℕ) (name : List ℕ) (cert : Cert) → IsUtf8 name → IsLawful rules task cert → ReadsBack 5 (cert_data name cert)
unfolding cert_data cert_members
cert_reads rules task name cert is_text lawful =
    let bound = lawful.bound in
    let denominator = lawful.denominator.1 in
    cert_object_back (digits_data cert.bound) (digits_data cert.denominator) (list_data (map digits_data cert.multipliers))
    (list_data (map state_data cert.states)) (string name) 4
    (deeper 0 4 (digits_data cert.bound) (omega arith) (digits_back cert.bound bound))
    (deeper 0 4 (digits_data cert.denominator) (omega arith) (digits_back cert.denominator (omega arith)))
    (deeper 1 4 (list_data (map digits_data cert.multipliers)) (omega arith)
    (list_back 0 (map digits_data cert.multipliers)
    (each_back 0 digits_data (λ m. m < 2 ^ 80) (λ m small. digits_back m (omega (arith, small))) cert.multipliers lawful.multipliers)))
    (list_back 3 (map state_data cert.states) (each_back 3 state_data (FitsRules rules) (state_back rules) cert.states lawful.states.fit))
    (deeper 0 4 (string name) (omega arith) (string_back name is_text))

-- ---- the text

pub cert_again : (rules : StateRules) (task : ℕ) (name : List ℕ) (cert : Cert) → IsUtf8 name → IsLawful rules task cert
    → IsGiven cert_kinds.Json (cert_in rules task name) (cert_text name cert) (Ok cert)
cert_again rules task name cert is_text lawful =
    let back = cert_reads rules task name cert is_text lawful in
    let d : Data = cert_data name cert in
    read_again name cert d (compact_text d) refl back.text (λ _. read_text 5 d (omega arith) back) rules task lawful
