-- The form of certificates and of lists of scheduler states in JSON: types of values, keys of objects and
-- lengths of lists. A state is the list `[mode, tasks, isr, disable, suspend]`. A task is `[]` where it
-- is suspended, else `[block, inner, held ids..]`; isr is `[]` where none is active, else `[isr, block]`.
use Rattle.std.specs.Prelude.{ℕ, List, [], ◌∷◌, length, Bool, true, false, not, ◌&&◌, ◌==◌, codes, if◌then◌else◌, Option, Some, None, option_map, unwrap_or}
use Rattle.std.specs.List.{list_all}
use Rattle.listed.specs.Steps.Options.{◌>>=◌}
use Rattle.serde_json.specs.Data.{Data}
use Rattle.json_fields.specs.Forms.{is_number, is_text}
use Rattle.json_fields.specs.Lists.{list_in}
use Rattle.json_fields.specs.Objects.{has_exactly, text_at, list_at}

-- ---- states

-- a list whose members pass one test and whose length passes another
abbrev pub is_list_with : (ℕ → Bool) → (Data → Bool) → Data → Bool
is_list_with fits test d = unwrap_or (option_map (λ ds. fits (length ds) && list_all test ds) (list_in d)) false

abbrev pub is_task : Data → Bool
is_task d = is_list_with (λ n. not (n == 1)) is_number d

abbrev pub are_tasks : Data → Bool
are_tasks d = is_list_with (λ n. true) is_task d

abbrev pub are_isr_members : List Data → Bool
are_isr_members [] = true
are_isr_members (isr ∷ []) = false
are_isr_members (isr ∷ block ∷ []) = is_number isr && is_number block
are_isr_members (isr ∷ block ∷ next ∷ rest) = false

abbrev pub is_isr : Data → Bool
is_isr d = unwrap_or (option_map are_isr_members (list_in d)) false

-- the five members of a state
pub record StateParts : Type 0 where
  pub mode : Data
  pub tasks : Data
  pub isr : Data
  pub disable : Data
  pub suspend : Data

abbrev pub five_of : List Data → Option StateParts
five_of (mode ∷ tasks ∷ isr ∷ disable ∷ suspend ∷ []) = Some (record { mode = mode; tasks = tasks; isr = isr; disable = disable; suspend = suspend })
five_of _ = None

abbrev pub state_parts : Data → Option StateParts
state_parts d = list_in d >>= five_of

abbrev pub are_state_parts : StateParts → Bool
are_state_parts parts = is_number parts.mode && are_tasks parts.tasks && is_isr parts.isr && is_number parts.disable && is_number parts.suspend

-- the value has the form of a state
abbrev pub is_state : Data → Bool
is_state d = unwrap_or (option_map are_state_parts (state_parts d)) false

-- a list of values that have the form of a state
abbrev pub state_list : Data → Option (List Data)
state_list d = list_in d >>= λ ds. if list_all is_state ds then Some ds else None

-- ---- certificates

-- the members of a certificate
pub record CertParts : Type 0 where
  pub bound : List ℕ
  pub denominator : List ℕ
  pub multipliers : List Data
  pub states : List Data
  pub task : List ℕ

abbrev pub keys : List (List ℕ)
keys = codes "bound" ∷ codes "denominator" ∷ codes "multipliers" ∷ codes "states" ∷ codes "task" ∷ []

abbrev pub have_form : CertParts → Bool
have_form parts = list_all is_text parts.multipliers && list_all is_state parts.states

abbrev formed : CertParts → Option CertParts
formed parts = if have_form parts then Some parts else None

-- the members, if the value has the form of a certificate
unfoldable pub cert_parts : Data → Option CertParts
cert_parts d = if has_exactly keys d then (do
  bound ← text_at (codes "bound") d
  denominator ← text_at (codes "denominator") d
  multipliers ← list_at (codes "multipliers") d
  states ← list_at (codes "states") d
  task ← text_at (codes "task") d
  formed (record { bound = bound; denominator = denominator; multipliers = multipliers; states = states; task = task })) else None
