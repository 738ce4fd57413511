-- The form of a timing file: which JSON type a value has where the format has one, and which keys stand.
use Rattle.std.specs.Prelude.{ℕ, List, [], ◌∷◌, map, if◌then◌else◌, Bool, true, false, ◌&&◌, ◌||◌, codes, option_map, unwrap_or, is_some, is_none}
use Rattle.std.specs.List.{list_all}
use Rattle.serde_json.specs.Data.{Data, Members, no_members, member}
use Rattle.serde_json.specs.Find.{get, as_object}
use Rattle.listed.specs.Steps.Options.{◌>>=◌}
use Rattle.osek_kernel.specs.Services.{services, name_of}
use Rattle.json_fields.specs.Forms.{is_number, is_text, is_object}
use Rattle.json_fields.specs.Lists.{list_in}
use Rattle.json_fields.specs.Numbers.{whole_in}
use Rattle.json_fields.specs.Objects.{has_keys, has_exactly}

-- ---- keys

-- the keys of `classes` beside `default`, in the order of the table of classes
abbrev pub class_keys : List (List ℕ)
class_keys = codes "alu" ∷ codes "mul" ∷ codes "div" ∷ codes "load" ∷ codes "store" ∷ codes "branch" ∷ codes "jump" ∷ codes "fence" ∷ []

-- the names of the services, in the order of their numbers
abbrev pub service_keys : List (List ℕ)
service_keys = map name_of services

-- the keys that `classes` may have beside `default`, of version 2 or of version 1
abbrev pub class_keys_of : Bool → List (List ℕ)
class_keys_of later = if later then codes "branch_taken" ∷ class_keys else class_keys

abbrev pub default_key : List (List ℕ)
default_key = codes "default" ∷ []

-- ---- JSON types

-- a value at the key passes, if there is one
abbrev pub passes_at : (Data → Bool) → Data → List ℕ → Bool
passes_at test d key = unwrap_or (option_map test (get key d)) true

abbrev pub has_number : Data → List ℕ → Bool
has_number d key = passes_at is_number d key

abbrev pub has_text : Data → List ℕ → Bool
has_text d key = passes_at is_text d key

-- numbers at each of the keys that are there
abbrev pub has_numbers : List (List ℕ) → Data → Bool
has_numbers keys d = list_all (has_number d) keys

-- objects with a number at each of the keys that are there
abbrev pub is_class_table : Data → Bool
is_class_table d = is_object d && has_numbers default_key d && has_numbers (class_keys_of true) d

abbrev pub is_service_table : Data → Bool
is_service_table d = is_object d && has_numbers default_key d && has_numbers service_keys d

abbrev pub are_numbers : Members → Bool
are_numbers no_members = true
are_numbers (member key d ms) = is_number d && are_numbers ms

-- an object with numbers alone
abbrev pub is_number_table : Data → Bool
is_number_table d = unwrap_or (option_map are_numbers (as_object d)) false

-- a range of addresses, and a number at the key
abbrev pub is_range : List ℕ → Data → Bool
is_range key d = is_object d && has_text d (codes "from") && has_text d (codes "to") && has_number d key

abbrev pub is_range_list : List ℕ → Data → Bool
is_range_list key d = unwrap_or (option_map (list_all (is_range key)) (list_in d)) false

abbrev pub class_costs_have_form : Data → Bool
class_costs_have_form d = passes_at is_class_table d (codes "classes")

abbrev pub service_costs_have_form : Data → Bool
service_costs_have_form d = passes_at is_service_table d (codes "services")

abbrev pub tables_have_form : Data → Bool
tables_have_form d = class_costs_have_form d && service_costs_have_form d && passes_at is_number_table d (codes "ticks") && passes_at is_number_table d (codes "distances")

abbrev pub lists_have_form : Data → Bool
lists_have_form d = passes_at (is_range_list (codes "bound")) d (codes "loops") && passes_at (is_range_list (codes "cycles")) d (codes "extra")

-- the value has no other JSON type anywhere than the format has there
abbrev pub has_form : Data → Bool
has_form d = is_object d && has_numbers (codes "version" ∷ codes "alarm" ∷ codes "interrupt" ∷ []) d && tables_have_form d && lists_have_form d

-- ---- which keys stand

-- the file is of version 2
abbrev pub is_later : Data → Bool
is_later d = is_some (get (codes "version") d >>= whole_in 2 2)

abbrev pub range_keys : List ℕ → List (List ℕ)
range_keys key = codes "from" ∷ codes "to" ∷ key ∷ []

abbrev pub is_keyed : List ℕ → Data → Bool
is_keyed key d = has_exactly (range_keys key) d

abbrev pub has_range_keys : List ℕ → Data → Bool
has_range_keys key d = unwrap_or (option_map (list_all (is_keyed key)) (list_in d)) false

abbrev pub required_keys : List (List ℕ)
required_keys = codes "version" ∷ codes "classes" ∷ codes "services" ∷ codes "alarm" ∷ codes "interrupt" ∷ []

abbrev pub optional_keys_of : Bool → List (List ℕ)
optional_keys_of true = codes "extra" ∷ codes "ticks" ∷ codes "distances" ∷ codes "loops" ∷ []
optional_keys_of false = codes "ticks" ∷ codes "distances" ∷ codes "loops" ∷ []

abbrev pub has_class_keys : Bool → Data → Bool
has_class_keys later d = has_keys default_key (class_keys_of later) d

-- Schedule is a service of version 2 alone
abbrev pub has_service_keys : Bool → Data → Bool
has_service_keys later d = has_keys default_key service_keys d && (later || is_none (get (codes "Schedule") d))

unfoldable pub has_keys_of : Bool → Data → Bool
has_keys_of later d = has_keys required_keys (optional_keys_of later) d
    && passes_at (has_class_keys later) d (codes "classes")
    && passes_at (has_service_keys later) d (codes "services")

-- each key that the version asks for, and no other than it allows
abbrev pub has_known_keys : Data → Bool
has_known_keys d = has_keys_of (is_later d) d
    && passes_at (has_range_keys (codes "bound")) d (codes "loops")
    && passes_at (has_range_keys (codes "cycles")) d (codes "extra")
