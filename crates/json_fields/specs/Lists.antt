-- JSON lists as plain lists.
use Rattle.std.specs.Prelude.{ℕ, List, [], ◌∷◌, length, if◌then◌else◌, ◌==◌, Option, Some, None, nat_le, option_and_then, option_map, ◌≡◌, refl}
use Rattle.serde_json.specs.Data.{Data, null, array, Items, no_items, item}
use Rattle.serde_json.specs.Find.{as_array}

abbrev pub members_of : Items → List Data
members_of no_items = []
members_of (item d ds) = d ∷ members_of ds

-- the members of a value that is a list
abbrev pub list_in : Data → Option (List Data)
list_in d = option_map members_of (as_array d)

-- the same, of a list of at most n
abbrev pub list_up_to : ℕ → Data → Option (List Data)
list_up_to n d = option_and_then (λ ds. if nat_le (length ds) n then Some ds else None) (list_in d)

-- the same, of a list of exactly n
abbrev pub list_of : ℕ → Data → Option (List Data)
list_of n d = option_and_then (λ ds. if length ds == n then Some ds else None) (list_in d)

two_of_two : list_of 2 (array (item null (item null no_items))) ≡ Some (null ∷ null ∷ [])
two_of_two = refl

two_of_three : list_of 3 (array (item null (item null no_items))) ≡ None
two_of_three = refl

two_up_to_three : list_up_to 3 (array (item null (item null no_items))) ≡ Some (null ∷ null ∷ [])
two_up_to_three = refl

two_up_to_one : list_up_to 1 (array (item null (item null no_items))) ≡ None
two_up_to_one = refl

no_list : list_in null ≡ None
no_list = refl
