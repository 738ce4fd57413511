-- The keys of a JSON object, and what stands at them.
use Rattle.std.specs.Prelude.{ℕ, List, ◌&&◌, ◌||◌, Bool, true, false, Option, Some, None, is_some, map, option_and_then, option_map, unwrap_or, bytes_eq, [], ◌∷◌, codes, ◌≡◌, refl}
use denote.Ref.{Bor}
use Rattle.std.specs.List.{list_all, list_any}
use Rattle.serde_json.specs.Data.{Data, null, string, object, Members, no_members, member}
use Rattle.serde_json.specs.Find.{get, as_object, as_str}
use Rattle.json_fields.specs.Lists.{list_in}

-- the texts that a slice of `&str` holds
abbrev pub texts : List (Bor (List ℕ)) → List (List ℕ)
texts keys = map (λ key. key.now) keys

abbrev pub is_among : List (List ℕ) → List ℕ → Bool
is_among keys key = list_any (λ known. bytes_eq known key) keys

-- each of the keys is there
abbrev pub has_each : List (List ℕ) → Data → Bool
has_each keys d = list_all (λ key. is_some (get key d)) keys

-- each key that is there passes the test
abbrev pub keys_pass : (List ℕ → Bool) → Members → Bool
keys_pass test no_members = true
keys_pass test (member key d ms) = test key && keys_pass test ms

-- the value is an object, and each key that is there passes the test
abbrev pub has_only : (List ℕ → Bool) → Data → Bool
has_only test d = unwrap_or (option_map (keys_pass test) (as_object d)) false

-- the value is an object with each required key, and no other but the optional ones
abbrev pub has_keys : List (List ℕ) → List (List ℕ) → Data → Bool
has_keys required optional d = has_each required d && has_only (λ key. is_among required key || is_among optional key) d

-- the value is an object with exactly these keys
abbrev pub has_exactly : List (List ℕ) → Data → Bool
has_exactly keys d = has_keys keys [] d

-- the text, and the list, at a key
abbrev pub text_at : List ℕ → Data → Option (List ℕ)
text_at key d = option_and_then as_str (get key d)

abbrev pub list_at : List ℕ → Data → Option (List Data)
list_at key d = option_and_then list_in (get key d)

-- a sixth key, a missing key and a list are refused
from_and_to : List (List ℕ)
from_and_to = codes "from" ∷ codes "to" ∷ []

both_keys : has_exactly from_and_to (object (member (codes "from") null (member (codes "to") null no_members))) ≡ true
unfolding from_and_to
both_keys = refl

one_more : has_exactly from_and_to (object (member (codes "at") null (member (codes "from") null (member (codes "to") null no_members)))) ≡ false
unfolding from_and_to
one_more = refl

one_less : has_exactly from_and_to (object (member (codes "from") null no_members)) ≡ false
unfolding from_and_to
one_less = refl

one_optional : has_keys from_and_to (codes "at" ∷ []) (object (member (codes "at") null (member (codes "from") null (member (codes "to") null no_members)))) ≡ true
unfolding from_and_to
one_optional = refl

text_at_from : text_at (codes "from") (object (member (codes "from") (string (codes "a")) no_members)) ≡ Some (codes "a")
text_at_from = refl

no_text_at_to : text_at (codes "to") (object (member (codes "from") (string (codes "a")) no_members)) ≡ None
no_text_at_to = refl
