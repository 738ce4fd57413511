-- Where attributes stand. The attributes of an object are one list: those of level 1 are its own, and the
-- block of one of them is the attributes directly after it of greater levels.
use Rattle.std.specs.Prelude.{ℕ, ◌==◌, ◌&&◌, nat_le, Bool, false, List, [], ◌∷◌, Option, Some, None, option_map, find, filter, map, bytes_eq, if◌then◌else◌}
use Rattle.std.specs.List.{before_first}
use Rattle.oil_grammar.specs.declared.tree.Attribute.{Attribute}
use Rattle.oil_grammar.specs.declared.tree.Value.{Value}
use Rattle.oil_grammar.specs.declared.tree.Value.TheVariants as value

abbrev pub is_at : ℕ → List ℕ → Attribute → Bool
is_at level name a = (a.level == level) && bytes_eq a.name name

-- the values of the attribute, in order
abbrev pub values_of : ℕ → List ℕ → List Attribute → List Value
values_of level name attributes = map (λ a. a.value) (filter (is_at level name) attributes)

-- its value where it stands first
abbrev pub first_value : ℕ → List ℕ → List Attribute → Option Value
first_value level name attributes = option_map (λ a. a.value) (find (is_at level name) attributes)

abbrev pub is_own : Attribute → Bool
is_own a = nat_le a.level 1

-- the block of the object's own attribute of this name, where it stands first; its own attributes have level 2
unfoldable pub block : List ℕ → List Attribute → List Attribute
block name [] = []
block name (a ∷ attributes) = if is_at 1 name a then before_first is_own attributes else block name attributes

abbrev pub word_of : Value → Option (List ℕ)
word_of (value.Name name) = Some name
word_of _ = None

abbrev pub is_word_of : List ℕ → Option (List ℕ) → Bool
is_word_of word None = false
is_word_of word (Some name) = bytes_eq name word

-- whether the value is this word
abbrev pub is_value : List ℕ → Option Value → Bool
is_value word None = false
is_value word (Some v) = is_word_of word (word_of v)

abbrev pub is_true : Option Value → Bool
is_true (Some (value.Bool b)) = b
is_true _ = false
