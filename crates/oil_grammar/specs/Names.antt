-- The names of objects.
use Rattle.std.specs.Prelude.{◌≡◌, ℕ, ◌&&◌, Bool, true, false, List, [], ◌∷◌}
use Rattle.std.specs.List.{list_all, AllByRecursion}
use Rattle.oil_grammar.specs.Bytes.{is_letter, is_name_byte}
use Rattle.oil_grammar.specs.declared.tree.Object.{Object}
use Rattle.oil_grammar.specs.declared.tree.Tree.{Tree}

-- a letter or `_`, then letters, digits and `_`
abbrev pub is_name : List ℕ → Bool
is_name [] = false
is_name (b ∷ rest) = is_letter b && list_all is_name_byte rest

-- the object's kind and its name have the form of a name
abbrev pub IsNamed : Object → Type 0
IsNamed o = (is_name o.kind ≡ true) × (is_name o.name ≡ true)

abbrev pub HasNames : Tree → Type 0
HasNames tree = AllByRecursion IsNamed tree.objects
