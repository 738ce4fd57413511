-- The names that earlier objects have, as a set of keys.
use Rattle.std.specs.Prelude.{◌≡◌, ℕ, ◌&&◌, Bool, List, [], ◌∷◌, ◌++◌, Option, Some, None, bytes_eq}
use Rattle.std.specs.List.{list_any}
use Rattle.std.specs.declared.cmp.Ordering.{Ordering}
use Rattle.std.specs.Ordering.{nat_cmp, ordering_then}
use Rattle.std.specs.Cmp.Lexicographic.{slice_cmp}
use Rattle.std.specs.BTreeSet.{BTreeSet, contains}
use denote.Ref.{Bor}
use Rattle.oil_grammar.specs.declared.tree.Object.{Object}
use Rattle.oil_model.specs.declared.fault.ModelKind.{ModelKind}
use Rattle.oil_model.specs.declared.judge.Place.{Place}
use Rattle.oil_model.specs.Rules.{name_set, is_taken}

-- a set of names, and a name
abbrev pub Key : Type 0
Key = Bor (List ℕ) × Bor (List ℕ)

abbrev pub key_cmp : Key → Key → Ordering
key_cmp k q = ordering_then (slice_cmp nat_cmp k.0.now q.0.now) (slice_cmp nat_cmp k.1.now q.1.now)

abbrev pub has_key : Key → Object → Bool
has_key k o = bytes_eq k.0.now (name_set o.kind) && bytes_eq k.1.now o.name

-- the keys are those of the objects
pub record Knows (taken : BTreeSet Key) (earlier : List Object) : Type 0 where
  pub same : (k : Key) → contains key_cmp taken k ≡ list_any (has_key k) earlier

-- one more object stands behind the earlier ones: whether its name is taken, and what is known then
pub record Adds (new : BTreeSet Key) (o : Object) (found : Bool) (earlier : List Object) : Type 0 where
  pub found_is : found ≡ is_taken earlier o
  pub knows : Knows new (earlier ++ o ∷ [])

abbrev pub Takes : BTreeSet Key → BTreeSet Key → Object → Bool → Type 0
Takes old new o found = (earlier : List Object) → Knows old earlier → Adds new o found earlier

-- the place and the kind of a fault
abbrev pub shown : Option Place → Option (ℕ × ModelKind)
shown None = None
shown (Some place) = Some (place.object, place.kind)
