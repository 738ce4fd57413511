-- Each id that is found is that of an object.
use Rattle.std.proofs.Common.{◌≡◌, ℕ, ◌+◌, ◌<◌, Bool, true, false, cond, List, [], ◌∷◌, ◌++◌, length, Option, Some, None, refl, subst, arith}
use Rattle.std.specs.Prelude.{nat_lt, codes, bytes_eq, fold, filter_map, count_by, nat_eq}
use Rattle.std.specs.List.{AllByRecursion, list_any, position_or_len}
use Rattle.std.proofs.lemmas.Bool.{ltb-true}
use Rattle.std.proofs.lemmas.List.Sums.{length-filter}
use Rattle.oil_grammar.specs.declared.tree.Attribute.{Attribute}
use Rattle.oil_grammar.specs.declared.tree.Object.{Object}
use Rattle.oil_grammar.specs.declared.tree.Value.{Value}
use Rattle.oil_grammar.specs.declared.tree.Value.TheVariants as value
use Rattle.oil_model.specs.System.{scheduler, AreBelow}
use Rattle.oil_model.specs.Attributes.{is_at}
use Rattle.oil_model.specs.declared.reference.Target.{Target}
use Rattle.oil_model.specs.declared.reference.Target.TheVariants.{Shared}
use Rattle.oil_model.specs.References.{is_kind, is_named, of_kind, id_of, resource_id, names_internal, target_id, value_id, id_at, ids_of, add_once}

-- ---- lists that are made one id at a time

pub all-append : {A : Type 0} (P : A → Type 0) (xs ys : List A) → AllByRecursion P xs → AllByRecursion P ys → AllByRecursion P (xs ++ ys)
all-append P [] ys left right = right
all-append P (x ∷ xs) ys left right = (left.0, all-append P xs ys left.1 right)

all-cond : {A : Type 0} (P : A → Type 0) (test : Bool) (xs ys : List A) → AllByRecursion P xs → AllByRecursion P ys → AllByRecursion P (cond test xs ys)
all-cond P true xs ys left right = left
all-cond P false xs ys left right = right

all-once : (P : ℕ → Type 0) (ids more : List ℕ) → AllByRecursion P ids → AllByRecursion P more → AllByRecursion P (fold add_once ids more)
all-once P ids [] done left = done
all-once P ids (id ∷ more) done left =
    all-once P (add_once ids id) more (all-cond P (list_any (nat_eq id) ids) ids (ids ++ id ∷ []) done (all-append P ids (id ∷ []) done (left.0, tt))) left.1

one_more : {A : Type 0} (P : ℕ → Type 0) (h : A → Option ℕ) (x : A) (xs : List A) → ((id : ℕ) → h x ≡ Some id → P id) → AllByRecursion P (filter_map h xs) → (found : Option ℕ) → h x ≡ found → AllByRecursion P (filter_map h (x ∷ xs))
one_more P h x xs each rest None is = rw is rest
one_more P h x xs each rest (Some id) is = rw is (each id is, rest)

all-filter_map : {A : Type 0} (P : ℕ → Type 0) (h : A → Option ℕ) → ((x : A) (id : ℕ) → h x ≡ Some id → P id) → (xs : List A) → AllByRecursion P (filter_map h xs)
all-filter_map P h each [] = tt
all-filter_map P h each (x ∷ xs) = one_more P h x xs (each x) (all-filter_map P h each xs) (h x) refl

-- ---- ids

within : (place n id : ℕ) → cond (nat_lt place n) (Some place) None ≡ Some id → id < n
within place n id is = at (nat_lt place n) refl
  where
    at : (test : Bool) → nat_lt place n ≡ test → id < n
    at true small = let same : place ≡ id = (let here = rw small at is in cc) in subst (λ i. i < n) same (ltb-true place n small)
    at false small = absurd (let here = rw small at is in cc)

pub id_of-below : (kind : List ℕ) (objects : List Object) (name : List ℕ) (id : ℕ) → id_of kind objects name ≡ Some id → id < length (of_kind kind objects)
id_of-below kind objects name id is = within (position_or_len (is_named name) (of_kind kind objects)) (length (of_kind kind objects)) id is

none_is_some : {P : Type 0} (id : ℕ) → None ≡ Some id → P
none_is_some id is = absurd cc

resource_id-below : (objects : List Object) (name : List ℕ) (id : ℕ) → resource_id objects name ≡ Some id → id < length (of_kind (codes "RESOURCE") objects) + 1
resource_id-below objects name id is = at (bytes_eq name scheduler) refl
  where
    at : (test : Bool) → bytes_eq name scheduler ≡ test → id < length (of_kind (codes "RESOURCE") objects) + 1
    at true named =
        let here : Some (count_by (is_kind (codes "RESOURCE")) objects) ≡ Some id = rw named at is in
        let same : count_by (is_kind (codes "RESOURCE")) objects ≡ id = cc in
        let count = length-filter (is_kind (codes "RESOURCE")) objects in
        omega (arith, same, count)
    at false named =
        let here : id_of (codes "RESOURCE") objects name ≡ Some id = rw named at is in
        omega (arith, id_of-below (codes "RESOURCE") objects name id here)

pub shared-below : (objects : List Object) (name : List ℕ) (id : ℕ) → target_id objects Shared name ≡ Some id → id < length (of_kind (codes "RESOURCE") objects) + 1
shared-below objects name id is = at (names_internal objects name) refl
  where
    at : (test : Bool) → names_internal objects name ≡ test → id < length (of_kind (codes "RESOURCE") objects) + 1
    at true internal = none_is_some id (rw internal at is)
    at false internal = resource_id-below objects name id (rw internal at is)

-- what is below n where each id that a name stands for is
module _ (objects : List Object) (target : Target) (n : ℕ) (below : (name : List ℕ) (id : ℕ) → target_id objects target name ≡ Some id → id < n) where
  value_id-below : (v : Value) (id : ℕ) → value_id objects target v ≡ Some id → id < n
  value_id-below (value.Name name) id is = below name id is
  value_id-below (value.Number negative size) id is = none_is_some id is
  value_id-below (value.Text text) id is = none_is_some id is
  value_id-below (value.Bool b) id is = none_is_some id is
  value_id-below value.Auto id is = none_is_some id is

  if_at : (test : Bool) (v : Value) (id : ℕ) → cond test (value_id objects target v) None ≡ Some id → id < n
  if_at true v id is = value_id-below v id is
  if_at false v id is = none_is_some id is

  pub ids_of-below : (level : ℕ) (name : List ℕ) (attributes : List Attribute) → AreBelow n (ids_of objects target level name attributes)
  ids_of-below level name attributes =
      all-once (λ id. id < n) [] (filter_map (id_at objects target level name) attributes) tt
      (all-filter_map (λ id. id < n) (id_at objects target level name) (λ a id is. if_at (is_at level name a) a.value id is) attributes)
