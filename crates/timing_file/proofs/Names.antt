-- The numbers by name of an object stand in byte order, each once, since its keys ascend.
use Rattle.std.proofs.Common.{◌≡◌, ℕ, Bool, true, false, not, List, [], ◌∷◌, map, String, Global, string_bytes, string_cmp, nat_cmp, bytes_eq, Less, Equal, Result, Ok, Err, refl, sym, ◌∙◌, ap, subst}
use Rattle.std.proofs.lemmas.Bool.{and_parts, and_from}
use Rattle.std.specs.Prelude.{◌||◌, IfOk, ok_or}
use Rattle.std.specs.Cmp.Lexicographic.{slice_cmp}
use Rattle.std.specs.Ordering.{is_lt}
use Rattle.std.specs.List.{list_any, list_all, AllByRecursion}
use Rattle.std.specs.List.Sorted.{IsStrictlySortedBy}
use Rattle.std.specs.Map.{keys_of}
use Rattle.std.proofs.lemmas.Cmp.{nat_list_cmp_total, tied_itself}
use Rattle.std.proofs.lemmas.Slice.Eq.{bytes_eq-Decides}
use Rattle.serde_json.specs.View.{view, members_view}
use Rattle.serde_json.specs.declared.value.Value.{Value}
use Rattle.json_fields.specs.Numbers.{whole_in}
use Rattle.listed.specs.Lists.{differ}
use Rattle.listed.specs.Steps.{◌>>=◌}
use Rattle.timing_file.specs.declared.fault.TimingKind.{TimingKind}
use Rattle.timing_file.specs.declared.fault.TimingKind.TheVariants.{Range}
use Rattle.timing_file.specs.declared.timing.NamedNumber.{NamedNumber}
use Rattle.timing_file.specs.Timing.{named, numbers_of}
use Rattle.timing_file.specs.Lawful.{names_of, is_before, ascend}

-- ---- names that ascend stand once

apart : (a b : List ℕ) (less : Bool) → is_before a b ≡ less → (same : Bool) → bytes_eq a b ≡ same → less ≡ true → same ≡ false
apart a b less before false is yes' = refl
apart a b less before true is yes' =
    let equal : a ≡ b = (bytes_eq-Decides a b).0 is in
    let tied : slice_cmp nat_cmp a b ≡ Equal = subst (λ (c : List ℕ). slice_cmp nat_cmp a c ≡ Equal) equal (tied_itself nat_list_cmp_total a) in
    let off : is_before a b ≡ false = ap is_lt tied in
    absurd (let clash : true ≡ false = sym yes' ∙ (sym before ∙ off) in cc)

none_same : (name : List ℕ) (names : List (List ℕ)) → list_all (is_before name) names ≡ true → list_any (bytes_eq name) names ≡ false
none_same name [] h = refl
none_same name (other ∷ names) h =
    let parts = and_parts (is_before name other) (list_all (is_before name) names) h in
    ap (λ x. x || list_any (bytes_eq name) names) (apart name other (is_before name other) refl (bytes_eq name other) refl parts.0) ∙ none_same name names parts.1

pub ascending_once : (names : List (List ℕ)) → ascend names ≡ true → differ bytes_eq names ≡ true
ascending_once [] h = refl
ascending_once (name ∷ names) h =
    let parts = and_parts (list_all (is_before name) names) (ascend names) h in
    and_from (not (list_any (bytes_eq name) names)) (differ bytes_eq names) (ap not (none_same name names parts.0)) (ascending_once names parts.1)

-- ---- the names of an object's members

first_names : (e : String Global × Value) (es : List (String Global × Value)) (n : Result ℕ TimingKind) (more : Result (List NamedNumber) TimingKind) → IfOk more (λ ns. names_of ns ≡ map string_bytes (keys_of es))
    → IfOk (n >>= λ number. more >>= λ rest. Ok (named (string_bytes e.0) number ∷ rest)) (λ ns. names_of ns ≡ map string_bytes (keys_of (e ∷ es)))
first_names e es (Ok n) (Ok ns) h = ap (λ names. string_bytes e.0 ∷ names) h
first_names e es (Ok n) (Err kind) h = tt
first_names e es (Err kind) more h = tt

all_names : (greatest : ℕ) (es : List (String Global × Value)) → IfOk (numbers_of greatest (members_view es)) (λ ns. names_of ns ≡ map string_bytes (keys_of es))
all_names greatest [] = refl
all_names greatest (e ∷ es) = first_names e es (ok_or (whole_in 1 greatest (view e.1)) Range) (numbers_of greatest (members_view es)) (all_names greatest es)

names_read : (greatest : ℕ) (es : List (String Global × Value)) (ns : List NamedNumber) → numbers_of greatest (members_view es) ≡ Ok ns → names_of ns ≡ map string_bytes (keys_of es)
names_read greatest es ns is = subst (λ x. IfOk x (λ ms. names_of ms ≡ map string_bytes (keys_of es))) is (all_names greatest es)

above : (k : String Global) (ks : List (String Global)) → AllByRecursion (λ y. string_cmp k y ≡ Less) ks → list_all (is_before (string_bytes k)) (map string_bytes ks) ≡ true
above k [] less = refl
above k (key ∷ ks) less = and_from (is_before (string_bytes k) (string_bytes key)) (list_all (is_before (string_bytes k)) (map string_bytes ks)) (ap is_lt less.0) (above k ks less.1)

keys_ascend : (ks : List (String Global)) → IsStrictlySortedBy string_cmp ks → ascend (map string_bytes ks) ≡ true
unfolding IsStrictlySortedBy
keys_ascend [] sorted = refl
keys_ascend (k ∷ ks) sorted = and_from (list_all (is_before (string_bytes k)) (map string_bytes ks)) (ascend (map string_bytes ks)) (above k ks sorted.0) (keys_ascend ks sorted.1)

pub names_ascend : (greatest : ℕ) (es : List (String Global × Value)) (ns : List NamedNumber) → IsStrictlySortedBy string_cmp (keys_of es) → numbers_of greatest (members_view es) ≡ Ok ns → ascend (names_of ns) ≡ true
names_ascend greatest es ns sorted is = ap ascend (names_read greatest es ns is) ∙ keys_ascend (keys_of es) sorted
