-- A key that is added is that of one more object.
use Rattle.std.proofs.Common.{◌≡◌, ℕ, Bool, true, false, cond, List, [], ◌∷◌, refl, sym, ap, ◌∙◌}
use Rattle.std.specs.Prelude.{◌&&◌, ◌||◌, not, bytes_eq}
use Rattle.std.specs.List.{list_any}
use Rattle.std.specs.declared.cmp.Ordering.{Ordering}
use Rattle.std.specs.declared.cmp.Ordering.TheVariants.{Less, Equal, Greater}
use Rattle.std.specs.Ordering.{nat_cmp, ordering_then, is_eq}
use Rattle.std.specs.Cmp.Lexicographic.{slice_cmp}
use Rattle.std.specs.BTreeSet.{BTreeSet, contains}
use Rattle.std.specs.BTreeMap.{is_at}
use Rattle.std.proofs.lemmas.Bool.{false_from_ne_true, both_ways}
use Rattle.std.proofs.lemmas.List.Folds.{list_any-append}
use Rattle.std.proofs.lemmas.Map.Text.{is_eq-slice_cmp}
use Rattle.std.proofs.lemmas.Slice.Eq.{bytes_eq-Decides}
use Rattle.oil_grammar.specs.declared.tree.Object.{Object}
use Rattle.oil_model.specs.Rules.{name_set}
use Rattle.oil_model.specs.Working.Taken.{Key, key_cmp, has_key, Takes}

flip_at : (xs ys : List ℕ) (test : Bool) → bytes_eq xs ys ≡ test → bytes_eq ys xs ≡ test
flip_at xs ys true is = (bytes_eq-Decides ys xs).1 (sym ((bytes_eq-Decides xs ys).0 is))
flip_at xs ys false is = false_from_ne_true (bytes_eq ys xs) (λ yes. both_ways (bytes_eq xs ys) is ((bytes_eq-Decides xs ys).1 (sym ((bytes_eq-Decides ys xs).0 yes))))

pub bytes_eq-flip : (xs ys : List ℕ) → bytes_eq ys xs ≡ bytes_eq xs ys
bytes_eq-flip xs ys = flip_at xs ys (bytes_eq xs ys) refl

both_equal : (a b : Ordering) → is_eq (ordering_then a b) ≡ (is_eq a && is_eq b)
both_equal Less b = refl
both_equal Equal b = refl
both_equal Greater b = refl

same_key : (k q : Key) → is_at (key_cmp k) q ≡ (bytes_eq q.0.now k.0.now && bytes_eq q.1.now k.1.now)
same_key k q =
    both_equal (slice_cmp nat_cmp k.0.now q.0.now) (slice_cmp nat_cmp k.1.now q.1.now)
    ∙ rw (is_eq-slice_cmp k.0.now q.0.now, is_eq-slice_cmp k.1.now q.1.now, bytes_eq-flip q.0.now k.0.now, bytes_eq-flip q.1.now k.1.now) refl

last_test : (has rest : Bool) → cond has true rest ≡ (rest || (has || false))
last_test true true = refl
last_test true false = refl
last_test false true = refl
last_test false false = refl

twice_not : (a b : Bool) → a ≡ not b → not a ≡ b
twice_not a true is = ap not is
twice_not a false is = ap not is

-- a key that is added is that of one more object
pub taken_once_more : (old new : BTreeSet Key) (k : Key) (o : Object) (added : Bool) → k.0.now ≡ name_set o.kind → k.1.now ≡ o.name
    → added ≡ not (contains key_cmp old k) → ((q : Key) → contains key_cmp new q ≡ cond (is_at (key_cmp k) q) true (contains key_cmp old q))
    → Takes old new o (not added)
taken_once_more old new k o added kind name is updates = λ earlier knows. record {
  found_is = twice_not added (contains key_cmp old k) is ∙ (knows.same k ∙ rw (kind, name) refl);
  knows = record {
    same = λ q. updates q ∙ (rw (same_key k q, kind, name, knows.same q) (last_test (has_key q o) (list_any (has_key q) earlier)) ∙ sym (list_any-append (has_key q) earlier (o ∷ [])));
  };
}
