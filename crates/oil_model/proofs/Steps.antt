-- An object without a fault keeps names and priorities apart.
use Rattle.std.proofs.Common.{◌≡◌, ℕ, Bool, true, false, cond, List, [], ◌∷◌, ◌++◌, map, refl, sym, ap, subst, ◌∙◌, append_assoc, append-nil}
use Rattle.std.specs.Prelude.{◌||◌, ◌&&◌, ◌==◌, codes, bytes_eq, filter}
use Rattle.std.specs.List.{list_any}
use Rattle.std.proofs.lemmas.Bool.{or_from}
use Rattle.std.proofs.lemmas.List.{map-append}
use Rattle.std.proofs.lemmas.List.Elements.{filter-append}
use Rattle.std.proofs.lemmas.List.Folds.{list_any-append}
use Rattle.oil_grammar.specs.declared.tree.Object.{Object}
use Rattle.listed.specs.Lists.{differ}
use Rattle.oil_model.specs.References.{is_kind, of_kind, priority_of}
use Rattle.oil_model.specs.Rules.{name_set, clashes, shares_priority}
use Rattle.oil_model.proofs.Apart.{differ-insert, differ-push, same_names, all_other_way, names_of, unnamed}

-- ---- one object more

of_kind_more : (kind : List ℕ) (earlier : List Object) (o : Object) (test : Bool) → is_kind kind o ≡ test → of_kind kind (earlier ++ o ∷ []) ≡ of_kind kind earlier ++ cond test (o ∷ []) []
of_kind_more kind earlier o test is = filter-append (is_kind kind) earlier (o ∷ []) ∙ ap (λ t. of_kind kind earlier ++ cond t (o ∷ []) []) is

names_with : (kind : List ℕ) (earlier : List Object) (o : Object) → is_kind kind o ≡ true → names_of kind (earlier ++ o ∷ []) ≡ names_of kind earlier ++ o.name ∷ []
names_with kind earlier o is = rw (of_kind_more kind earlier o true is) (map-append (λ o. o.name) (of_kind kind earlier) (o ∷ []))

names_without : (kind : List ℕ) (earlier : List Object) (o : Object) → is_kind kind o ≡ false → names_of kind (earlier ++ o ∷ []) ≡ names_of kind earlier
names_without kind earlier o is = rw (of_kind_more kind earlier o false is) (ap (map (λ o. o.name)) (append-nil (of_kind kind earlier)))

-- an object has one kind
pub one_kind : (kind other : List ℕ) (o : Object) → bytes_eq kind other ≡ false → is_kind kind o ≡ true → is_kind other o ≡ false
one_kind kind other o differs is = subst (λ (k : List ℕ). bytes_eq k other ≡ false) (sym (same_names o.kind kind is)) differs

-- ---- names of one kind

names_step_at : (kind : List ℕ) (earlier : List Object) (o : Object) → differ bytes_eq (names_of kind earlier) ≡ true → list_any (clashes o) earlier ≡ false → (test : Bool) → is_kind kind o ≡ test → differ bytes_eq (names_of kind (earlier ++ o ∷ [])) ≡ true
names_step_at kind earlier o apart free true is =
    rw (names_with kind earlier o is) (differ-push bytes_eq o.name (names_of kind earlier) apart (unnamed kind o (ap name_set (same_names o.kind kind is)) earlier free))
names_step_at kind earlier o apart free false is = rw (names_without kind earlier o is) apart

pub names_step : (kind : List ℕ) (earlier : List Object) (o : Object) → differ bytes_eq (names_of kind earlier) ≡ true → list_any (clashes o) earlier ≡ false → differ bytes_eq (names_of kind (earlier ++ o ∷ [])) ≡ true
names_step kind earlier o apart free = names_step_at kind earlier o apart free (is_kind kind o) refl

-- ---- names of tasks, ISRs and alarms

abbrev pub code_names_of : List Object → List (List ℕ)
code_names_of objects = names_of (codes "TASK") objects ++ (names_of (codes "ISR") objects ++ names_of (codes "ALARM") objects)

in_code : (kind : List ℕ) (o : Object) → name_set kind ≡ codes "TASK" → is_kind kind o ≡ true → name_set o.kind ≡ codes "TASK"
in_code kind o code is = ap name_set (same_names o.kind kind is) ∙ code

-- the name is free among each of the three
record IsFree (o : Object) (earlier : List Object) : Type 0 where
  tasks : list_any (λ n. bytes_eq n o.name) (names_of (codes "TASK") earlier) ≡ false
  isrs : list_any (λ n. bytes_eq n o.name) (names_of (codes "ISR") earlier) ≡ false
  alarms : list_any (λ n. bytes_eq n o.name) (names_of (codes "ALARM") earlier) ≡ false

is_free : (o : Object) (earlier : List Object) → name_set o.kind ≡ codes "TASK" → list_any (clashes o) earlier ≡ false → IsFree o earlier
is_free o earlier code free = record {
  tasks = unnamed (codes "TASK") o code earlier free;
  isrs = unnamed (codes "ISR") o code earlier free;
  alarms = unnamed (codes "ALARM") o code earlier free;
}

none_in_both : (n : List ℕ) (xs ys : List (List ℕ)) → list_any (λ m. bytes_eq m n) xs ≡ false → list_any (λ m. bytes_eq m n) ys ≡ false → list_any (λ m. bytes_eq m n) (xs ++ ys) ≡ false
none_in_both n xs ys left right = list_any-append (λ m. bytes_eq m n) xs ys ∙ or_from (list_any (λ m. bytes_eq m n) xs) (list_any (λ m. bytes_eq m n) ys) left right

-- a free name in each place
first_place : (n : List ℕ) (t i a : List (List ℕ)) → differ bytes_eq (t ++ (i ++ a)) ≡ true → list_any (λ m. bytes_eq m n) t ≡ false → list_any (λ m. bytes_eq m n) i ≡ false → list_any (λ m. bytes_eq m n) a ≡ false → differ bytes_eq ((t ++ n ∷ []) ++ (i ++ a)) ≡ true
first_place n t i a apart in_t in_i in_a = rw (append_assoc t (n ∷ []) (i ++ a)) (differ-insert bytes_eq n t (i ++ a) apart in_t (all_other_way n (i ++ a) (none_in_both n i a in_i in_a)))

second_place : (n : List ℕ) (t i a : List (List ℕ)) → differ bytes_eq (t ++ (i ++ a)) ≡ true → list_any (λ m. bytes_eq m n) t ≡ false → list_any (λ m. bytes_eq m n) i ≡ false → list_any (λ m. bytes_eq m n) a ≡ false → differ bytes_eq (t ++ ((i ++ n ∷ []) ++ a)) ≡ true
second_place n t i a apart in_t in_i in_a =
    let before : differ bytes_eq ((t ++ i) ++ a) ≡ true = rw (append_assoc t i a) apart in
    let put = differ-insert bytes_eq n (t ++ i) a before (none_in_both n t i in_t in_i) (all_other_way n a in_a) in
    rw (append_assoc i (n ∷ []) a) (rw (append_assoc t i (n ∷ a)) at put)

third_place : (n : List ℕ) (t i a : List (List ℕ)) → differ bytes_eq (t ++ (i ++ a)) ≡ true → list_any (λ m. bytes_eq m n) t ≡ false → list_any (λ m. bytes_eq m n) i ≡ false → list_any (λ m. bytes_eq m n) a ≡ false → differ bytes_eq (t ++ (i ++ (a ++ n ∷ []))) ≡ true
third_place n t i a apart in_t in_i in_a =
    let put = differ-push bytes_eq n (t ++ (i ++ a)) apart (none_in_both n t (i ++ a) in_t (none_in_both n i a in_i in_a)) in
    rw (← append_assoc i a (n ∷ []), ← append_assoc t (i ++ a) (n ∷ [])) put

code_step_at : (earlier : List Object) (o : Object) → differ bytes_eq (code_names_of earlier) ≡ true → list_any (clashes o) earlier ≡ false → (task isr alarm : Bool) → is_kind (codes "TASK") o ≡ task → is_kind (codes "ISR") o ≡ isr → is_kind (codes "ALARM") o ≡ alarm → differ bytes_eq (code_names_of (earlier ++ o ∷ [])) ≡ true
code_step_at earlier o apart free true isr alarm is_task is_isr is_alarm =
    let names = is_free o earlier (in_code (codes "TASK") o refl is_task) free in
    rw (names_with (codes "TASK") earlier o is_task, names_without (codes "ISR") earlier o (one_kind (codes "TASK") (codes "ISR") o refl is_task), names_without (codes "ALARM") earlier o (one_kind (codes "TASK") (codes "ALARM") o refl is_task))
    (first_place o.name (names_of (codes "TASK") earlier) (names_of (codes "ISR") earlier) (names_of (codes "ALARM") earlier) apart names.tasks names.isrs names.alarms)
code_step_at earlier o apart free false true alarm is_task is_isr is_alarm =
    let names = is_free o earlier (in_code (codes "ISR") o refl is_isr) free in
    rw (names_without (codes "TASK") earlier o is_task, names_with (codes "ISR") earlier o is_isr, names_without (codes "ALARM") earlier o (one_kind (codes "ISR") (codes "ALARM") o refl is_isr))
    (second_place o.name (names_of (codes "TASK") earlier) (names_of (codes "ISR") earlier) (names_of (codes "ALARM") earlier) apart names.tasks names.isrs names.alarms)
code_step_at earlier o apart free false false true is_task is_isr is_alarm =
    let names = is_free o earlier (in_code (codes "ALARM") o refl is_alarm) free in
    rw (names_without (codes "TASK") earlier o is_task, names_without (codes "ISR") earlier o is_isr, names_with (codes "ALARM") earlier o is_alarm)
    (third_place o.name (names_of (codes "TASK") earlier) (names_of (codes "ISR") earlier) (names_of (codes "ALARM") earlier) apart names.tasks names.isrs names.alarms)
code_step_at earlier o apart free false false false is_task is_isr is_alarm =
    rw (names_without (codes "TASK") earlier o is_task, names_without (codes "ISR") earlier o is_isr, names_without (codes "ALARM") earlier o is_alarm) apart

pub code_step : (earlier : List Object) (o : Object) → differ bytes_eq (code_names_of earlier) ≡ true → list_any (clashes o) earlier ≡ false → differ bytes_eq (code_names_of (earlier ++ o ∷ [])) ≡ true
code_step earlier o apart free = code_step_at earlier o apart free (is_kind (codes "TASK") o) (is_kind (codes "ISR") o) (is_kind (codes "ALARM") o) refl refl refl

-- ---- priorities

abbrev pub same_priority : Object → Object → Bool
same_priority a b = priority_of a == priority_of b

one_of : {A : Type 0} (passes wanted : Bool) (q : A → Bool) (found : List A) (others : Bool) → others ≡ list_any q found → ((passes && wanted) || others) ≡ cond passes (wanted || list_any q found) (list_any q found)
one_of true wanted q found others is = ap (λ b. wanted || b) is
one_of false wanted q found others is = is

of_cond : {A : Type 0} (passes : Bool) (q : A → Bool) (x : A) (found : List A) → list_any q (cond passes (x ∷ found) found) ≡ cond passes (q x || list_any q found) (list_any q found)
of_cond true q x found = refl
of_cond false q x found = refl

list_any-filter : {A : Type 0} (p q : A → Bool) (xs : List A) → list_any (λ x. p x && q x) xs ≡ list_any q (filter p xs)
list_any-filter p q [] = refl
list_any-filter p q (x ∷ xs) = one_of (p x) (q x) q (filter p xs) (list_any (λ x. p x && q x) xs) (list_any-filter p q xs) ∙ sym (of_cond (p x) q x (filter p xs))

among_tasks : (o : Object) (earlier : List Object) → list_any (shares_priority o) earlier ≡ list_any (λ e. same_priority e o) (of_kind (codes "TASK") earlier)
among_tasks o earlier = list_any-filter (is_kind (codes "TASK")) (λ e. same_priority e o) earlier

priorities_at : (earlier : List Object) (o : Object) → differ same_priority (of_kind (codes "TASK") earlier) ≡ true → (test : Bool) → is_kind (codes "TASK") o ≡ test → (test && list_any (shares_priority o) earlier) ≡ false → differ same_priority (of_kind (codes "TASK") (earlier ++ o ∷ [])) ≡ true
priorities_at earlier o apart true is free =
    rw (of_kind_more (codes "TASK") earlier o true is) (differ-push same_priority o (of_kind (codes "TASK") earlier) apart (sym (among_tasks o earlier) ∙ free))
priorities_at earlier o apart false is free = rw (of_kind_more (codes "TASK") earlier o false is, append-nil (of_kind (codes "TASK") earlier)) apart

pub priorities_step : (earlier : List Object) (o : Object) → differ same_priority (of_kind (codes "TASK") earlier) ≡ true → (is_kind (codes "TASK") o && list_any (shares_priority o) earlier) ≡ false → differ same_priority (of_kind (codes "TASK") (earlier ++ o ∷ [])) ≡ true
priorities_step earlier o apart free = priorities_at earlier o apart (is_kind (codes "TASK") o) refl free
