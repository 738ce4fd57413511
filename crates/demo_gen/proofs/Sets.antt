-- The listed states: each fits the system, and none stands twice.
use Rattle.std.proofs.Common.{◌≡◌, ◌≢◌, ℕ, zero, suc, ◌+◌, ◌<◌, ◌≤◌, ◌==◌, Bool, true, false, cond, List, [], ◌∷◌, ◌++◌, length, map, Some, refl, sym, ap, ◌∙◌, arith}
use Rattle.std.specs.Prelude.{filter, flat_map, slice_get}
use Rattle.std.specs.List.{range_with_len, AllByRecursion, list_any}
use Rattle.std.proofs.lemmas.Bool.{false≢true, eqb-true}
use Rattle.std.proofs.lemmas.List.{length-replicate}
use Rattle.listed.specs.Lists.{differ, AllFrom}
use Rattle.osek_kernel.specs.declared.context.Context.TheVariants as contexts
use Rattle.abstract_sched.specs.declared.states.AbsState.{AbsState}
use Rattle.abstract_sched.specs.Fits.{FitsTask, FitsRules, AreLawful}
use Rattle.abstract_sched.specs.States.{same_state}
use Rattle.abstract_sched.proofs.Sameness.{state_Decides}
use Rattle.demo_gen.specs.Demo.{sets, size, sets_in_order, task_at, tasks_at, state_of, the_states}
use Rattle.demo_gen.specs.Reading.{the_rules}

-- ---- A fact of each member of a list

pub each_append : {A : Type 0} (P : A → Type 0) (xs ys : List A) → AllByRecursion P xs → AllByRecursion P ys → AllByRecursion P (xs ++ ys)
each_append P [] ys first then = then
each_append P (x ∷ xs) ys first then = (first.0, each_append P xs ys first.1 then)

pub each_map : {A B : Type 0} (P : B → Type 0) (f : A → B) (xs : List A) → AllByRecursion (λ x. P (f x)) xs → AllByRecursion P (map f xs)
each_map P f [] each = tt
each_map P f (x ∷ xs) each = (each.0, each_map P f xs each.1)

pub each_weaker : {A : Type 0} (P Q : A → Type 0) → ((x : A) → P x → Q x) → (xs : List A) → AllByRecursion P xs → AllByRecursion Q xs
each_weaker P Q weaker [] each = tt
each_weaker P Q weaker (x ∷ xs) each = (weaker x each.0, each_weaker P Q weaker xs each.1)

kept : {A : Type 0} (P : A → Type 0) (x : A) (rest : List A) (b : Bool) → (b ≡ true → P x) → AllByRecursion P rest → AllByRecursion P (cond b (x ∷ rest) rest)
kept P x rest true holds each = (holds refl, each)
kept P x rest false holds each = each

-- of those that are kept by a test
each_filter : {A : Type 0} (P : A → Type 0) (p : A → Bool) (xs : List A) → AllByRecursion (λ x. p x ≡ true → P x) xs → AllByRecursion P (filter p xs)
each_filter P p [] each = tt
each_filter P p (x ∷ xs) each = kept P x (filter p xs) (p x) each.0 (each_filter P p xs each.1)

each_flat_map : {A : Type 0} (P : A → Type 0) (f : ℕ → List A) → ((n : ℕ) → AllByRecursion P (f n)) → (from count : ℕ) → AllByRecursion P (flat_map f (range_with_len from count))
each_flat_map P f each from zero = tt
each_flat_map P f each from (suc count) = each_append P (f from) (flat_map f (range_with_len (from + 1) count)) (each from) (each_flat_map P f each (from + 1) count)

-- ---- Lists whose members are all different

abbrev Apart : List (List Bool) → Type 0
Apart [] = Unit {0}
Apart (x ∷ xs) = AllByRecursion (λ y. x ≢ y) xs × Apart xs

apart_append : (xs ys : List (List Bool)) → Apart xs → Apart ys → AllByRecursion (λ x. AllByRecursion (λ y. x ≢ y) ys) xs → Apart (xs ++ ys)
apart_append [] ys first then across = then
apart_append (x ∷ xs) ys first then across = (each_append (λ y. x ≢ y) xs ys first.0 across.0, apart_append xs ys first.1 then across.1)

apart_cons : (b : Bool) (xs : List (List Bool)) → Apart xs → Apart (map (λ set. b ∷ set) xs)
apart_cons b [] apart = tt
apart_cons b (x ∷ xs) apart = (
  each_map (λ y. (b ∷ x) ≢ y) (λ set. b ∷ set) xs (each_weaker (λ y. x ≢ y) (λ y. (b ∷ x) ≢ (b ∷ y)) (λ y differ same. differ (cc)) xs apart.0),
  apart_cons b xs apart.1,
)

apart_kept : (x : List Bool) (rest : List (List Bool)) (b : Bool) → AllByRecursion (λ y. x ≢ y) rest → Apart rest → Apart (cond b (x ∷ rest) rest)
apart_kept x rest true first then = (first, then)
apart_kept x rest false first then = then

apart_filter : (p : List Bool → Bool) (xs : List (List Bool)) → Apart xs → Apart (filter p xs)
apart_filter p [] apart = tt
apart_filter p (x ∷ xs) apart =
    apart_kept x (filter p xs) (p x) (each_filter (λ y. x ≢ y) p xs (each_weaker (λ y. x ≢ y) (λ y. p y ≡ true → x ≢ y) (λ y differ passes. differ) xs apart.0)) (apart_filter p xs apart.1)

-- ---- The sets

sets_have_length : (count : ℕ) → AllByRecursion (λ set. length set ≡ count) (sets count)
sets_have_length zero = (refl, tt)
sets_have_length (suc count) =
    let more : (b : Bool) → AllByRecursion (λ set. length set ≡ suc count) (map (λ set. b ∷ set) (sets count)) =
    λ b. each_map (λ set. length set ≡ suc count) (λ set. b ∷ set) (sets count)
    (each_weaker (λ set. length set ≡ count) (λ set. length (b ∷ set) ≡ suc count) (λ set is. ap suc is) (sets count) (sets_have_length count)) in
    each_append (λ set. length set ≡ suc count) (map (λ set. true ∷ set) (sets count)) (map (λ set. false ∷ set) (sets count)) (more true) (more false)

every : {A : Type 0} (P : A → Type 0) → ((x : A) → P x) → (xs : List A) → AllByRecursion P xs
every P holds [] = tt
every P holds (x ∷ xs) = (holds x, every P holds xs)

sets_apart : (count : ℕ) → Apart (sets count)
sets_apart zero = (tt, tt)
sets_apart (suc count) =
    apart_append (map (λ set. true ∷ set) (sets count)) (map (λ set. false ∷ set) (sets count)) (apart_cons true (sets count) (sets_apart count)) (apart_cons false (sets count) (sets_apart count))
    (each_map (λ x. AllByRecursion (λ y. x ≢ y) (map (λ set. false ∷ set) (sets count))) (λ set. true ∷ set) (sets count)
    (every _ (λ x. each_map (λ y. (true ∷ x) ≢ y) (λ set. false ∷ set) (sets count) (every _ (λ y same. absurd cc) (sets count))) (sets count)))

abbrev pub sized : ℕ → ℕ → List (List Bool)
sized count n = filter (λ set. size set == n) (sets count)

sized_have_size : (count n : ℕ) → AllByRecursion (λ set. size set ≡ n) (sized count n)
sized_have_size count n = each_filter (λ set. size set ≡ n) (λ set. size set == n) (sets count) (every _ (λ set is. eqb-true (size set) n is) (sets count))

-- those of later sizes are larger
later_are_larger : (count from more : ℕ) → AllByRecursion (λ set. from ≤ size set) (flat_map (sized count) (range_with_len from more))
later_are_larger count from zero = tt
later_are_larger count from (suc more) =
    each_append (λ set. from ≤ size set) (sized count from) (flat_map (sized count) (range_with_len (from + 1) more))
    (each_weaker (λ set. size set ≡ from) (λ set. from ≤ size set) (λ set is. omega (arith, is)) (sized count from) (sized_have_size count from))
    (each_weaker (λ set. from + 1 ≤ size set) (λ set. from ≤ size set) (λ set le. omega (arith, le)) (flat_map (sized count) (range_with_len (from + 1) more)) (later_are_larger count (from + 1) more))

order_apart : (count from more : ℕ) → Apart (flat_map (sized count) (range_with_len from more))
order_apart count from zero = tt
order_apart count from (suc more) =
    let later = flat_map (sized count) (range_with_len (from + 1) more) in
    apart_append (sized count from) later (apart_filter (λ set. size set == from) (sets count) (sets_apart count)) (order_apart count (from + 1) more)
    (each_weaker (λ set. size set ≡ from) (λ x. AllByRecursion (λ y. x ≢ y) later)
    (λ x is. each_weaker (λ set. from + 1 ≤ size set) (λ y. x ≢ y) (λ y le same. let sizes : size x ≡ size y = ap size same in omega (arith, is, le, sizes)) later
    (later_are_larger count (from + 1) more)) (sized count from) (sized_have_size count from))

pub ordered_have_length : (count : ℕ) → AllByRecursion (λ set. length set ≡ count) (sets_in_order count)
ordered_have_length count =
    each_flat_map (λ set. length set ≡ count) (sized count)
    (λ n. each_filter (λ set. length set ≡ count) (λ set. size set == n) (sets count)
    (each_weaker (λ set. length set ≡ count) (λ set. (size set == n) ≡ true → length set ≡ count) (λ set is _. is) (sets count) (sets_have_length count)))
    0 (suc count)

-- ---- The states

active_is : (number : ℕ) (a b : Bool) → task_at number a ≡ task_at number b → a ≡ b
active_is number true true same = refl
active_is number true false same = absurd cc
active_is number false true same = absurd cc
active_is number false false same = refl

pub set_is : (number : ℕ) (a b : List Bool) → tasks_at number a ≡ tasks_at number b → a ≡ b
set_is number [] [] same = refl
set_is number [] (y ∷ ys) same = absurd cc
set_is number (x ∷ xs) [] same = absurd cc
set_is number (x ∷ xs) (y ∷ ys) same =
    let head : task_at number x ≡ task_at number y = cc in
    let tail : tasks_at (suc number) xs ≡ tasks_at (suc number) ys = cc in
    rw (active_is number x y head, set_is (suc number) xs ys tail) refl

not_true : (b : Bool) → (b ≡ true → ⊥) → b ≡ false
not_true true none = absurd (none refl)
not_true false none = refl

none_same : (x : List Bool) (xs : List (List Bool)) → AllByRecursion (λ y. x ≢ y) xs → list_any (same_state (state_of x)) (map state_of xs) ≡ false
none_same x [] each = refl
none_same x (y ∷ ys) each =
    let differ : same_state (state_of x) (state_of y) ≡ false =
    not_true _ (λ is. each.0 (set_is 0 x y (ap (λ (s : AbsState). s.tasks) ((state_Decides (state_of x) (state_of y)).0 is)))) in
    rw (differ, none_same x ys each.1) refl

states_differ : (xs : List (List Bool)) → Apart xs → differ same_state (map state_of xs) ≡ true
states_differ [] apart = refl
states_differ (x ∷ xs) apart = rw (none_same x xs apart.0, states_differ xs apart.1) refl

owner_at : (from count place : ℕ) → place < count → slice_get (map contexts.Task (range_with_len from count)) place ≡ Some (contexts.Task (from + place))
owner_at from zero place below = absurd (omega arith)
owner_at from (suc count) zero below = let same : from + 0 ≡ from = omega arith in rw same refl
owner_at from (suc count) (suc place) below =
    let same : from + suc place ≡ (from + 1) + place = omega arith in rw same (owner_at (from + 1) count place (omega arith))

task_fits : (count number : ℕ) (active : Bool) → number < count → count ≤ 8 → FitsTask (the_rules count) number (task_at number active)
task_fits count number false below few = tt
task_fits count number true below few = record {
  at_block = record { owner = owner_at 0 count number below ∙ ap (λ n. Some (contexts.Task n)) (omega arith); is_id = omega arith };
  has_inner = λ is. absurd (false≢true is);
  resources = tt;
  once = refl;
}

tasks_fit : (count number : ℕ) (set : List Bool) → number + length set ≤ count → count ≤ 8 → AllFrom (FitsTask (the_rules count)) number (tasks_at number set)
tasks_fit count number [] below few = tt
tasks_fit count number (active ∷ set) below few =
    (task_fits count number active (omega arith) few, tasks_fit count (suc number) set (omega arith) few)

length-tasks_at : (number : ℕ) (set : List Bool) → length (tasks_at number set) ≡ length set
length-tasks_at number [] = refl
length-tasks_at number (active ∷ set) = ap suc (length-tasks_at (suc number) set)

state_fits : (count : ℕ) (set : List Bool) → count ≤ 8 → length set ≡ count → FitsRules (the_rules count) (state_of set)
state_fits count set few is = record {
  mode = (omega arith, omega arith);
  count = length-tasks_at 0 set ∙ (is ∙ sym (length-replicate count false));
  tasks = tasks_fit count 0 set (omega (arith, is)) few;
  isr = tt;
  suspended = omega arith;
}

pub states_lawful : (count : ℕ) → count ≤ 8 → AreLawful (the_rules count) (the_states count)
states_lawful count few = record {
  fit = each_map (FitsRules (the_rules count)) state_of (sets_in_order count)
      (each_weaker (λ set. length set ≡ count) (λ set. FitsRules (the_rules count) (state_of set)) (λ set is. state_fits count set few is) (sets_in_order count) (ordered_have_length count));
  once = states_differ (sets_in_order count) (order_apart count 0 (suc count));
}
