-- The task that goes first: what is found is the first, and there is one first.
use Rattle.std.proofs.Common.{◌≡◌, ℕ, zero, suc, ◌+◌, ◌<◌, true, false, List, [], ◌∷◌, length, get_or, Option, Some, None, refl, sym, ◌∙◌, ap, subst, inl, inr, arith, below_more}
use Rattle.std.specs.Prelude.{option_map}
use Rattle.std.proofs.lemmas.Bool.{cond_both, cases_eq, cases_order, both_ways}
use Rattle.std.proofs.lemmas.Option.{same_Some, none-some}
use Rattle.oil_model.specs.declared.system.System.{System}
use Rattle.osek_kernel.specs.declared.kernel.Active.{Active}
use Rattle.osek_kernel.specs.declared.running.Rank.{Rank}
use Rattle.osek_kernel.specs.declared.running.Candidate.{Candidate}
use Rattle.osek_kernel.specs.Running.{rank_of, goes_before, candidate_of, first_of, first_from}
use Rattle.osek_kernel.proofs.Ranks.{irreflexive, passes, asymmetric, IsRaised, better, passes_on}

abbrev States : Type 0
States = ℕ → Option Active

abbrev rank_at : System → ℕ → Active → Rank
rank_at system u a = rank_of system u a

-- the candidate is the first of the tasks below n
pub record IsFirstBelow (system : System) (f : States) (n : ℕ) (c : Candidate) : Type 0 where
  pub active : Active
  pub inside : c.task < n
  pub state : f c.task ≡ Some active
  pub rank : c.rank ≡ rank_of system c.task active
  pub first : (u : ℕ) → u < n → (other : Active) → f u ≡ Some other → goes_before (rank_of system u other) c.rank ≡ false
  pub earliest : (u : ℕ) → u < c.task → (other : Active) → f u ≡ Some other → goes_before c.rank (rank_of system u other) ≡ true

abbrev Below : System → States → ℕ → Option Candidate → Type 0
Below system f n None = (u : ℕ) → u < n → f u ≡ None
Below system f n (Some c) = IsFirstBelow system f n c

not_both : {P : Type 0} (o : Option Active) (a : Active) → o ≡ None → o ≡ Some a → P
not_both o a e k = absurd (none-some a (sym e ∙ k))

abbrev candidate : System → ℕ → Active → Candidate
candidate system n a = record { task = n; rank = rank_of system n a }

-- two states at one place are one
same_rank : (system : System) (f : States) (n : ℕ) (a other : Active) → f n ≡ Some a → f n ≡ Some other → rank_of system n other ≡ rank_of system n a
same_rank system f n a other e k = ap (rank_at system n) (same_Some other a (sym k ∙ e))

first_alone : (system : System) (f : States) (n : ℕ) (a : Active) → f n ≡ Some a → ((u : ℕ) → u < n → f u ≡ None) → IsFirstBelow system f (n + 1) (candidate system n a)
first_alone system f n a e b = record {
  active = a;
  inside = omega arith;
  state = e;
  rank = refl;
  first = below_more (λ u. (other : Active) → f u ≡ Some other → goes_before (rank_of system u other) (rank_of system n a) ≡ false) n
      (λ u h other k. not_both (f u) other (b u h) k)
      (λ other k. ap (λ r. goes_before r (rank_of system n a)) (same_rank system f n a other e k) ∙ irreflexive (rank_of system n a));
  earliest = λ u h other k. not_both (f u) other (b u h) k;
}

first_stays : (system : System) (f : States) (n : ℕ) (c : Candidate) → IsFirstBelow system f n c → ((other : Active) → f n ≡ Some other → goes_before (rank_of system n other) c.rank ≡ false) → IsFirstBelow system f (n + 1) c
first_stays system f n c b last = record {
  active = b.active;
  inside = omega (arith, b.inside);
  state = b.state;
  rank = b.rank;
  earliest = b.earliest;
  first = below_more (λ u. (other : Active) → f u ≡ Some other → goes_before (rank_of system u other) c.rank ≡ false) n b.first last;
}

first_changes : (system : System) (f : States) (n : ℕ) (c : Candidate) (a : Active) → f n ≡ Some a → IsFirstBelow system f n c → goes_before (rank_of system n a) c.rank ≡ true → IsFirstBelow system f (n + 1) (candidate system n a)
first_changes system f n c a e b h = record {
  active = a;
  inside = omega arith;
  state = e;
  rank = refl;
  first = below_more (λ u. (other : Active) → f u ≡ Some other → goes_before (rank_of system u other) (rank_of system n a) ≡ false) n
      (λ u l other k. asymmetric (rank_of system n a) (rank_of system u other) (passes (rank_of system n a) c.rank (rank_of system u other) h (b.first u l other k)))
      (λ other k. ap (λ r. goes_before r (rank_of system n a)) (same_rank system f n a other e k) ∙ irreflexive (rank_of system n a));
  earliest = λ u l other k. passes (rank_of system n a) c.rank (rank_of system u other) h (b.first u l other k);
}

step : (system : System) (f : States) (n : ℕ) (best : Option Candidate) (s : Option Active) → f n ≡ s → Below system f n best → Below system f (n + 1) (first_of best (candidate_of system n s))
step system f n None None e b = below_more (λ u. f u ≡ None) n b e
step system f n None (Some a) e b = first_alone system f n a e b
step system f n (Some c) None e b = first_stays system f n c b (λ other k. not_both (f n) other e k)
step system f n (Some c) (Some a) e b =
    cond_both (goes_before (rank_of system n a) c.rank) (Some (candidate system n a)) (Some c) (Below system f (n + 1))
    (λ h. first_changes system f n c a e b h)
    (λ h. first_stays system f n c b (λ other k. ap (λ r. goes_before r c.rank) (same_rank system f n a other e k) ∙ h))

found : (system : System) (f : States) (rest : List (Option Active)) (n : ℕ) (best : Option Candidate) → ((j : ℕ) → get_or rest j None ≡ f (n + j)) → Below system f n best → Below system f (n + length rest) (first_from system best n rest)
found system f [] n best at b = let e : n ≡ n + length (let none : List (Option Active) = [] in none) = omega arith in subst (λ m. Below system f m best) e b
found system f (s ∷ rest) n best at b =
    let here : f n ≡ s = ap f (let z : n ≡ n + 0 = omega arith in z) ∙ sym (at 0) in
    let there : (j : ℕ) → get_or rest j None ≡ f ((n + 1) + j) = λ j. at (suc j) ∙ ap f (let z : n + suc j ≡ (n + 1) + j = omega arith in z) in
    let e : (n + 1) + length rest ≡ n + length (s ∷ rest) = omega arith in
    subst (λ m. Below system f m (first_from system best n (s ∷ rest))) e
    (found system f rest (n + 1) (first_of best (candidate_of system n s)) there (step system f n best s here b))

-- ---- of all tasks

-- the candidate is the first of all
pub record IsFirst (system : System) (f : States) (c : Candidate) : Type 0 where
  pub active : Active
  pub state : f c.task ≡ Some active
  pub rank : c.rank ≡ rank_of system c.task active
  pub first : (u : ℕ) (other : Active) → f u ≡ Some other → goes_before (rank_of system u other) c.rank ≡ false
  pub earliest : (u : ℕ) (other : Active) → u < c.task → f u ≡ Some other → goes_before c.rank (rank_of system u other) ≡ true

abbrev pub states_of : List (Option Active) → States
states_of states u = get_or states u None

past_none : (states : List (Option Active)) (u : ℕ) (a : Active) → get_or states u None ≡ Some a → u < length states
past_none [] u a e = absurd (none-some a e)
past_none (x ∷ xs) zero a e = omega arith
past_none (x ∷ xs) (suc u) a e = let l : u < length xs = past_none xs u a e in omega arith

-- what is found among all is the first of all
of_all : (system : System) (states : List (Option Active)) (c : Candidate) → IsFirstBelow system (states_of states) (length states) c → IsFirst system (states_of states) c
of_all system states c b = record {
  active = b.active;
  state = b.state;
  rank = b.rank;
  first = λ u other k. b.first u (past_none states u other k) other k;
  earliest = λ u other l k. b.earliest u l other k;
}

found_in : (system : System) (states : List (Option Active)) → Below system (states_of states) (length states) (first_from system None 0 states)
found_in system states =
    let e : 0 + length states ≡ length states = omega arith in
    let at : (j : ℕ) → get_or states j None ≡ states_of states (0 + j) = λ j. ap (states_of states) (let z : j ≡ 0 + j = omega arith in z) in
    let start : Below system (states_of states) 0 None = λ u l. absurd (let no : ⊥ = omega arith in no) in
    subst (λ n. Below system (states_of states) n (first_from system None 0 states)) e (found system (states_of states) states 0 None at start)

pub first_found : (system : System) (states : List (Option Active)) (c : Candidate) → first_from system None 0 states ≡ Some c → IsFirst system (states_of states) c
first_found system states c e = of_all system states c (subst (Below system (states_of states) (length states)) e (found_in system states))

-- where none is found, none is active
pub none_found : (system : System) (states : List (Option Active)) (u : ℕ) (a : Active) → first_from system None 0 states ≡ None → states_of states u ≡ Some a → ⊥
none_found system states u a e k = not_both (states_of states u) a (subst (Below system (states_of states) (length states)) e (found_in system states) u (past_none states u a k)) k

-- there is one first
one_task : (system : System) (f : States) (c d : Candidate) → IsFirst system f c → IsFirst system f d → c.task < d.task → ⊥
one_task system f c d b e l =
    both_ways (goes_before d.rank c.rank)
    (ap (λ r. goes_before r c.rank) e.rank ∙ b.first d.task e.active e.state)
    (ap (λ r. goes_before d.rank r) b.rank ∙ e.earliest c.task b.active l b.state)

same_task : (system : System) (f : States) (c d : Candidate) → IsFirst system f c → IsFirst system f d → c.task ≡ d.task
same_task system f c d b e =
    elim (cases_order c.task d.task) [ inl s ↦ s | inr w ↦ absurd (elim w [ inl l ↦ one_task system f c d b e l | inr l ↦ one_task system f d c e b l ]) ]

pub first_is : (system : System) (states : List (Option Active)) (c : Candidate) → IsFirst system (states_of states) c → (d : Option Candidate) → first_from system None 0 states ≡ d → option_map (λ x. x.task) d ≡ Some c.task
first_is system states c b None e = absurd (none_found system states c.task b.active e b.state)
first_is system states c b (Some d) e = ap Some (same_task system (states_of states) d c (first_found system states d e) b)

-- a first that is raised is the first
pub raised_first : (system : System) (f g : States) (c : Candidate) (a : Active) → IsFirst system f c → g c.task ≡ Some a → ((u : ℕ) → (u ≡ c.task → ⊥) → g u ≡ f u) → IsRaised c.rank (rank_of system c.task a) → IsFirst system g (candidate system c.task a)
raised_first system f g c a b here others up = record {
  active = a;
  state = here;
  rank = refl;
  first = λ u other k. elim (cases_eq u c.task) [
    | inl e ↦ ap (λ r. goes_before r (rank_of system c.task a)) (ap (λ v. rank_of system v other) e ∙ same_rank system g c.task a other here (sym (ap g e) ∙ k)) ∙ irreflexive (rank_of system c.task a)
    | inr ne ↦ better c.rank (rank_of system c.task a) (rank_of system u other) up (b.first u other (sym (others u ne) ∙ k))
  ];
  earliest = λ u other l k.
      let ne : u ≡ c.task → ⊥ = λ e. omega arith in
      passes_on c.rank (rank_of system c.task a) (rank_of system u other) up (b.earliest u other l (sym (others u ne) ∙ k));
}
