-- What is counted of a loop: as many edges back as its bound for each time that it was entered, and where a context is in it,
-- so many fewer as it has laps to go.
use Rattle.std.proofs.Common.{◌≡◌, ℕ, zero, suc, ◌+◌, ◌*◌, ◌≤◌, Bool, true, false, List, Option, Some, None, refl, ◌∙◌, ap, arith, mul-suc, mul-add}
use Rattle.std.proofs.lemmas.Option.{none-some, same_Some}
use Rattle.rv32_machine.specs.ContextStep.{Standing}
use Rattle.timing_file.specs.declared.timing.Loop.{Loop}
use Rattle.activation_windows.proofs.Beyond.{beyond, lies_by}
use Rattle.activation_windows.proofs.Rounds.{GoesRound, laps_at}
use Rattle.activation_windows.proofs.Sums.{one}

-- So many edges back and entries were used, and the visit of the loop's context counts so many entries once it runs.
pub record Circles (l : Loop) (sites : List ℕ) (bound backs entries : ℕ) (laps : List ℕ) (standing : Option Standing) (visit : ℕ) : Type 0 where
  pub most : backs ≤ bound * entries
  pub inside : (at : Standing) → standing ≡ Some at → (rest : List ℕ) → beyond sites at.calls ≡ Some rest → lies_by l at.place (Some rest) ≡ true
      → visit ≡ 0 → backs + bound ≤ bound * entries + laps_at laps rest

-- the context isn't active
pub circles_gone : (l : Loop) (sites : List ℕ) (bound backs entries : ℕ) (laps : List ℕ) (visit : ℕ) → backs ≤ bound * entries
    → Circles l sites bound backs entries laps None visit
circles_gone l sites bound backs entries laps visit most = record { most = most; inside = λ at e. absurd (none-some at e) }

-- it stands outside, or it comes in by the visit
pub circles_fresh : (l : Loop) (sites : List ℕ) (bound backs entries : ℕ) (laps : List ℕ) (standing : Standing) (visit : ℕ) → backs ≤ bound * entries
    → ((rest : List ℕ) → beyond sites standing.calls ≡ Some rest → lies_by l standing.place (Some rest) ≡ true → visit ≡ 0 → ⊥)
    → Circles l sites bound backs entries laps (Some standing) visit
circles_fresh l sites bound backs entries laps standing visit most comes = record {
  most = most;
  inside = λ at e rest beyond_is lies none.
      let same : standing ≡ at = same_Some standing at e in
      absurd (comes rest (ap (λ (s : Standing). beyond sites s.calls) same ∙ beyond_is) (ap (λ (s : Standing). lies_by l s.place (Some rest)) same
      ∙ lies) none);
}

more_entries : (bound entries more : ℕ) → bound * entries ≤ bound * (entries + more)
more_entries bound entries more = let all = mul-add bound entries more in omega arith

one_entry : (bound entries more : ℕ) → 1 ≤ more → bound * entries + bound ≤ bound * (entries + more)
one_entry bound entries zero some = omega arith
one_entry bound entries (suc more) some = let all = mul-add bound entries (suc more) in let one_more = mul-suc bound more in omega arith

-- other entries count
pub circles_more : (l : Loop) (sites : List ℕ) (bound backs entries more : ℕ) (laps : List ℕ) (standing : Option Standing) (visit : ℕ)
    → Circles l sites bound backs entries laps standing visit → Circles l sites bound backs (entries + more) laps standing visit
circles_more l sites bound backs entries more laps standing visit circles = record {
  most = (let most = circles.most in let all = more_entries bound entries more in omega arith);
  inside = λ at e rest beyond_is lies none.
      let held = circles.inside at e rest beyond_is lies none in let all = more_entries bound entries more in omega arith;
}

-- the visit is used
pub circles_run : (l : Loop) (sites : List ℕ) (bound backs entries : ℕ) (laps : List ℕ) (standing : Option Standing) (visit : ℕ)
    → Circles l sites bound backs entries laps standing visit → Circles l sites bound backs (entries + visit) laps standing 0
circles_run l sites bound backs entries laps standing zero circles = record {
  most = (let most = circles.most in let all = more_entries bound entries 0 in omega arith);
  inside = λ at e rest beyond_is lies none.
      let held = circles.inside at e rest beyond_is lies refl in let all = more_entries bound entries 0 in omega arith;
}
circles_run l sites bound backs entries laps standing (suc visit) circles = record {
  most = (let most = circles.most in let all = more_entries bound entries (suc visit) in omega arith);
  inside = λ at e rest beyond_is lies none. (let most = circles.most in let all = one_entry bound entries (suc visit) (omega arith) in omega arith);
}

-- an edge that enters isn't one back
pub circles_enter : (l : Loop) (sites : List ℕ) (bound backs entries more : ℕ) (laps laps' : List ℕ) (standing next : Option Standing) (visit : ℕ)
    → 1 ≤ more → Circles l sites bound backs entries laps standing visit → Circles l sites bound backs (entries + more) laps' next 0
circles_enter l sites bound backs entries more laps laps' standing next visit some circles = record {
  most = (let most = circles.most in let all = more_entries bound entries more in omega arith);
  inside = λ at e rest beyond_is lies none. (let most = circles.most in let all = one_entry bound entries more some in omega arith);
}

-- any other edge, or a service within an invocation
pub circles_round : (l : Loop) (sites : List ℕ) (bound backs entries : ℕ) (laps laps' : List ℕ) (from to : Standing) (back : Bool) (visit : ℕ)
    → GoesRound l from.place to.place (beyond sites from.calls) (beyond sites to.calls) laps laps' back
    → ((rest : List ℕ) → laps_at laps' rest ≤ bound)
    → Circles l sites bound backs entries laps (Some from) 0 → Circles l sites bound (backs + one back) entries laps' (Some to) visit
circles_round l sites bound backs entries laps laps' from to true visit round few circles =
    let leads = round.leads refl in
    let before = round.stays leads.0 leads.1 leads.2 in
    let held = circles.inside from refl before.0 before.1 before.2 refl in
    let more = before.3 in
    let within = few leads.0 in
    record {
      most = omega arith;
      inside = λ at e rest beyond_is lies none.
          let same : to ≡ at = same_Some to at e in
          let then = round.stays rest (ap (λ (s : Standing). beyond sites s.calls) same ∙ beyond_is)
          (ap (λ (s : Standing). lies_by l s.place (Some rest)) same ∙ lies) in
          let kept = circles.inside from refl then.0 then.1 then.2 refl in
          let laps_more = then.3 in
          omega arith;
    }
circles_round l sites bound backs entries laps laps' from to false visit round few circles = record {
  most = (let most = circles.most in omega arith);
  inside = λ at e rest beyond_is lies none.
      let same : to ≡ at = same_Some to at e in
      let then = round.stays rest (ap (λ (s : Standing). beyond sites s.calls) same ∙ beyond_is)
      (ap (λ (s : Standing). lies_by l s.place (Some rest)) same ∙ lies) in
      let kept = circles.inside from refl then.0 then.1 then.2 refl in
      let laps_more = then.3 in
      omega arith;
}
