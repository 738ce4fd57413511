-- Tables of blocks, step by step.
use Rattle.std.proofs.Common.{◌≡◌, ◌≢◌, ℕ, suc, zero, ◌+◌, ◌<◌, inl, inr, true, false, List, [], ◌∷◌, length, get_or, set, replicate, arith, ap, ◌∙◌, subst, sym, refl, Option, Some, None}
use Rattle.std.specs.Prelude.{slice_get, is_none, IsSomeAnd}
use Rattle.std.proofs.lemmas.Bool.{cases_eq}
use Rattle.std.proofs.lemmas.List.{length-set, length-replicate}
use Rattle.std.proofs.lemmas.Option.{slice_get-get_or}
use Rattle.wcet_atomic_blocks.specs.declared.block.Beginning.{Beginning}
use Rattle.wcet_atomic_blocks.specs.Working.Tables.{IsEntryAt, IsBehindAt, AreEntriesBelow, IsFound, AreAftersBelow}

-- ---- A table with another member

slice_get-set_same : {X : Type 0} (xs : List X) (i : ℕ) (x : X) → i < length xs → slice_get (set xs i x) i ≡ Some x
slice_get-set_same [] i x inside = absurd (omega arith)
slice_get-set_same (y ∷ xs) zero x inside = refl
slice_get-set_same (y ∷ xs) (suc i) x inside = slice_get-set_same xs i x (omega arith)

slice_get-set_other : {X : Type 0} (xs : List X) (i j : ℕ) (x : X) → j ≢ i → slice_get (set xs i x) j ≡ slice_get xs j
slice_get-set_other [] i j x apart = refl
slice_get-set_other (y ∷ xs) zero zero x apart = absurd (apart refl)
slice_get-set_other (y ∷ xs) zero (suc j) x apart = refl
slice_get-set_other (y ∷ xs) (suc i) zero x apart = refl
slice_get-set_other (y ∷ xs) (suc i) (suc j) x apart = slice_get-set_other xs i j x (λ e. apart (ap suc e))

slice_get-replicate : {X : Type 0} (n i : ℕ) (x : X) → i < n → slice_get (replicate n x) i ≡ Some x
slice_get-replicate zero i x inside = absurd (omega arith)
slice_get-replicate (suc n) zero x inside = refl
slice_get-replicate (suc n) (suc i) x inside = slice_get-replicate n i x (omega arith)

-- the beginning of that number
stands_at : (begins : List Beginning) (number : ℕ) (d : Beginning) → number < length begins → slice_get begins number ≡ Some (get_or begins number d)
stands_at begins number d inside = slice_get-get_or begins number d inside

-- ---- Entries

pub entries_begin : (begins : List Beginning) (contexts : ℕ) (table : List ℕ) → length table ≡ contexts → AreEntriesBelow begins 0 contexts table
entries_begin begins contexts table long = record { long = long; each = λ number context below. absurd (omega arith) }

-- a beginning behind a service
pub entries_pass : (begins : List Beginning) (number contexts : ℕ) (d : Beginning) (table : List ℕ) → number < length begins
    → is_none (get_or begins number d).after ≡ false
    → AreEntriesBelow begins number contexts table → AreEntriesBelow begins (number + 1) contexts table
entries_pass begins number contexts d table inside behind entries = record {
  long = entries.long;
  each = λ i context below is. elim (cases_eq i number) [
    | inl same ↦ absurd (wrong context (subst (IsEntryAt begins context) same is))
    | inr differ ↦ entries.each i context (omega (arith, differ)) is
  ];
}
  where
    wrong : (context : ℕ) → IsEntryAt begins context number → ⊥
    wrong context is =
        let at : Some (get_or begins number d) ≡ Some is.begin = sym (stands_at begins number d inside) ∙ is.stands in
        let none : is.begin.after ≡ None = is.after in
        let same : get_or begins number d ≡ is.begin = cc in
        let now : is_none (get_or begins number d).after ≡ true = ap (λ (b : Beginning). is_none b.after) same ∙ ap is_none none in
        cc

-- the beginning of an entry
pub entries_set : (begins : List Beginning) (number contexts : ℕ) (d : Beginning) (table : List ℕ) → number < length begins
    → is_none (get_or begins number d).after ≡ true
    → (get_or begins number d).owner < contexts → AreEntriesBelow begins number contexts table
    → AreEntriesBelow begins (number + 1) contexts (set table (get_or begins number d).owner number)
entries_set begins number contexts d table inside behind below entries = record {
  long = length-set table owner number ∙ entries.long;
  each = λ i context before is. elim (cases_eq context owner) [
    | inl same ↦ subst (λ o. IsSomeAnd o (IsEntryAt begins context))
        (sym (ap (slice_get (set table owner number)) same ∙ slice_get-set_same table owner number (omega (arith, entries.long))))
        (subst (λ (c : ℕ). IsEntryAt begins c number) (sym same) here)
    | inr differ ↦ subst (λ o. IsSomeAnd o (IsEntryAt begins context)) (sym (slice_get-set_other table owner context number differ))
        (entries.each i context (earlier i context before is differ) is)
  ];
}
  where
    owner : ℕ
    owner = (get_or begins number d).owner

    none : (o : Option ℕ) → is_none o ≡ true → o ≡ None
    none None e = refl
    none (Some n) e = absurd cc

    here : IsEntryAt begins owner number
    here = record {
      begin = get_or begins number d;
      stands = stands_at begins number d inside;
      owner = refl;
      after = none (get_or begins number d).after behind;
    }

    earlier : (i context : ℕ) → i < number + 1 → IsEntryAt begins context i → context ≢ owner → i < number
    earlier i context before is differ = elim (cases_eq i number) [
      | inl same ↦ absurd (differ (
          let at : Some (get_or begins number d) ≡ Some is.begin = sym (stands_at begins number d inside) ∙ ap (slice_get begins) (sym same) ∙ is.stands in
          let whose : is.begin.owner ≡ context = is.owner in
          let one : get_or begins number d ≡ is.begin = cc in
          sym whose ∙ ap (λ (b : Beginning). b.owner) (sym one)))
      | inr apart ↦ omega (arith, apart)
    ]

-- ---- Blocks behind services

pub afters_begin : (begins : List Beginning) (nodes : ℕ) (table : List (Option ℕ)) → table ≡ replicate nodes None → AreAftersBelow begins 0 nodes table
afters_begin begins nodes table is = record {
  long = ap length is ∙ length-replicate nodes None;
  each = λ node inside. subst (λ (t : List (Option ℕ)). IsSomeAnd (slice_get t node) (IsFound begins 0 node)) (sym is)
      (subst (λ o. IsSomeAnd o (IsFound begins 0 node)) (sym (slice_get-replicate nodes node None inside)) (λ number below. absurd (omega arith)));
}

-- what was found among the first so many, and not at the next one, is found among one more
found_more : (begins : List Beginning) (count node : ℕ) (o : Option ℕ) → (IsBehindAt begins node count → ⊥) → IsFound begins count node o
    → IsFound begins (count + 1) node o
found_more begins count node (Some number) wrong found = found
found_more begins count node None wrong found =
    λ number below is. elim (cases_eq number count) [
      | inl same ↦ wrong (subst (IsBehindAt begins node) same is)
      | inr differ ↦ found number (omega (arith, differ)) is
    ]

found_more_at : (begins : List Beginning) (count node : ℕ) (o : Option (Option ℕ)) → (IsBehindAt begins node count → ⊥)
    → IsSomeAnd o (IsFound begins count node)
    → IsSomeAnd o (IsFound begins (count + 1) node)
found_more_at begins count node (Some o) wrong found = found_more begins count node o wrong found
found_more_at begins count node None wrong found = found

behind_there : (begins : List Beginning) (number : ℕ) (d : Beginning) (node : ℕ) → number < length begins → IsBehindAt begins node number
    → (get_or begins number d).after ≡ Some node
behind_there begins number d node inside is =
    let at : Some (get_or begins number d) ≡ Some is.begin = sym (stands_at begins number d inside) ∙ is.stands in
    let there : is.begin.after ≡ Some node = is.after in
    let one : get_or begins number d ≡ is.begin = cc in
    ap (λ (b : Beginning). b.after) one ∙ there

-- the beginning at an entry
pub afters_pass : (begins : List Beginning) (number nodes : ℕ) (d : Beginning) (table : List (Option ℕ)) → number < length begins
    → ((node : ℕ) → (get_or begins number d).after ≡ Some node → ⊥)
    → AreAftersBelow begins number nodes table → AreAftersBelow begins (number + 1) nodes table
afters_pass begins number nodes d table inside entry afters = record {
  long = afters.long;
  each = λ node below. found_more_at begins number node (slice_get table node) (λ is. entry node (behind_there begins number d node inside is))
      (afters.each node below);
}

-- a beginning behind a node
pub afters_set : (begins : List Beginning) (number nodes : ℕ) (d : Beginning) (table : List (Option ℕ)) (node : ℕ) → number < length begins
    → (get_or begins number d).after ≡ Some node → node < nodes
    → AreAftersBelow begins number nodes table → AreAftersBelow begins (number + 1) nodes (set table node (Some number))
afters_set begins number nodes d table node inside behind exists afters = record {
  long = length-set table node (Some number) ∙ afters.long;
  each = λ other below. elim (cases_eq other node) [
    | inl same ↦ subst (λ o. IsSomeAnd o (IsFound begins (number + 1) other))
        (sym (ap (slice_get (set table node (Some number))) same ∙ slice_get-set_same table node (Some number) (omega (arith, afters.long))))
        (subst (λ (n : ℕ). IsBehindAt begins n number) (sym same) here)
    | inr differ ↦ subst (λ o. IsSomeAnd o (IsFound begins (number + 1) other)) (sym (slice_get-set_other table node other (Some number) differ))
        (found_more_at begins number other (slice_get table other) (λ is. differ (let e = behind_there begins number d other inside is in cc))
        (afters.each other below))
  ];
}
  where
    here : IsBehindAt begins node number
    here = record { begin = get_or begins number d; stands = stands_at begins number d inside; after = behind }
