use Rattle.std.proofs.Common.{◌≡◌, inr, ℕ, ◌+◌, ◌-◌, ◌≤◌, List, [], ◌∷◌, length, get_or, set, Result, Ok, Err, IfOk, OnOk, sym, ap, subst, ◌∙◌, arith}
use Rattle.std.proofs.lemmas.List.{length-append, set-get_or, set-set}
use Rattle.split_trees.specs.declared.side.Side.TheVariants.{AtMost, Above}
use Rattle.cut_search.specs.declared.fault.SplitFault.{SplitFault}
use Rattle.cut_search.specs.declared.judging.Judged.{Judged}
use Rattle.cut_search.specs.declared.limits.Limits.{Limits}
use Rattle.cut_search.specs.declared.searching.Part.{Part}
use Rattle.cut_search.specs.Leaves.{sides_of}
use Rattle.cut_search.specs.Search.{high_side, limits_at, low_side, no_limits, searched}
use Rattle.cut_search.specs.Working.Limits.{IsFirstOpen}
use Rattle.cut_search.specs.Working.Searching.{AreLimits, IsGoodPart, IsLawfulNode, IsLowPart, SaysCut, SaysNode, SaysPart}
use Rattle.cut_search.proofs.LawfulParts.{joined_lawful, leaf_lawful}
use Rattle.cut_search.proofs.Order.{first_open-is, high_side-sides, low_side-sides}
use Rattle.cut_search.proofs.SearchLaws.{bounded_or, cut_says, high_fails, high_limits, joined_answer, joined_good, leaf_part, low_fails, low_limits, no_ray_of, refused_says}
use Rattle.cut_search.proofs.searching.+search.Goals as goal

-- ---- A node

pub search-search_cut-requires : goal.search-search_cut-requires
search-search_cut-requires t c =
    let says = subst (λ (n : Judged). SaysNode c.args.base.now c.args.bound c.args.limits.now (Ok n)) c.in-Ok-Cut.field-0-is c.in-Ok-Cut.ensures.says in
    let size = subst (IsLawfulNode c.args.base.now) c.in-Ok-Cut.field-0-is c.in-Ok-Cut.ensures.lawful in
    (omega arith, (c.requires.sizes, (c.requires.limits, (c.requires.few, (bounded_or c.args.base.now c.args.limits.now c.requires.bounded c.in-Ok-Cut.ensures.bounded, (size, first_open-is c.args.limits.now c.in-Ok-Cut.place says.0))))))

pub search-returns-in-Ok-Leaf-clause-says : goal.search-returns-in-Ok-Leaf-clause-says
search-returns-in-Ok-Leaf-clause-says t c =
    let says = subst (λ (n : Judged). SaysNode c.args.base.now c.args.bound c.args.limits.now (Ok n)) c.in-Ok-Leaf.field-0-is c.in-Ok-Leaf.ensures.says in
    λ depth h. leaf_part c.args.base.now c.args.bound c.args.cuts c.args.left c.args.limits.now c.in-Ok-Leaf.denominator c.in-Ok-Leaf.multipliers c.leaf.result says c.leaf.ensures depth

pub search-returns-in-Ok-Leaf-clause-lawful : goal.search-returns-in-Ok-Leaf-clause-lawful
search-returns-in-Ok-Leaf-clause-lawful t c =
    let lawful = subst (IsLawfulNode c.args.base.now) c.in-Ok-Leaf.field-0-is c.in-Ok-Leaf.ensures.lawful in
    λ some. leaf_lawful c.args.base.now c.args.left c.in-Ok-Leaf.denominator c.in-Ok-Leaf.multipliers c.leaf.result lawful c.leaf.ensures

pub search-returns-in-Ok-Cut-clause-says : goal.search-returns-in-Ok-Cut-clause-says
search-returns-in-Ok-Cut-clause-says t c =
    let says = subst (λ (n : Judged). SaysNode c.args.base.now c.args.bound c.args.limits.now (Ok n)) c.in-Ok-Cut.field-0-is c.in-Ok-Cut.ensures.says in
    cut_says c.args.base.now c.args.bound c.args.cuts c.args.left c.args.limits.now c.in-Ok-Cut.place c.search_cut.result says c.search_cut.ensures.says

pub search-returns-in-Err-clause-says : goal.search-returns-in-Err-clause-says
search-returns-in-Err-clause-says t c =
    λ depth h. refused_says c.args.base.now c.args.bound c.args.cuts c.args.left c.args.limits.now c.in-Err.fault c.in-Err.ensures.says depth

-- ---- The low side

pub search_cut-search-requires : goal.search_cut-search-requires
search_cut-search-requires t c =
    let limits = c.args.limits.now in
    let place = c.args.place in
    let low : set c.args.limits.now c.args.place c.low_side.result ≡ low_side c.args.limits.now c.args.place = ap (λ (l : Limits). set c.args.limits.now c.args.place l) c.low_side.ensures in
    let some = c.if-left-eq0.false in
    let sides = ap length (ap sides_of low ∙ low_side-sides limits place c.requires.place c.requires.limits.order) ∙ length-append (sides_of limits) (AtMost (limits_at limits place).column (limits_at limits place).low ∷ []) in
    (omega arith, (c.requires.sizes, (subst (AreLimits c.args.base.now) (sym low) (low_limits c.args.base.now limits place c.requires.limits c.requires.place), (omega (arith, sides, c.requires.few), inr c.requires.bounded))))

-- the limits are as before
restored : (limits after : List Limits) (place : ℕ) (x : Limits) → after ≡ set limits place x → set after place (get_or limits place no_limits) ≡ limits
restored limits after place x e = ap (λ (ls : List Limits). set ls place (get_or limits place no_limits)) e ∙ set-set limits place x (get_or limits place no_limits) ∙ set-get_or limits place no_limits

pub search_cut-search_high-requires : goal.search_cut-search_high-requires
search_cut-search_high-requires t c =
    let limits = c.args.limits.now in
    let place = c.args.place in
    let some = c.if-left-eq0.false in
    let low : set c.args.limits.now c.args.place c.low_side.result ≡ low_side c.args.limits.now c.args.place = ap (λ (l : Limits). set c.args.limits.now c.args.place l) c.low_side.ensures in
    let back : set c.search.new.limits c.args.place (get_or c.args.limits.now c.args.place no_limits) ≡ c.args.limits.now = restored limits c.search.new.limits place c.low_side.result c.in-Ok.ensures.limits in
    let says : (depth : ℕ) → c.args.left - 1 ≤ depth → SaysPart c.args.cuts (c.args.left - 1) (searched c.args.base.now c.args.bound depth (c.args.left - 1) (low_side c.args.limits.now c.args.place)) (Ok c.in-Ok.low) =
    subst (λ (ls : List Limits). (depth : ℕ) → c.args.left - 1 ≤ depth → SaysPart c.args.cuts (c.args.left - 1) (searched c.args.base.now c.args.bound depth (c.args.left - 1) ls) (Ok c.in-Ok.low)) low c.in-Ok.ensures.says in
    let counted = (says (c.args.left - 1) (omega arith)).1 in
    let part : IsLowPart c.args.base.now c.args.bound c.args.left c.args.limits.now c.args.place c.in-Ok.low = record {
      found = λ depth h. (says depth (omega arith)).0;
      count = omega arith;
      good = subst (λ (ls : List Limits). IsGoodPart c.args.base.now c.args.bound (sides_of ls) c.in-Ok.low.tree) low c.in-Ok.ensures.good;
      lawful = c.in-Ok.ensures.lawful;
    } in (
      omega arith,
      (
        c.requires.sizes,
        (
          subst (AreLimits c.args.base.now) (sym back) c.requires.limits,
          (
            subst (λ (ls : List Limits). length (sides_of ls) + c.args.left ≤ 100) (sym back) c.requires.few,
            (
              c.requires.bounded,
              (
                c.requires.size,
                (
                  subst (λ (ls : List Limits). IsFirstOpen ls c.args.place) (sym back) c.requires.place,
                  subst (λ (ls : List Limits). IsLowPart c.args.base.now c.args.bound c.args.left ls c.args.place c.in-Ok.low) (sym back) part,
                ),
              ),
            ),
          ),
        ),
      ),
    )

pub search_cut-returns-in-Ok-clause-says : goal.search_cut-returns-in-Ok-clause-says
search_cut-returns-in-Ok-clause-says t c =
    let back : set c.search.new.limits c.args.place (get_or c.args.limits.now c.args.place no_limits) ≡ c.args.limits.now = restored c.args.limits.now c.search.new.limits c.args.place c.low_side.result c.in-Ok.ensures.limits in
    subst (λ (ls : List Limits). SaysCut c.args.base.now c.args.bound c.args.cuts c.args.left ls c.args.place c.search_high.result) back c.search_high.ensures.says

pub search_cut-returns-in-Ok-clause-good : goal.search_cut-returns-in-Ok-clause-good
search_cut-returns-in-Ok-clause-good t c =
    let back : set c.search.new.limits c.args.place (get_or c.args.limits.now c.args.place no_limits) ≡ c.args.limits.now = restored c.args.limits.now c.search.new.limits c.args.place c.low_side.result c.in-Ok.ensures.limits in
    subst (λ (ls : List Limits). IfOk c.search_high.result (λ part. IsGoodPart c.args.base.now c.args.bound (sides_of ls) part.tree)) back c.search_high.ensures.good

pub search_cut-returns-in-Ok-clause-limits : goal.search_cut-returns-in-Ok-clause-limits
search_cut-returns-in-Ok-clause-limits t c =
    let back : set c.search.new.limits c.args.place (get_or c.args.limits.now c.args.place no_limits) ≡ c.args.limits.now = restored c.args.limits.now c.search.new.limits c.args.place c.low_side.result c.in-Ok.ensures.limits in
    subst (λ (ls : List Limits). OnOk c.search_high.result (c.search_high.new.limits ≡ ls)) back c.search_high.ensures.limits

pub search_cut-returns-in-Err-clause-says : goal.search_cut-returns-in-Err-clause-says
search_cut-returns-in-Err-clause-says t c =
    let low : set c.args.limits.now c.args.place c.low_side.result ≡ low_side c.args.limits.now c.args.place = ap (λ (l : Limits). set c.args.limits.now c.args.place l) c.low_side.ensures in
    low_fails c.args.base.now c.args.bound c.args.cuts c.args.left c.args.limits.now c.args.place c.in-Err.fault c.if-left-eq0.false
    (subst (λ (ls : List Limits). (depth : ℕ) → c.args.left - 1 ≤ depth → SaysPart c.args.cuts (c.args.left - 1) (searched c.args.base.now c.args.bound depth (c.args.left - 1) ls) (Err c.in-Err.fault)) low c.in-Err.ensures.says)

pub search_cut-returns-in-Err-clause-ray : goal.search_cut-returns-in-Err-clause-ray
search_cut-returns-in-Err-clause-ray t c =
    no_ray_of c.args.base.now (set c.args.limits.now c.args.place c.low_side.result) c.in-Err.fault c.requires.bounded c.in-Err.ensures.ray

-- ---- The high side

pub search_high-search-requires : goal.search_high-search-requires
search_high-search-requires t c =
    let limits = c.args.limits.now in
    let place = c.args.place in
    let count = c.requires.low.count in
    let high : set c.args.limits.now c.args.place c.high_side.result ≡ high_side c.args.limits.now c.args.place = ap (λ (l : Limits). set c.args.limits.now c.args.place l) c.high_side.ensures in
    let sides = ap length (ap sides_of high ∙ high_side-sides limits place c.requires.place c.requires.limits.order) ∙ length-append (sides_of limits) (Above (limits_at limits place).column (limits_at limits place).low ∷ []) in
    let are = high_limits c.args.base.now limits place c.requires.limits c.requires.place (omega (arith, c.requires.few)) in
    (omega arith, (c.requires.sizes, (subst (AreLimits c.args.base.now) (sym high) are, (omega (arith, sides, c.requires.few), inr c.requires.bounded))))

-- what holds of the joined part
by_joined : (answer : Result Part SplitFault) {P : Part → Type 0} {Q : Part → Type 0} → IfOk answer P → ((part : Part) → P part → Q part) → IfOk answer Q
by_joined (Ok part) is give = give part is
by_joined (Err fault) is give = tt

pub search_high-returns-in-Ok-clause-says : goal.search_high-returns-in-Ok-clause-says
search_high-returns-in-Ok-clause-says t c =
    let high : set c.args.limits.now c.args.place c.high_side.result ≡ high_side c.args.limits.now c.args.place = ap (λ (l : Limits). set c.args.limits.now c.args.place l) c.high_side.ensures in
    let says : (depth : ℕ) → c.args.low.left ≤ depth → SaysPart c.args.cuts c.args.low.left (searched c.args.base.now c.args.bound depth c.args.low.left (high_side c.args.limits.now c.args.place)) (Ok c.in-Ok.high) =
    subst (λ (ls : List Limits). (depth : ℕ) → c.args.low.left ≤ depth → SaysPart c.args.cuts c.args.low.left (searched c.args.base.now c.args.bound depth c.args.low.left ls) (Ok c.in-Ok.high)) high c.in-Ok.ensures.says in
    joined_answer c.args.base.now c.args.bound c.args.cuts c.args.left c.args.limits.now c.args.place c.args.low c.in-Ok.high c.joined.result c.requires.low says c.joined.ensures.part c.joined.ensures.memory

pub search_high-returns-in-Ok-clause-good : goal.search_high-returns-in-Ok-clause-good
search_high-returns-in-Ok-clause-good t c =
    let high : set c.args.limits.now c.args.place c.high_side.result ≡ high_side c.args.limits.now c.args.place = ap (λ (l : Limits). set c.args.limits.now c.args.place l) c.high_side.ensures in
    let good : IsGoodPart c.args.base.now c.args.bound (sides_of (high_side c.args.limits.now c.args.place)) c.in-Ok.high.tree =
    subst (λ (ls : List Limits). IsGoodPart c.args.base.now c.args.bound (sides_of ls) c.in-Ok.high.tree) high c.in-Ok.ensures.good in
    by_joined c.joined.result c.joined.ensures.part (λ part same. joined_good c.args.base.now c.args.bound c.args.limits.now c.args.place c.args.low c.in-Ok.high part c.requires.limits c.requires.place c.requires.low.good good same)

pub search_high-returns-in-Ok-clause-lawful : goal.search_high-returns-in-Ok-clause-lawful
search_high-returns-in-Ok-clause-lawful t c =
    λ some. by_joined c.joined.result c.joined.ensures.part
    (λ part same. joined_lawful c.args.base.now c.args.bound c.args.left c.args.limits.now c.args.place c.args.low c.in-Ok.high part c.requires.limits c.requires.place c.requires.low c.requires.size c.in-Ok.ensures.lawful same some)

pub search_high-returns-in-Ok-clause-limits : goal.search_high-returns-in-Ok-clause-limits
search_high-returns-in-Ok-clause-limits t c =
    let back : set c.search.new.limits c.args.place (get_or c.args.limits.now c.args.place no_limits) ≡ c.args.limits.now = restored c.args.limits.now c.search.new.limits c.args.place c.high_side.result c.in-Ok.ensures.limits in
    always c.joined.result back
  where
    always : (answer : Result Part SplitFault) {P : Type 0} → P → OnOk answer P
    always (Ok part) p = p
    always (Err fault) p = tt

pub search_high-returns-in-Err-clause-says : goal.search_high-returns-in-Err-clause-says
search_high-returns-in-Err-clause-says t c =
    let high : set c.args.limits.now c.args.place c.high_side.result ≡ high_side c.args.limits.now c.args.place = ap (λ (l : Limits). set c.args.limits.now c.args.place l) c.high_side.ensures in
    high_fails c.args.base.now c.args.bound c.args.cuts c.args.left c.args.limits.now c.args.place c.args.low c.in-Err.fault c.requires.low
    (subst (λ (ls : List Limits). (depth : ℕ) → c.args.low.left ≤ depth → SaysPart c.args.cuts c.args.low.left (searched c.args.base.now c.args.bound depth c.args.low.left ls) (Err c.in-Err.fault)) high c.in-Err.ensures.says)

pub search_high-returns-in-Err-clause-ray : goal.search_high-returns-in-Err-clause-ray
search_high-returns-in-Err-clause-ray t c =
    no_ray_of c.args.base.now (set c.args.limits.now c.args.place c.high_side.result) c.in-Err.fault c.requires.bounded c.in-Err.ensures.ray
