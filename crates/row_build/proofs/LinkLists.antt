-- Links, one after another, and those of all rows.
use Rattle.std.proofs.Common.{◌≡◌, ℕ, ◌+◌, List, [], ◌∷◌, ◌++◌, map, length, refl, sym, ap, ◌∙◌, append_assoc}
use Rattle.std.specs.Prelude.{Option, None}
use Rattle.std.specs.List.{range_with_len}
use Rattle.row_squeeze.specs.declared.Link.{Link}
use Rattle.wcet_atomic_blocks.specs.Plants.{PlantData}
use Rattle.abstract_sched.specs.declared.states.AbsState.{AbsState}
use Rattle.row_build.specs.Columns.{Column, columns}
use Rattle.row_build.specs.Families as families
use Rattle.row_build.specs.Links.{link_at, links_of, without_links}
use Rattle.row_build.specs.Working.Unlinked.{nones}
use Rattle.row_build.proofs.Growing.{map_numbers_more}

nones_from : (k : ℕ) (rows : List families.Row) → without_links rows ≡ map (λ number. None) (range_with_len k (length rows))
nones_from k [] = refl
nones_from k (row ∷ rows) = ap (λ links. None ∷ links) (nones_from (k + 1) rows)

-- one link more
pub links_more : (f : ℕ → Option Link) (n : ℕ) (old before after : List (Option Link)) (link : Option Link) → before ≡ old ++ map f (range_with_len 0 n) → link ≡ f n
    → after ≡ before ++ link ∷ [] → after ≡ old ++ map f (range_with_len 0 (n + 1))
links_more f n old before after link was is pushed =
    pushed ∙ rw (was, is) (append_assoc old (map f (range_with_len 0 n)) (f n ∷ [])) ∙ ap (λ ls. old ++ ls) (sym (map_numbers_more f n))

-- the links of all rows, by the numbers of rows before those of nodes and behind them
pub links_are : (plant : PlantData) (states : List AbsState) (task before behind : ℕ) (cs : List Column) (none first second third : List (Option Link))
    → cs ≡ columns plant states task
    → before ≡ length (families.one_start ∷ families.leaving plant states task)
    → behind ≡ length (families.standing plant states task ++ (families.beginning plant task ++ (families.going_round plant ++ families.arriving plant)))
    → none ≡ [] → first ≡ none ++ nones before → second ≡ first ++ map (link_at plant task cs) (range_with_len 0 (length plant.flow.nodes)) → third ≡ second ++ nones behind
    → third ≡ links_of plant states task
links_are plant states task before behind cs none first second third cs_is before_is behind_is none_is first_is second_is third_is =
    third_is ∙ ap (λ ls. ls ++ nones behind) (second_is ∙ rw (first_is, none_is, cs_is) refl)
    ∙ append_assoc (nones before) middle (nones behind)
    ∙ ap (λ ls. ls ++ (middle ++ nones behind)) (ap nones before_is ∙ sym (nones_from 0 (families.one_start ∷ families.leaving plant states task)))
    ∙ ap (λ ls. without_links (families.one_start ∷ families.leaving plant states task) ++ (middle ++ ls)) (ap nones behind_is ∙ sym (nones_from 0 later))
  where
    middle : List (Option Link)
    middle = map (link_at plant task (columns plant states task)) (range_with_len 0 (length plant.flow.nodes))

    later : List families.Row
    later = families.standing plant states task ++ (families.beginning plant task ++ (families.going_round plant ++ families.arriving plant))
