-- What is seen of a row: its entries, as far as there are two at most, and the link of them.
use Rattle.std.specs.Prelude.{◌≡◌, ℕ, ◌<◌, Bool, true, false, List, [], ◌∷◌, length, slice_index_or, Option, Some, None, if◌then◌else◌}
use Rattle.std.specs.Option.{option_or}
use Rattle.row_squeeze.specs.declared.Link.{Link}
use Rattle.row_build.specs.declared.seen.EntryKind.{EntryKind}
use Rattle.row_build.specs.declared.seen.EntryKind.TheVariants.{Outgoing, Incoming}
use Rattle.row_build.specs.declared.seen.SeenEntry.{SeenEntry}
use Rattle.row_build.specs.declared.seen.Seen.{Seen}
use Rattle.row_build.specs.declared.seen.Seen.TheVariants.{Nothing, One, Two, More}

abbrev pub with_entry : Seen → SeenEntry → Seen
with_entry Nothing entry = One entry
with_entry (One first) entry = Two first entry
with_entry (Two first second) entry = More
with_entry More entry = More

abbrev pub seen_of : List SeenEntry → Seen
seen_of [] = Nothing
seen_of (first ∷ []) = One first
seen_of (first ∷ second ∷ []) = Two first second
seen_of (first ∷ second ∷ third ∷ others) = More

abbrev pub are_linked : EntryKind → EntryKind → Bool
are_linked Outgoing Incoming = true
are_linked _ _ = false

abbrev pub link_of_marked : SeenEntry → SeenEntry → Option Link
link_of_marked outgoing incoming =
    if are_linked outgoing.kind incoming.kind then Some (record { outgoing = outgoing.place; incoming = incoming.place }) else None

-- in whichever order they stand
abbrev pub link_of_two : SeenEntry → SeenEntry → Option Link
link_of_two first second = option_or (link_of_marked first second) (link_of_marked second first)

abbrev pub link_of_seen : Seen → Option Link
link_of_seen (Two first second) = link_of_two first second
link_of_seen seen = None

abbrev pub seen_in : List Seen → ℕ → Seen
seen_in seen node = slice_index_or seen node Nothing

-- the entry is seen at the nodes that pass the test
pub record Sees (test : ℕ → Bool) (entry : SeenEntry) (before after : List Seen) : Type 0 where
  pub count : length after ≡ length before
  pub each : (node : ℕ) → node < length before
      → seen_in after node ≡ (if test node then with_entry (seen_in before node) entry else seen_in before node)
