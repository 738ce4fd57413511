-- The form of split certificates in JSON: types of values, keys of objects and lengths of lists. A tree is a list, either
-- `["leaf", denominator, [multipliers]]` or `["cut", column, k, low, high]`: denominators and multipliers are texts, the
-- column and k are numbers, low and high are trees.
use Rattle.std.specs.Prelude.{ℕ, List, [], ◌∷◌, Bool, false, ◌&&◌, bytes_eq, codes, if◌then◌else◌, Option, Some, None, option_map, unwrap_or}
use Rattle.std.specs.List.{list_all}
use Rattle.listed.specs.Steps.Options.{◌>>=◌}
use Rattle.serde_json.specs.Data.{Data, null, boolean, number, string, array, object, Items, no_items, item}
use Rattle.serde_json.specs.Find.{get, as_str}
use Rattle.json_fields.specs.Forms.{is_number, is_text}
use Rattle.json_fields.specs.Lists.{list_in}
use Rattle.json_fields.specs.Objects.{has_exactly, text_at, list_at}
use Rattle.certificate.specs.Form.{is_state}

-- the text is this word
abbrev pub is_word : List ℕ → Data → Bool
is_word word d = unwrap_or (option_map (bytes_eq word) (as_str d)) false

-- a list of texts
abbrev pub are_texts : Data → Bool
are_texts d = unwrap_or (option_map (list_all is_text) (list_in d)) false

abbrev pub is_leaf : Data → Data → Data → Bool
is_leaf word denominator multipliers = is_word (codes "leaf") word && is_text denominator && are_texts multipliers

abbrev pub is_cut : Data → Data → Data → Bool
is_cut word column k = is_word (codes "cut") word && is_number column && is_number k

abbrev mutual
  pub is_tree : Data → Bool
  is_tree null = false
  is_tree (boolean b) = false
  is_tree (number n) = false
  is_tree (string s) = false
  is_tree (array items) = is_branch items
  is_tree (object fields) = false

  pub is_branch : Items → Bool
  is_branch (item word (item denominator (item multipliers no_items))) = is_leaf word denominator multipliers
  is_branch (item word (item column (item k (item low (item high no_items))))) = is_cut word column k && is_tree low && is_tree high
  is_branch _ = false

-- ---- certificates

-- the members of a split certificate
pub record SplitParts : Type 0 where
  pub bound : List ℕ
  pub states : List Data
  pub task : List ℕ
  pub tree : Data

abbrev pub keys : List (List ℕ)
keys = codes "bound" ∷ codes "states" ∷ codes "task" ∷ codes "tree" ∷ []

abbrev pub have_form : SplitParts → Bool
have_form parts = list_all is_state parts.states && is_tree parts.tree

abbrev formed : SplitParts → Option SplitParts
formed parts = if have_form parts then Some parts else None

-- the members, if the value has the form of a split certificate
unfoldable pub split_parts : Data → Option SplitParts
split_parts d = if has_exactly keys d then (do
  bound ← text_at (codes "bound") d
  states ← list_at (codes "states") d
  task ← text_at (codes "task") d
  tree ← get (codes "tree") d
  formed (record { bound = bound; states = states; task = task; tree = tree })) else None
