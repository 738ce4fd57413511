-- What a split certificate is written as: a JSON value, in the form of `Form`, and its text.
use Rattle.std.specs.Prelude.{ℕ, List, [], ◌∷◌, ◌++◌, map, codes, ◌≡◌, refl}
use Rattle.std.specs.Fmt.{digits}
use Rattle.json.specs.Print.{escape_byte}
use Rattle.serde_json.specs.Data.{Data, string, object, no_members, member}
use Rattle.serde_json.specs.Written.{compact_text}
use Rattle.certificate.specs.Writing.{number_data, digits_data, list_data, state_data}
use Rattle.split_cert.specs.declared.cert.SplitCert.{SplitCert}
use Rattle.split_trees.specs.Tree.{Tree, Leaf, Cut}

abbrev pub leaf_data : ℕ → List ℕ → Data
leaf_data denominator multipliers =
    list_data (string (codes "leaf") ∷ digits_data denominator ∷ list_data (map digits_data multipliers) ∷ [])

abbrev pub tree_data : Tree → Data
tree_data (Leaf denominator multipliers) = leaf_data denominator multipliers
tree_data (Cut column k low high) =
    list_data (string (codes "cut") ∷ number_data column ∷ number_data k ∷ tree_data low ∷ tree_data high ∷ [])

-- for the task of this name
unfoldable pub split_data : List ℕ → SplitCert → Data
split_data name cert = object (
    member (codes "bound") (digits_data cert.bound)
    (member (codes "states") (list_data (map state_data cert.states))
    (member (codes "task") (string name)
    (member (codes "tree") (tree_data cert.tree) no_members)))
    )

-- one line: the value with no space, and a newline
abbrev pub split_text : List ℕ → SplitCert → List ℕ
split_text name cert = compact_text (split_data name cert) ++ 10 ∷ []

-- ---- worked case

its_tree : compact_text (tree_data (Cut 4 0 (Leaf 1 (5 ∷ [])) (Leaf 20 []))) ≡ codes "[\"cut\",4,0,[\"leaf\",\"1\",[\"5\"]],[\"leaf\",\"20\",[]]]"
unfolding digits escape_byte
its_tree = refl
