-- A split certificate that is written is read again as the same one.
use Rattle.std.proofs.Common.{◌≡◌, ℕ, ◌+◌, ◌^◌, ◌≤◌, true, false, List, [], ◌∷◌, ◌++◌, map, Some, Ok, refl, sym, ap, ◌∙◌, arith, inl, decimal}
use Rattle.std.proofs.lemmas.Bool.{le-leb, ne_eqb}
use Rattle.std.proofs.lemmas.Slice.Eq.{bytes_eq-Decides}
use Rattle.std.proofs.lemmas.Str.{IsUtf8-append}
use Rattle.std.specs.Prelude.{IsUtf8}
use Rattle.json.proofs.Printed.Utf8.{IsUtf8-are_ascii}
use Rattle.serde_json.specs.Data.{Data, depth}
use Rattle.serde_json.specs.Read.{read, max_depth}
use Rattle.serde_json.specs.Written.{has_float, compact_text}
use Rattle.json_fields.specs.Files.{IsGiven}
use Rattle.json_fields.specs.Forms.{is_text}
use Rattle.json_fields.proofs.Words.{members_of-items_of}
use Rattle.abstract_sched.specs.declared.rules.StateRules.{StateRules}
use Rattle.certificate.specs.declared.fault.CertKind.TheVariants as cert_kinds
use Rattle.certificate.specs.Form.{is_state}
use Rattle.certificate.specs.Writing.{digits_data, state_data}
use Rattle.certificate.proofs.Decimals.{digits_below-decimal}
use Rattle.certificate.proofs.Newlines.{read-newline}
use Rattle.certificate.proofs.Written.{states_back, multipliers_back, all_pass, all_exact, all_shallow, state_form, state_exact, state_shallow}
use Rattle.split_trees.specs.Lawful.{HasLawfulNumbers, IsLawfulTree}
use Rattle.split_trees.specs.Tree.{Tree, Leaf, Cut, height}
use Rattle.split_cert.specs.declared.cert.SplitCert.{SplitCert}
use Rattle.split_cert.specs.Certificate.{leaf_in, tree_in, branch_in, shallow_tree_in, split_in}
use Rattle.split_cert.specs.Form.{SplitParts, is_tree, split_parts}
use Rattle.split_cert.specs.Lawful.{IsLawful}
use Rattle.split_cert.specs.Writing.{tree_data, split_data, split_text}

-- ---- trees

tree_form : (tree : Tree) → is_tree (tree_data tree) ≡ true
tree_form (Leaf denominator multipliers) =
    rw (members_of-items_of (map digits_data multipliers), all_pass is_text digits_data (λ _. refl) multipliers) refl
tree_form (Cut column k low high) = rw (tree_form low, tree_form high) refl

tree_back : (tree : Tree) → HasLawfulNumbers tree → tree_in (tree_data tree) ≡ Ok tree
unfolding tree_in branch_in leaf_in
tree_back (Leaf denominator multipliers) lawful =
    rw (
      digits_below-decimal (2 ^ 80) denominator lawful.1 (omega (arith, lawful.1)),
      members_of-items_of (map digits_data multipliers),
      multipliers_back multipliers lawful.2,
      ne_eqb denominator 0 (λ none. omega (arith, lawful.0)),
    ) refl
tree_back (Cut column k low high) lawful =
    let least : 0 ≤ column = omega arith in
    let most : column ≤ 4294967295 = omega (arith, lawful.0) in
    let least_k : 0 ≤ k = omega arith in
    let most_k : k ≤ 2147483647 = omega (arith, lawful.1) in
    rw (le-leb 0 column least, le-leb column 4294967295 most, le-leb 0 k least_k, le-leb k 2147483647 most_k, tree_back low lawful.2, tree_back high lawful.3) refl

shallow_back : (tree : Tree) → IsLawfulTree tree → shallow_tree_in (tree_data tree) ≡ Ok tree
unfolding shallow_tree_in
shallow_back tree lawful = rw (tree_back tree lawful.numbers, le-leb (height tree) 100 lawful.depth) refl

tree_exact : (tree : Tree) → has_float (tree_data tree) ≡ false
tree_exact (Leaf denominator multipliers) = rw (all_exact digits_data (λ _. refl) multipliers) refl
tree_exact (Cut column k low high) = rw (tree_exact low, tree_exact high) refl

tree_shallow : (tree : Tree) → depth (tree_data tree) ≤ height tree + 2
tree_shallow (Leaf denominator multipliers) = omega (arith, all_shallow digits_data 0 (λ _. omega arith) multipliers)
tree_shallow (Cut column k low high) = omega (arith, tree_shallow low, tree_shallow high)

-- ---- a split certificate

abbrev parts_of : List ℕ → SplitCert → SplitParts
parts_of name cert = record { bound = decimal cert.bound; states = map state_data cert.states; task = name; tree = tree_data cert.tree }

parts_back : (name : List ℕ) (cert : SplitCert) → split_parts (split_data name cert) ≡ Some (parts_of name cert)
unfolding split_parts split_data
parts_back name cert =
    rw (
      members_of-items_of (map state_data cert.states),
      all_pass is_state state_data state_form cert.states,
      tree_form cert.tree,
    ) refl

split_back : (name : List ℕ) (rules : StateRules) (task : ℕ) (cert : SplitCert) → IsLawful rules task cert → split_in rules task name (split_data name cert) ≡ Ok cert
unfolding split_in
split_back name rules task cert lawful =
    rw (
      parts_back name cert,
      digits_below-decimal (2 ^ 120) cert.bound lawful.bound (omega (arith, lawful.bound)),
      shallow_back cert.tree lawful.tree,
      states_back rules cert.states lawful.states,
      (bytes_eq-Decides name name).1 refl,
    )
    (ap (λ id. Ok (record { task = id; bound = cert.bound; states = cert.states; tree = cert.tree })) (sym lawful.for_task))

split_exact : (name : List ℕ) (cert : SplitCert) → has_float (split_data name cert) ≡ false
unfolding split_data
split_exact name cert = rw (all_exact state_data state_exact cert.states, tree_exact cert.tree) refl

split_shallow : (name : List ℕ) (cert : SplitCert) → height cert.tree ≤ 100 → depth (split_data name cert) ≤ max_depth
unfolding split_data
split_shallow name cert low = omega (arith, all_shallow state_data 3 state_shallow cert.states, tree_shallow cert.tree)

-- ---- the text

pub text_of : (name : List ℕ) (cert : SplitCert) (d : Data) (text : List ℕ) → d ≡ split_data name cert → (has_float d ≡ false → text ≡ compact_text d)
    → text ++ 10 ∷ [] ≡ split_text name cert
text_of name cert d text is written =
    let exact : has_float d ≡ false = rw is (split_exact name cert) in
    ap (λ t. t ++ 10 ∷ []) (written exact ∙ ap compact_text is)

pub read_again : (name : List ℕ) (cert : SplitCert) (d : Data) (text : List ℕ) → d ≡ split_data name cert → IsUtf8 text → (depth d ≤ max_depth → read text ≡ Some d)
    → (rules : StateRules) (task : ℕ) → IsLawful rules task cert → IsGiven cert_kinds.Json (split_in rules task name) (text ++ 10 ∷ []) (Ok cert)
read_again name cert d text is utf8 reads rules task lawful =
    let shallow : depth d ≤ max_depth = rw is (split_shallow name cert lawful.tree.depth) in
    inl (
      d,
      (IsUtf8-append text (10 ∷ []) utf8 (IsUtf8-are_ascii (10 ∷ []) refl), read-newline text ∙ reads shallow),
      ap (split_in rules task name) is ∙ split_back name rules task cert lawful,
    )
