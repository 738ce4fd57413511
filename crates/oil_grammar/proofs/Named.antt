-- The names of a well-formed tree have the form of names, since each is one token of a text.
use Rattle.std.proofs.Common.{◌≡◌, ℕ, Bool, true, List, [], ◌∷◌, refl, ap, ◌∙◌, subst}
use Rattle.std.specs.List.{list_all, AllByRecursion}
use Rattle.std.proofs.lemmas.Bool.{and_from}
use Rattle.oil_grammar.specs.Bytes.{is_letter, is_name_byte}
use Rattle.oil_grammar.specs.Grammar.{WrittenObject, file_tokens, objects_of, IsTextOf, IsWellFormed}
use Rattle.oil_grammar.specs.Names.{is_name, IsNamed, HasNames}
use Rattle.oil_grammar.specs.declared.tree.Tree.{Tree}
use Rattle.oil_grammar.proofs.Proper.{Every, IsName, text_tokens_proper}
use Rattle.oil_grammar.proofs.Bare.{ProperObjects, file_proper}

every_passes : (p : ℕ → Bool) (bytes : List ℕ) → Every p bytes → list_all p bytes ≡ true
every_passes p [] every = refl
every_passes p (b ∷ rest) every = and_from (p b) (list_all p rest) every.0 (every_passes p rest every.1)

name_formed : (name : List ℕ) → IsName name → is_name name ≡ true
name_formed name is = ap is_name is.same ∙ and_from (is_letter is.first) (list_all is_name_byte is.others) is.letter (every_passes is_name_byte is.others is.name_bytes)

objects_named : (objects : List WrittenObject) → ProperObjects objects → AllByRecursion IsNamed (objects_of objects)
unfolding objects_of
objects_named [] proper = tt
objects_named (object ∷ others) proper = ((name_formed object.kind proper.0, name_formed object.name proper.1), objects_named others proper.3)

text_named : (tree : Tree) (bytes : List ℕ) → IsTextOf tree bytes → HasNames tree
text_named tree bytes text =
    let proper = file_proper text.file (text_tokens_proper (file_tokens text.file) bytes text.tokens) in
    subst HasNames text.same (objects_named text.file.objects proper.objects)

pub has_names : (tree : Tree) → IsWellFormed tree → HasNames tree
has_names tree formed = text_named tree formed.0 formed.1
