-- Tasks by their names: they exist, and their names are texts.
use Rattle.std.proofs.Common.{◌≡◌, ℕ, zero, suc, ◌<◌, true, List, [], ◌∷◌, ◌++◌, length, map, get_or, Some, All, refl, ◌∙◌, sym, subst, arith}
use Rattle.std.specs.Prelude.{◌&&◌, bytes_eq, slice_index, IsUtf8, codes}
use Rattle.std.specs.List.{list_all}
use Rattle.std.proofs.lemmas.Bool.{leb-true, and_parts}
use Rattle.std.proofs.lemmas.List.Elements.{All-get_or}
use Rattle.std.proofs.lemmas.List.Folds.{list_all-append, list_all-map}
use Rattle.std.proofs.lemmas.List.Quantifiers.{position-Some}
use Rattle.std.proofs.lemmas.List.Sums.{AllPass-from_list_all}
use Rattle.std.proofs.lemmas.Slice.Eq.{bytes_eq-Decides}
use Rattle.std.proofs.lemmas.Str.{IsUtf8-from_ascii}
use Rattle.oil_grammar.specs.Bytes.{is_letter, is_name_byte}
use Rattle.oil_grammar.specs.Names.{is_name}
use Rattle.oil_model.specs.declared.system.Task.{Task}
use Rattle.oil_model.specs.declared.system.System.{System}
use Rattle.oil_model.specs.Answers.{task_named}
use Rattle.oil_model.specs.Lone.{lone_task}
use Rattle.oil_model.specs.System.{IsLawful}

-- ---- names are texts

ascii_letter : (b : ℕ) → is_letter b ≡ true → b < 128
ascii_letter b is = grind (arith, leb-true)

ascii_byte : (b : ℕ) → is_name_byte b ≡ true → b < 128
ascii_byte b is = grind (arith, leb-true)

ascii_rest : (bs : List ℕ) → list_all is_name_byte bs ≡ true → (i : ℕ) → slice_index bs i < 128
ascii_rest [] are i = omega arith
ascii_rest (b ∷ bs) are zero = ascii_byte b (and_parts _ _ are).0
ascii_rest (b ∷ bs) are (suc i) = ascii_rest bs (and_parts _ _ are).1 i

ascii_name : (name : List ℕ) → is_name name ≡ true → (i : ℕ) → slice_index name i < 128
ascii_name [] is i = omega arith
ascii_name (b ∷ bs) is zero = ascii_letter b (and_parts _ _ is).0
ascii_name (b ∷ bs) is (suc i) = ascii_rest bs (and_parts _ _ is).1 i

name_is_text : (name : List ℕ) → is_name name ≡ true → IsUtf8 name
name_is_text name is = IsUtf8-from_ascii name (ascii_name name is)

pub lone_name_is_text : IsUtf8 (codes "T")
lone_name_is_text = name_is_text (codes "T") refl

-- ---- the task of a name

pub task_exists : (system : System) (name : List ℕ) (task : ℕ) → task_named system name ≡ Some task → task < length system.tasks
task_exists system name task is = (position-Some (λ (t : Task). bytes_eq t.name name) system.tasks task lone_task is).0

named_so : (system : System) (name : List ℕ) (task : ℕ) → task_named system name ≡ Some task → (get_or system.tasks task lone_task).name ≡ name
named_so system name task is =
    (bytes_eq-Decides (get_or system.tasks task lone_task).name name).0
    (position-Some (λ (t : Task). bytes_eq t.name name) system.tasks task lone_task is).1

task_names : (system : System) → IsLawful system → All (λ (t : Task). is_name t.name ≡ true) system.tasks
task_names system lawful =
    let both : (list_all is_name (map (λ (t : Task). t.name) system.tasks)
    && list_all is_name (map (λ i. i.name) system.isrs ++ map (λ a. a.name) system.alarms)) ≡ true =
    sym (list_all-append is_name (map (λ (t : Task). t.name) system.tasks) (map (λ i. i.name) system.isrs ++ map (λ a. a.name) system.alarms))
    ∙ lawful.names.code in
    AllPass-from_list_all (λ (t : Task). is_name t.name) system.tasks
    (sym (list_all-map is_name (λ (t : Task). t.name) system.tasks) ∙ (and_parts _ _ both).0)

pub task_name_is_text : (system : System) (name : List ℕ) (task : ℕ) → IsLawful system → task_named system name ≡ Some task → IsUtf8 name
task_name_is_text system name task lawful is =
    subst (λ (n : List ℕ). IsUtf8 n) (named_so system name task is)
    (name_is_text (get_or system.tasks task lone_task).name
    (All-get_or (λ (t : Task). is_name t.name ≡ true) system.tasks task lone_task (task_exists system name task is) (task_names system lawful)))
