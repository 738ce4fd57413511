-- The names of a lawful system are texts.
use Rattle.std.proofs.Common.{◌≡◌, ℕ, zero, suc, ◌<◌, true, List, [], ◌∷◌, ◌++◌, map, refl, sym, ◌∙◌, arith}
use Rattle.std.specs.Prelude.{◌&&◌, IsUtf8, slice_index}
use Rattle.std.specs.List.{list_all}
use Rattle.std.proofs.lemmas.Bool.{leb-true, and_parts}
use Rattle.std.proofs.lemmas.List.Folds.{list_all-append}
use Rattle.std.proofs.lemmas.Str.{IsUtf8-from_ascii}
use Rattle.oil_grammar.specs.Bytes.{is_letter, is_name_byte}
use Rattle.oil_grammar.specs.Names.{is_name}
use Rattle.oil_model.specs.declared.system.System.{System}
use Rattle.oil_model.specs.System.{IsLawful}
use Rattle.trace_check.specs.Text.{source_names, context_names, name_at}

-- ---- a name is a text

low_letter : (b : ℕ) → is_letter b ≡ true → b < 128
low_letter b is = grind (arith, leb-true)

low_byte : (b : ℕ) → is_name_byte b ≡ true → b < 128
low_byte b is = grind (arith, leb-true)

low_rest : (bs : List ℕ) → list_all is_name_byte bs ≡ true → (i : ℕ) → slice_index bs i < 128
low_rest [] are i = omega arith
low_rest (b ∷ bs) are zero = low_byte b (and_parts _ _ are).0
low_rest (b ∷ bs) are (suc i) = low_rest bs (and_parts _ _ are).1 i

low_name : (name : List ℕ) → is_name name ≡ true → (i : ℕ) → slice_index name i < 128
low_name [] is i = omega arith
low_name (b ∷ bs) is zero = low_letter b (and_parts _ _ is).0
low_name (b ∷ bs) is (suc i) = low_rest bs (and_parts _ _ is).1 i

text_at : (names : List (List ℕ)) → list_all is_name names ≡ true → (place : ℕ) → IsUtf8 (name_at names place)
text_at [] are place = IsUtf8-from_ascii [] (λ i. omega arith)
text_at (name ∷ names) are zero = IsUtf8-from_ascii name (low_name name (and_parts _ _ are).0)
text_at (name ∷ names) are (suc place) = text_at names (and_parts _ _ are).1 place

-- ---- those of a system

pub mode_is_text : (system : System) → IsLawful system → (mode : ℕ) → IsUtf8 (name_at system.modes mode)
mode_is_text system lawful mode = text_at system.modes lawful.names.modes mode

pub record AreNames (system : System) : Type 0 where
  pub tasks : list_all is_name (map (λ task. task.name) system.tasks) ≡ true
  pub isrs : list_all is_name (map (λ isr. isr.name) system.isrs) ≡ true
  pub alarms : list_all is_name (map (λ alarm. alarm.name) system.alarms) ≡ true

are_names : (system : System) → IsLawful system → AreNames system
are_names system lawful =
    let tasks = map (λ task. task.name) system.tasks in
    let isrs = map (λ isr. isr.name) system.isrs in
    let alarms = map (λ alarm. alarm.name) system.alarms in
    let all : (list_all is_name tasks && list_all is_name (isrs ++ alarms)) ≡ true = sym (list_all-append is_name tasks (isrs ++ alarms)) ∙ lawful.names.code in
    let parts = and_parts _ _ all in
    let others : (list_all is_name isrs && list_all is_name alarms) ≡ true = sym (list_all-append is_name isrs alarms) ∙ parts.1 in
    let both = and_parts _ _ others in
    record { tasks = parts.0; isrs = both.0; alarms = both.1 }

pub source_is_text : (system : System) → IsLawful system → (source : ℕ) → IsUtf8 (name_at (source_names system) source)
source_is_text system lawful source =
    let names = are_names system lawful in
    text_at (source_names system)
    (list_all-append is_name (map (λ alarm. alarm.name) system.alarms) (map (λ isr. isr.name) system.isrs) ∙ rw (names.alarms, names.isrs) refl) source

pub context_is_text : (system : System) → IsLawful system → (context : ℕ) → IsUtf8 (name_at (context_names system) context)
context_is_text system lawful context =
    let names = are_names system lawful in
    text_at (context_names system)
    (list_all-append is_name (map (λ task. task.name) system.tasks) (map (λ isr. isr.name) system.isrs) ∙ rw (names.tasks, names.isrs) refl) context
