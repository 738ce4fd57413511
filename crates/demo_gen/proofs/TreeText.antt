-- Some text has the tree of a generated system.
use Rattle.std.proofs.Common.{◌≡◌, ℕ, ◌+◌, ◌^◌, ◌<◌, Bool, true, false, List, [], ◌∷◌, ◌++◌, drop, map, Some, None, refl, ap, subst, arith, decimal}
use Rattle.std.specs.Prelude.{codes}
use Rattle.std.specs.List.{AllByRecursion, list_all}
use Rattle.std.proofs.lemmas.Bool.{and_parts}
use Rattle.std.proofs.lemmas.List.{append-nil}
use Rattle.oil_grammar.specs.Bytes.{is_name_byte}
use Rattle.oil_grammar.specs.Names.{is_name}
use Rattle.oil_grammar.specs.Layout.{quoted_layout}
use Rattle.oil_grammar.specs.declared.tree.Value.{Value}
use Rattle.oil_grammar.specs.Grammar.{Block, empty, plain, braced, WrittenObject, File, block_tokens, objects_tokens, file_tokens, objects_of, attributes_of, tree_of, IsNoWord, IsBlock, AreObjects, IsFile, IsWellFormed, depth_limit, value_token}
use Rattle.oil_grammar.specs.declared.tree.Value.TheVariants as value
use Rattle.oil_grammar.proofs.Proper.{Every, IsName}
use Rattle.oil_grammar.proofs.Spelled.{first_name, first_number, first_text, first_equals, first_semicolon, first_open, first_close}
use Rattle.demo_gen.specs.declared.task.DemoTask.{DemoTask}
use Rattle.demo_gen.specs.Demo as demo
use Rattle.demo_gen.specs.Demo.{task_name, alarm_name, mode_name, counter_name, the_tree}
use Rattle.demo_gen.proofs.ObjectNames.{task_is_name, alarm_is_name, task_is_no_word, other_first}
use Rattle.demo_gen.proofs.Spelling.{Token, Spells, AreSpelled, are_tokens}

-- ---- The objects as they are written

abbrev bare : List ℕ → List ℕ → WrittenObject
bare kind name = record { kind = kind; name = name; block = Some empty; description = None }

abbrev task_block : ℕ → Block
task_block number = plain (codes "PRIORITY") (value.Number false (number + 1)) None empty

abbrev action_block : ℕ → Block
action_block number = plain (codes "TASK") (value.Name (task_name number)) None empty

abbrev start_block : ℕ → Block
start_block cycle =
    plain (codes "ALARMTIME") (value.Number false 0) None
    (plain (codes "CYCLETIME") (value.Number false cycle) None
    (plain (codes "APPMODE") (value.Name mode_name) None empty))

abbrev alarm_block : ℕ → ℕ → Block
alarm_block number cycle =
    plain (codes "COUNTER") (value.Name counter_name) None
    (braced (codes "ACTION") (value.Name (codes "ACTIVATETASK")) (action_block number) None
    (braced (codes "AUTOSTART") (value.Bool true) (start_block cycle) None empty))

abbrev written_task : DemoTask → WrittenObject
written_task task = record { kind = codes "TASK"; name = task_name task.number; block = Some (task_block task.number); description = None }

abbrev written_alarm : DemoTask → WrittenObject
written_alarm task = record { kind = codes "ALARM"; name = alarm_name task.number; block = Some (alarm_block task.number task.cycle); description = None }

abbrev written : List DemoTask → List WrittenObject
written tasks = bare (codes "APPMODE") mode_name ∷ bare (codes "COUNTER") counter_name ∷ map written_task tasks ++ map written_alarm tasks

abbrev the_file : List DemoTask → File
the_file tasks = record {
  version = codes "2.5";
  version_description = None;
  implementation = None;
  cpu = codes "Demo";
  objects = written tasks;
  description = None;
}

-- ---- Their tree

objects_append : (xs ys : List WrittenObject) → objects_of (xs ++ ys) ≡ objects_of xs ++ objects_of ys
unfolding objects_of
objects_append [] ys = refl
objects_append (x ∷ xs) ys = rw (objects_append xs ys) refl

tasks_tree : (tasks : List DemoTask) → objects_of (map written_task tasks) ≡ map demo.task_object tasks
unfolding objects_of attributes_of
tasks_tree [] = refl
tasks_tree (task ∷ tasks) = rw (tasks_tree tasks) refl

alarms_tree : (tasks : List DemoTask) → objects_of (map written_alarm tasks) ≡ map demo.alarm_object tasks
unfolding objects_of attributes_of
alarms_tree [] = refl
alarms_tree (task ∷ tasks) = rw (alarms_tree tasks) refl

file_tree : (tasks : List DemoTask) → tree_of (the_file tasks) ≡ the_tree tasks
unfolding objects_of attributes_of
file_tree tasks =
    let both : objects_of (map written_task tasks ++ map written_alarm tasks) ≡ map demo.task_object tasks ++ map demo.alarm_object tasks =
    rw (objects_append (map written_task tasks) (map written_alarm tasks), tasks_tree tasks, alarms_tree tasks) refl in
    ap (λ objects. record { version = codes "2.5"; cpu = codes "Demo"; objects = demo.mode_object ∷ demo.counter_object ∷ objects }) both

-- ---- They are written as they may be

objects_may : (xs ys : List WrittenObject) → AreObjects depth_limit xs → AreObjects depth_limit ys → AreObjects depth_limit (xs ++ ys)
unfolding AreObjects
objects_may [] ys first then = then
objects_may (x ∷ xs) ys first then = (first.0, objects_may xs ys first.1 then)

tasks_may : (tasks : List DemoTask) → AreObjects depth_limit (map written_task tasks)
unfolding AreObjects IsBlock
tasks_may [] = tt
tasks_may (task ∷ tasks) = ((tt, tt), tasks_may tasks)

no_word : (name : List ℕ) → (name ≡ codes "TRUE" → ⊥) → (name ≡ codes "FALSE" → ⊥) → (name ≡ codes "AUTO" → ⊥) → IsNoWord name
no_word name a b c = record { not_true = a; not_false = b; not_auto = c }

second_differs : codes "ACTIVATETASK" ≡ codes "AUTO" → ⊥
second_differs is = let others : codes "CTIVATETASK" ≡ codes "UTO" = cc in other_first _ _ _ _ others (λ h. omega (arith, h))

alarm_may : (number cycle : ℕ) → IsBlock depth_limit 1 (alarm_block number cycle)
unfolding IsBlock
alarm_may number cycle =
    let counter = no_word counter_name (λ is. other_first _ _ _ _ is (λ h. omega (arith, h))) (λ is. other_first _ _ _ _ is (λ h. omega (arith, h)))
    (λ is. other_first _ _ _ _ is (λ h. omega (arith, h))) in
    let action = no_word (codes "ACTIVATETASK") (λ is. other_first _ _ _ _ is (λ h. omega (arith, h))) (λ is. other_first _ _ _ _ is (λ h. omega (arith, h)))
    (λ is. second_differs is) in
    let mode = no_word mode_name (λ is. other_first _ _ _ _ is (λ h. omega (arith, h))) (λ is. other_first _ _ _ _ is (λ h. omega (arith, h)))
    (λ is. other_first _ _ _ _ is (λ h. omega (arith, h))) in
    (counter, (action, omega arith, (task_is_no_word number, tt), (tt, omega arith, (tt, (tt, (mode, tt))), tt)))

alarms_may : (tasks : List DemoTask) → AreObjects depth_limit (map written_alarm tasks)
unfolding AreObjects
alarms_may [] = tt
alarms_may (task ∷ tasks) = (alarm_may task.number task.cycle, alarms_may tasks)

file_may : (tasks : List DemoTask) → IsFile depth_limit (the_file tasks)
unfolding AreObjects IsBlock
file_may tasks = (tt, (tt, objects_may (map written_task tasks) (map written_alarm tasks) (tasks_may tasks) (alarms_may tasks)))

-- ---- How names, numbers, blocks and objects are spelled

every_of : (p : ℕ → Bool) (bytes : List ℕ) → list_all p bytes ≡ true → Every p bytes
every_of p [] all = tt
every_of p (b ∷ bytes) all = ((and_parts _ _ all).0, every_of p bytes (and_parts _ _ all).1)

literal : (name : List ℕ) → is_name name ≡ true → IsName name
literal [] is = absurd cc
literal (first ∷ others) is = record {
  first = first;
  others = others;
  same = refl;
  letter = (and_parts _ _ is).0;
  name_bytes = every_of is_name_byte others (and_parts _ _ is).1;
}

abbrev IsSpelled : Value → Type 0
IsSpelled v = (bytes : List ℕ) × Spells (value_token v) bytes

named : (name : List ℕ) → IsName name → IsSpelled (value.Name name)
named name is = (name, λ rest. first_name name 32 rest is refl)

numbered : (size : ℕ) → size < 2 ^ 64 → IsSpelled (value.Number false size)
numbered size fits = (decimal size, λ rest. first_number false size 32 rest fits refl)

truth : IsSpelled (value.Bool true)
truth = (codes "TRUE", λ rest. first_name (codes "TRUE") 32 rest (literal (codes "TRUE") refl) refl)

-- `}` and `;` before the tokens: what ends a block
abbrev closing : List Token → List Token
closing tokens = drop 4 (block_tokens (braced [] value.Auto empty None empty) tokens)

closing_spelled : (tokens : List Token) → AreSpelled tokens → AreSpelled (closing tokens)
unfolding block_tokens
closing_spelled tokens are = ((125 ∷ [], λ rest. first_close (32 ∷ rest)), ((59 ∷ [], λ rest. first_semicolon (32 ∷ rest)), are))

-- the tokens of a block, whatever follows it
abbrev IsSpelledBlock : Block → Type 0
IsSpelledBlock block = (follow : List Token) → AreSpelled follow → AreSpelled (block_tokens block follow)

empty_spelled : IsSpelledBlock empty
unfolding block_tokens
empty_spelled follow are = are

plain_spelled : (name : List ℕ) (v : Value) (others : Block) → is_name name ≡ true → IsSpelled v → IsSpelledBlock others → IsSpelledBlock (plain name v None others)
unfolding block_tokens
plain_spelled name v others is spelled later follow are = (
  named name (literal name is),
  ((61 ∷ [], λ rest. first_equals (32 ∷ rest)), (spelled, ((59 ∷ [], λ rest. first_semicolon (32 ∷ rest)), later follow are))),
)

braced_spelled : (name : List ℕ) (v : Value) (inner others : Block) → is_name name ≡ true → IsSpelled v → IsSpelledBlock inner → IsSpelledBlock others
    → IsSpelledBlock (braced name v inner None others)
unfolding block_tokens
braced_spelled name v inner others is spelled within later follow are =
    let end = closing_spelled (block_tokens others follow) (later follow are) in (
      named name (literal name is),
      (
        (61 ∷ [], λ rest. first_equals (32 ∷ rest)),
        (spelled, ((123 ∷ [], λ rest. first_open (32 ∷ rest)), within (closing (block_tokens others follow)) end)),
      ),
    )

-- an object, whatever objects follow it
abbrev IsSpelledObject : WrittenObject → Type 0
IsSpelledObject object =
    (others : List WrittenObject) (follow : List Token) → AreSpelled (objects_tokens others follow) → AreSpelled (objects_tokens (object ∷ others) follow)

object_spelled : (kind name : List ℕ) (block : Block) → is_name kind ≡ true → IsName name → IsSpelledBlock block
    → IsSpelledObject (record { kind = kind; name = name; block = Some block; description = None })
unfolding objects_tokens block_tokens
object_spelled kind name block is is' within others follow are =
    let end = closing_spelled (objects_tokens others follow) are in
    (named kind (literal kind is), (named name is', ((123 ∷ [], λ rest. first_open (32 ∷ rest)), within (closing (objects_tokens others follow)) end)))

-- ---- The tokens of the system

-- what is drawn can be written
abbrev pub IsWritten : DemoTask → Type 0
IsWritten task = (task.number < 8) × (task.cycle < 2 ^ 64)

task_spelled : (task : DemoTask) → IsWritten task → IsSpelledObject (written_task task)
task_spelled task is =
    object_spelled (codes "TASK") (task_name task.number) (task_block task.number) refl (task_is_name task.number is.0)
    (plain_spelled (codes "PRIORITY") _ empty refl (numbered (task.number + 1) (omega (arith, is.0))) empty_spelled)

start_spelled : (cycle : ℕ) → cycle < 2 ^ 64 → IsSpelledBlock (start_block cycle)
start_spelled cycle fits =
    plain_spelled (codes "ALARMTIME") _ _ refl (numbered 0 (omega arith))
    (plain_spelled (codes "CYCLETIME") _ _ refl (numbered cycle fits)
    (plain_spelled (codes "APPMODE") _ _ refl (named mode_name (literal mode_name refl)) empty_spelled))

alarm_spelled : (task : DemoTask) → IsWritten task → IsSpelledObject (written_alarm task)
alarm_spelled task is =
    object_spelled (codes "ALARM") (alarm_name task.number) (alarm_block task.number task.cycle) refl (alarm_is_name task.number is.0)
    (plain_spelled (codes "COUNTER") _ _ refl (named counter_name (literal counter_name refl))
    (braced_spelled (codes "ACTION") _ (action_block task.number) _ refl (named (codes "ACTIVATETASK") (literal (codes "ACTIVATETASK") refl))
    (plain_spelled (codes "TASK") _ _ refl (named (task_name task.number) (task_is_name task.number is.0)) empty_spelled)
    (braced_spelled (codes "AUTOSTART") _ (start_block task.cycle) _ refl truth (start_spelled task.cycle is.1) empty_spelled)))

objects_spelled : (written : DemoTask → WrittenObject) → ((task : DemoTask) → IsWritten task → IsSpelledObject (written task))
    → (tasks : List DemoTask) (others : List WrittenObject) (follow : List Token) → AllByRecursion IsWritten tasks → AreSpelled (objects_tokens others follow)
    → AreSpelled (objects_tokens (map written tasks ++ others) follow)
objects_spelled written spelled [] others follow each are = are
objects_spelled written spelled (task ∷ tasks) others follow each are =
    spelled task each.0 (map written tasks ++ others) follow (objects_spelled written spelled tasks others follow each.1 are)

all_spelled : (tasks : List DemoTask) (follow : List Token) → AllByRecursion IsWritten tasks → AreSpelled follow → AreSpelled (objects_tokens (written tasks) follow)
unfolding objects_tokens
all_spelled tasks follow each are =
    let alarms = objects_spelled written_alarm alarm_spelled tasks [] follow each are in
    let both = objects_spelled written_task task_spelled tasks (map written_alarm tasks) follow each
    (subst (λ objects. AreSpelled (objects_tokens objects follow)) (append-nil (map written_alarm tasks)) alarms) in
    let others = map written_task tasks ++ map written_alarm tasks in
    object_spelled (codes "APPMODE") mode_name empty refl (literal mode_name refl) empty_spelled (bare (codes "COUNTER") counter_name ∷ others) follow
    (object_spelled (codes "COUNTER") counter_name empty refl (literal counter_name refl) empty_spelled others follow both)

file_spelled : (tasks : List DemoTask) → AllByRecursion IsWritten tasks → AreSpelled (file_tokens (the_file tasks))
unfolding block_tokens
file_spelled tasks each = (
  named (codes "OIL_VERSION") (literal (codes "OIL_VERSION") refl),
  (
    (61 ∷ [], λ rest. first_equals (32 ∷ rest)),
    (
      (quoted_layout (codes "2.5"), λ rest. first_text (codes "2.5") (32 ∷ rest) (refl, (refl, (refl, tt)))),
      (
        (59 ∷ [], λ rest. first_semicolon (32 ∷ rest)),
        (
          named (codes "CPU") (literal (codes "CPU") refl),
          (named (codes "Demo") (literal (codes "Demo") refl), ((123 ∷ [], λ rest. first_open (32 ∷ rest)), all_spelled tasks (closing []) each (closing_spelled [] tt))),
        ),
      ),
    ),
  ),
)

-- ---- The tree has a text

pub well_formed : (tasks : List DemoTask) → AllByRecursion IsWritten tasks → IsWellFormed (the_tree tasks)
well_formed tasks each =
    let text = are_tokens (file_tokens (the_file tasks)) (file_spelled tasks each) in
    (32 ∷ text.0, record { file = the_file tasks; is_file = file_may tasks; tokens = text.1; same = file_tree tasks })
