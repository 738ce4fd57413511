-- The texts of a generated system declare it, and its plant.
use Rattle.std.proofs.Common.{ℕ, ◌^◌, ◌<◌, List, map, All, Ok, refl, arith}
use Rattle.std.proofs.lemmas.List.Elements.{All-from_recursion, All-map}
use Rattle.json_fields.specs.Files.{IsGiven}
use Rattle.timing_file.specs.declared.fault.TimingKind.TheVariants as timing_kinds
use Rattle.timing_file.specs.Timing.{timing_in}
use Rattle.elf_image.specs.declared.symbol.Symbol.{Symbol}
use Rattle.elf_image.specs.Elf.{IsImageOf}
use Rattle.elf_image.specs.Plain.{plain_file}
use Rattle.elf_image.proofs.PlainImage.{plain_file_is_image}
use Rattle.oil_grammar.specs.Grammar.{IsTextOf}
use Rattle.oil_grammar.specs.Layout.{layout_of}
use Rattle.oil_grammar.proofs.Again.{text_again}
use Rattle.wcet_atomic_blocks.specs.Plants.{PlantData}
use Rattle.inputs.proofs.Declared.{DeclarePlant}
use Rattle.bound_commands.proofs.ReadAgain.{read_text}
use Rattle.demo_gen.specs.declared.task.DemoTask.{DemoTask}
use Rattle.demo_gen.specs.Draws.{base, tasks_of}
use Rattle.demo_gen.specs.Demo.{words_of, symbol_of, the_tree, the_image, the_system, the_timing}
use Rattle.demo_gen.specs.Texts.{timing_data, timing_text, the_demo}
use Rattle.demo_gen.specs.Working.Drawn.{AreDrawn}
use Rattle.demo_gen.proofs.NoFault.{no_fault}
use Rattle.demo_gen.proofs.Ranges.{are_drawn, each_task, is_plain, all_written}
use Rattle.demo_gen.proofs.SystemOf.{same_system}
use Rattle.demo_gen.proofs.TimingText.{read_again}
use Rattle.demo_gen.proofs.TreeText.{well_formed}
use Rattle.demo_runs.specs.Laws.{IsDemoPlant}
use Rattle.demo_command.proofs.TimingAgain.{timing_reads}

tree_again : (tasks : List DemoTask) → AreDrawn tasks → IsTextOf (the_tree tasks) (layout_of (the_tree tasks))
tree_again tasks drawn =
    let formed = well_formed tasks (all_written tasks drawn) in
    text_again (the_tree tasks) formed.0 formed.1

image_again : (tasks : List DemoTask) → AreDrawn tasks → IsImageOf (plain_file base (words_of tasks) (map symbol_of tasks)) (the_image tasks)
image_again tasks drawn =
    let low = each_task (λ (t : DemoTask). t.entry < 2 ^ 32) (λ number entry task early low is. omega (arith, is.entry_is, low)) 0 base tasks
    (omega (arith, drawn.few)) (omega arith) drawn.follow in
    plain_file_is_image base (words_of tasks) (map symbol_of tasks) (is_plain tasks drawn) (omega arith)
    (All-map (λ (symbol : Symbol). symbol.value < 2 ^ 32) symbol_of tasks (All-from_recursion (λ (t : DemoTask). t.entry < 2 ^ 32) tasks low))

timing_again : (tasks : List DemoTask) → AreDrawn tasks → IsGiven timing_kinds.Json timing_in (timing_text tasks) (Ok (the_timing tasks))
timing_again tasks drawn =
    let small = each_task (λ (t : DemoTask). t.bound < 2 ^ 64) (λ number entry task early low is. omega (arith, is.bound)) 0 base tasks
    (omega (arith, drawn.few)) (omega arith) drawn.follow in
    let back = timing_reads tasks small in
    read_again tasks (timing_data tasks) _ drawn refl back.text (λ _. read_text 3 (timing_data tasks) (omega arith) back)

pub demo_declares : (seed count : ℕ) (plant : PlantData) → IsDemoPlant seed count plant
    → DeclarePlant plant (the_demo seed count).oil (the_demo seed count).elf (the_demo seed count).timing
demo_declares seed count plant is =
    let tasks : List DemoTask = tasks_of seed count in
    let drawn : AreDrawn tasks = are_drawn seed count is.some is.few in
    record {
      declared = record {
        tree = the_tree tasks;
        is_text = tree_again tasks drawn;
        system = the_system tasks;
        system_is = record { sound = no_fault tasks drawn; same = same_system tasks drawn };
        image = the_image tasks;
        image_is = image_again tasks drawn;
        times = the_timing tasks;
        times_are = timing_again tasks drawn;
      };
      plant_is = is.plant_is;
    }
