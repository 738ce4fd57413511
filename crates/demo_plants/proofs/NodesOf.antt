-- The nodes of a generated system: each word of each task, without open calls. None has a fault, and edges stay
-- among them.
use Rattle.std.proofs.Common.{◌≡◌, ◌⊎◌, ◌≢◌, ℕ, zero, suc, ◌+◌, ◌-◌, ◌*◌, ◌%◌, ◌^◌, ◌<◌, ◌≤◌, ℤ, pos, negsuc, Bool, true, false, cond, List, [], ◌∷◌, ◌++◌, length, map, Option, Some, None, inl, inr, refl, sym, ap, ◌∙◌, subst, arith}
use Rattle.std.specs.Prelude.{slice_get, nat_le, nat_eq, option_map, ◌&&◌, ◌||◌}
use Rattle.std.specs.List.{list_any}
use Rattle.std.proofs.lemmas.Bool.{cases_lt, le-leb, lt-leb, eq-eqb, ne_eqb}
use Rattle.std.proofs.lemmas.Option.{same_Some}
use Rattle.rv32_decode.specs.declared.instruction.Insn.{Insn}
use Rattle.rv32_decode.specs.declared.instruction.Insn.TheVariants.{Jalr, Ecall}
use Rattle.rv32_machine.specs.Execution.{following, moved}
use Rattle.rv32_machine.specs.declared.turns.ServiceAt.{ServiceAt}
use Rattle.rv32_machine.specs.declared.turns.Turn.TheVariants.{Serving}
use Rattle.rv32_machine.specs.Places.{service_at, pair_at, turn_at, is_middle, preceding}
use Rattle.oil_model.specs.declared.system.System.{System}
use Rattle.timing_file.specs.declared.timing.Loop.{Loop}
use Rattle.flow_graph.specs.declared.edge.Edge.{Edge}
use Rattle.flow_graph.specs.declared.edge.EdgeKind.TheVariants as kinds
use Rattle.flow_graph.specs.declared.fault.CodeKind.{CodeKind}
use Rattle.flow_graph.specs.declared.fault.CodeKind.TheVariants.{UncoveredBack}
use Rattle.flow_graph.specs.declared.node.Node.{Node}
use Rattle.flow_graph.specs.Faults.{entry_in, begins_at_middle, covers_back, fault_of, Leads}
use Rattle.flow_graph.specs.Graph.{Program, next_node, node_at, edge_to, edges_of}
use Rattle.flow_graph.proofs.Places.{service_words, pair_words}
use Rattle.demo_gen.specs.declared.task.DemoTask.{DemoTask}
use Rattle.demo_gen.specs.Demo.{add, back, tail_of, code_of, loop_of}
use Rattle.demo_plants.proofs.CodeOf.{at, IsPlaced, step_at, tail_at, each_at}

pub never : {A : Type 0} {x : A} → ◌≡◌ {A = Option A} None (Some x) → ⊥
never is = absurd cc

-- ---- Words that are no service's third word and no pair's second

pub record IsPlain (insn : Insn) : Type 0 where
  pub no_call : insn ≡ Ecall → ⊥
  pub no_jump : (rd rs1 : ℕ) (offset : ℤ) → insn ≡ Jalr rd rs1 offset → ⊥

pub add_plain : (rd rs1 : ℕ) (imm : ℤ) → IsPlain (add rd rs1 imm)
add_plain rd rs1 imm = record { no_call = λ is. absurd cc; no_jump = λ rd' rs1' offset is. absurd cc }

pub back_plain : IsPlain (back 6)
back_plain = record { no_call = λ is. absurd cc; no_jump = λ rd' rs1' offset is. absurd cc }

none_if : {A : Type 0} (o : Option A) → ((x : A) → o ≡ Some x → ⊥) → o ≡ None
none_if None never = refl
none_if (Some x) never = absurd (never x refl)

pub no_service : (code : ℕ → Option Insn) (a : ℕ) (insn : Insn) → code a ≡ Some insn → IsPlain insn → service_at code a ≡ None
no_service code a insn here is = none_if (service_at code a) (λ s found. is.no_call (same_Some insn Ecall (sym here ∙ (service_words code a s found).third)))

no_pair : (code : ℕ → Option Insn) (a : ℕ) (insn : Insn) → code a ≡ Some insn → IsPlain insn → pair_at code a ≡ None
no_pair code a insn here is =
    none_if (pair_at code a)
    (λ p found. let words = pair_words code a p found in is.no_jump words.rd p.register words.offset (same_Some insn (Jalr words.rd p.register words.offset) (sym here ∙ words.second_is)))

not_middle : (code : ℕ → Option Insn) (a : ℕ) (insn next : Insn) → code a ≡ Some insn → code (following a) ≡ Some next → IsPlain insn → IsPlain next → is_middle code a ≡ false
not_middle code a insn next here there is is' =
    rw (no_service code (following a) next there is', no_service code a insn here is, no_pair code a insn here is) refl

-- ---- The program of a generated system

pub record IsDemo (program : Program) (tasks : List DemoTask) : Type 0 where
  pub placed : (number : ℕ) (task : DemoTask) → slice_get tasks number ≡ Some task → IsPlaced program.code program.has_word task
  pub entries : (context : ℕ) → entry_in program.entries context ≡ option_map (λ (task : DemoTask). task.entry) (slice_get tasks context)
  pub loops : program.loops ≡ map loop_of tasks

-- the node stands at a word of a task
pub record IsInTask (tasks : List DemoTask) (node : Node) : Type 0 where
  pub task : DemoTask
  pub there : slice_get tasks node.context ≡ Some task
  pub no_calls : node.sites ≡ []
  pub place : ℕ
  pub below : place < task.steps + 6
  pub address_is : node.address ≡ at task place

-- ---- Addresses

pub next_address : (task : DemoTask) (place : ℕ) → task.entry + 4 * (task.steps + 6) ≤ 0x1340 → place < task.steps + 6 → following (at task place) ≡ at task (place + 1)
next_address task place high below = omega arith

pub address_before : (task : DemoTask) (place : ℕ) → task.entry + 4 * (task.steps + 6) ≤ 0x1340 → place + 1 < task.steps + 6 → preceding (at task (place + 1)) ≡ at task place
address_before task place high below = omega arith

pub back_address : (task : DemoTask) (place : ℕ) → task.entry + 4 * (task.steps + 6) ≤ 0x1340 → place + 1 < task.steps + 6
    → moved (at task (place + 1)) (negsuc 3) ≡ at task place
back_address task place high below = omega arith

-- ---- What holds of a node

abbrev pub nowhere : Edge Node
nowhere = record { to = None; kind = kinds.Service }

-- the service there is TerminateTask
pub record Terminates (program : Program) (node : Node) (service : ServiceAt) : Type 0 where
  pub is : service ≡ record { number = 2; argument = 0 }
  pub edges : edges_of program.code node ≡ nowhere ∷ []

pub record IsGood (program : Program) (tasks : List DemoTask) (node : Node) : Type 0 where
  pub ends : (service : ServiceAt) → service_at program.code node.address ≡ Some service → Terminates program node service
  pub fault : fault_of program node ≡ None
  pub stays : (number : ℕ) (edge : Edge Node) (next : Node) → slice_get (edges_of program.code node) number ≡ Some edge → edge.to ≡ Some next → IsInTask tasks next

pub only_edge : (edges : List (Edge Node)) (x edge : Edge Node) (number : ℕ) → edges ≡ x ∷ [] → slice_get edges number ≡ Some edge → x ≡ edge
only_edge edges x edge number are at = at_one number (subst (λ es. slice_get es number ≡ Some edge) are at)
  where
    at_one : (n : ℕ) → slice_get (x ∷ []) n ≡ Some edge → x ≡ edge
    at_one zero is = same_Some x edge is
    at_one (suc n) is = absurd cc

pub either_edge : (edges : List (Edge Node)) (x y edge : Edge Node) (number : ℕ) → edges ≡ x ∷ y ∷ [] → slice_get edges number ≡ Some edge → (x ≡ edge) ⊎ (y ≡ edge)
either_edge edges x y edge number are at = at_two number (subst (λ es. slice_get es number ≡ Some edge) are at)
  where
    at_two : (n : ℕ) → slice_get (x ∷ y ∷ []) n ≡ Some edge → (x ≡ edge) ⊎ (y ≡ edge)
    at_two zero is = inl (same_Some x edge is)
    at_two (suc zero) is = inr (same_Some y edge is)
    at_two (suc (suc n)) is = absurd cc

-- an edge that leads to a node of a task
leads_to : (tasks : List DemoTask) (x edge : Edge Node) (node next : Node) → x ≡ edge → x.to ≡ Some node → edge.to ≡ Some next → IsInTask tasks node → IsInTask tasks next
leads_to tasks x edge node next is to arrives inside =
    subst (IsInTask tasks) (same_Some node next (sym to ∙ (ap (λ (e : Edge Node). e.to) is ∙ arrives))) inside

first_or : (a b : Bool) → a ≡ true → (a || b) ≡ true
first_or true b is = refl
first_or false b is = absurd cc

later_or : (a b : Bool) → b ≡ true → (a || b) ≡ true
later_or true b is = refl
later_or false b is = is

-- a node at an instruction that just goes on
onward_good : (program : Program) (tasks : List DemoTask) (node : Node) (rd rs1 : ℕ) (imm : ℤ) → program.has_word node.address ≡ true
    → program.code node.address ≡ Some (add rd rs1 imm) → begins_at_middle program node ≡ false → node.address < following node.address
    → IsInTask tasks (next_node node) → IsGood program tasks node
onward_good program tasks node rd rs1 imm word here begins later next =
    let edges : edges_of program.code node ≡ edge_to kinds.Straight (next_node node) ∷ [] = rw here refl in
    record {
      ends = λ s found. absurd (never (sym (no_service program.code node.address (add rd rs1 imm) here (add_plain rd rs1 imm)) ∙ found));
      fault = rw (word, here, begins, lt-leb (following node.address) node.address later) refl;
      stays = λ number edge to leaves arrives.
          leads_to tasks (edge_to kinds.Straight (next_node node)) edge (next_node node) to
          (only_edge (edges_of program.code node) (edge_to kinds.Straight (next_node node)) edge number edges leaves) refl arrives next;
    }

none_either : (b : Bool) → cond {A = Option CodeKind} (b && false || false) (Some UncoveredBack) None ≡ None
none_either true = refl
none_either false = refl

-- a node at the branch of a loop
branch_good : (program : Program) (tasks : List DemoTask) (node : Node) → program.has_word node.address ≡ true
    → program.code node.address ≡ Some (back 6) → begins_at_middle program node ≡ false → node.address < following node.address
    → is_middle program.code (following node.address) ≡ false → is_middle program.code (moved node.address (negsuc 3)) ≡ false
    → list_any (covers_back node.address (moved node.address (negsuc 3))) program.loops ≡ true
    → IsInTask tasks (next_node node) → IsInTask tasks (node_at node (moved node.address (negsuc 3))) → IsGood program tasks node
branch_good program tasks node word here begins later quiet quiet' covered next again =
    let target = node_at node (moved node.address (negsuc 3)) in
    let untaken = edge_to kinds.Straight (next_node node) in
    let taken = edge_to kinds.Taken target in
    let edges : edges_of program.code node ≡ untaken ∷ taken ∷ [] = rw here refl in
    record {
      ends = λ s found. absurd (never (sym (no_service program.code node.address (back 6) here back_plain) ∙ found));
      fault = rw (word, here, begins, quiet, quiet', lt-leb (following node.address) node.address later, covered)
          (none_either (nat_le (moved node.address (negsuc 3)) node.address));
      stays = λ number edge to leaves arrives. elim (either_edge (edges_of program.code node) untaken taken edge number edges leaves) [
        | inl is ↦ leads_to tasks untaken edge (next_node node) to is refl arrives next
        | inr is ↦ leads_to tasks taken edge target to is refl arrives again
      ];
    }

-- a node at the call that ends a task
call_good : (program : Program) (tasks : List DemoTask) (node : Node) → program.has_word node.address ≡ true
    → program.code node.address ≡ Some Ecall → begins_at_middle program node ≡ false
    → service_at program.code node.address ≡ Some (record { number = 2; argument = 0 }) → IsGood program tasks node
call_good program tasks node word here begins service =
    let edges : edges_of program.code node ≡ nowhere ∷ [] = rw (service, here) refl in
    let turn : turn_at program.code node.address ≡ Some Serving = rw here refl in
    record {
      ends = λ s found. record { is = sym (same_Some _ s (sym service ∙ found)); edges = edges };
      fault = rw (word, turn, begins, service) refl;
      stays = λ number edge to leaves arrives. let is = only_edge (edges_of program.code node) nowhere edge number edges leaves in
          absurd (never (ap (λ (e : Edge Node). e.to) is ∙ arrives));
    }

-- ---- Entries

never_and : (b : Bool) → (b && false) ≡ false
never_and true = refl
never_and false = refl

begins_quietly : (program : Program) (node : Node) → is_middle program.code node.address ≡ false → begins_at_middle program node ≡ false
begins_quietly program node quiet = rw quiet (never_and _)

begins_elsewhere : (program : Program) (tasks : List DemoTask) (node : Node) → IsDemo program tasks → (inside : IsInTask tasks node) → 0 < inside.place
    → begins_at_middle program node ≡ false
begins_elsewhere program tasks node demo inside later =
    let other : nat_eq node.address inside.task.entry ≡ false = ne_eqb node.address inside.task.entry (λ is. omega (arith, inside.address_is, later, is)) in
    rw (demo.entries node.context, inside.there, inside.no_calls, other) refl

any_at : (test : Loop → Bool) (tasks : List DemoTask) (k : ℕ) (task : DemoTask) → slice_get tasks k ≡ Some task → test (loop_of task) ≡ true
    → list_any test (map loop_of tasks) ≡ true
any_at test [] k task there passes = absurd cc
any_at test (first ∷ tasks) zero task there passes =
    let is : first ≡ task = same_Some first task there in
    rw is (first_or (test (loop_of task)) _ passes)
any_at test (first ∷ tasks) (suc k) task there passes = later_or (test (loop_of first)) _ (any_at test tasks k task there passes)

-- ---- Every word of a task

record IsPlainAt (program : Program) (task : DemoTask) (place : ℕ) : Type 0 where
  insn : Insn
  here : program.code (at task place) ≡ Some insn
  plain : IsPlain insn

-- of all words but the last
plain_at : (program : Program) (task : DemoTask) (place : ℕ) → IsPlaced program.code program.has_word task → place < task.steps + 5 → IsPlainAt program task place
plain_at program task place placed below = by_part (cases_lt place task.steps)
  where
    tail_plain : (r : ℕ) (insn : Insn) → place ≡ task.steps + r → slice_get (tail_of task.bound) r ≡ Some insn → IsPlain insn → IsPlainAt program task place
    tail_plain r insn is stands plain = record {
      insn = insn;
      here = placed.insn place insn (ap (slice_get (code_of task)) is ∙ (tail_at task r ∙ stands));
      plain = plain;
    }

    by_rest : (r : ℕ) → place ≡ task.steps + r → r < 5 → IsPlainAt program task place
    by_rest zero is low = tail_plain 0 (add 6 0 (pos (task.bound + 1))) is refl (add_plain 6 0 (pos (task.bound + 1)))
    by_rest (suc zero) is low = tail_plain 1 (add 6 6 (negsuc 0)) is refl (add_plain 6 6 (negsuc 0))
    by_rest (suc (suc zero)) is low = tail_plain 2 (back 6) is refl back_plain
    by_rest (suc (suc (suc zero))) is low = tail_plain 3 (add 10 0 (pos 0)) is refl (add_plain 10 0 (pos 0))
    by_rest (suc (suc (suc (suc zero)))) is low = tail_plain 4 (add 17 0 (pos 2)) is refl (add_plain 17 0 (pos 2))
    by_rest (suc (suc (suc (suc (suc r))))) is low = absurd (omega arith)

    by_part : (place < task.steps) ⊎ (task.steps ≤ place) → IsPlainAt program task place
    by_part (inl early) = record {
      insn = add 5 5 (pos 1);
      here = placed.insn place (add 5 5 (pos 1)) (step_at task place early);
      plain = add_plain 5 5 (pos 1);
    }
    by_part (inr late) = by_rest (place - task.steps) (omega arith) (omega arith)

quiet_at : (program : Program) (task : DemoTask) (place : ℕ) → IsPlaced program.code program.has_word task → place + 1 < task.steps + 5 → is_middle program.code (at task place) ≡ false
quiet_at program task place placed below =
    let here = plain_at program task place placed (omega arith) in
    let next = plain_at program task (place + 1) placed below in
    not_middle program.code (at task place) here.insn next.insn here.here (ap program.code (next_address task place placed.high (omega arith)) ∙ next.here) here.plain next.plain

service_here : (program : Program) (task : DemoTask) → IsPlaced program.code program.has_word task
    → service_at program.code (at task (task.steps + 5)) ≡ Some (record { number = 2; argument = 0 })
service_here program task placed =
    let before : preceding (at task (task.steps + 5)) ≡ at task (task.steps + 4) = omega (arith, placed.high) in
    let first : preceding (at task (task.steps + 4)) ≡ at task (task.steps + 3) = omega (arith, placed.high) in
    rw (
      before,
      first,
      placed.insn (task.steps + 3) (add 10 0 (pos 0)) (tail_at task 3),
      placed.insn (task.steps + 4) (add 17 0 (pos 2)) (tail_at task 4),
      placed.insn (task.steps + 5) Ecall (tail_at task 5),
    ) refl

pub good : (program : Program) (tasks : List DemoTask) (node : Node) → IsDemo program tasks → IsInTask tasks node → IsGood program tasks node
good program tasks node demo inside = by_part (cases_lt inside.place inside.task.steps)
  where
    task : DemoTask
    task = inside.task

    placed : IsPlaced program.code program.has_word inside.task
    placed = demo.placed node.context inside.task inside.there

    word : program.has_word node.address ≡ true
    word = ap program.has_word inside.address_is ∙ placed.word inside.place inside.below

    later : node.address < following node.address
    later = omega (arith, inside.address_is, placed.high, inside.below)

    here : (insn : Insn) → slice_get (code_of inside.task) inside.place ≡ Some insn → program.code node.address ≡ Some insn
    here insn stands = ap program.code inside.address_is ∙ placed.insn inside.place insn stands

    tail_here : (r : ℕ) (insn : Insn) → inside.place ≡ inside.task.steps + r → slice_get (tail_of inside.task.bound) r ≡ Some insn → program.code node.address ≡ Some insn
    tail_here r insn is stands = here insn (ap (slice_get (code_of inside.task)) is ∙ (tail_at inside.task r ∙ stands))

    begins : begins_at_middle program node ≡ false
    begins = elim (cases_lt 0 inside.place) [
      | inl behind ↦ begins_elsewhere program tasks node demo inside behind
      | inr first ↦ begins_quietly program node
          (ap (is_middle program.code) inside.address_is ∙ quiet_at program inside.task inside.place placed (omega (arith, placed.some, first)))
    ]

    next : inside.place + 1 < inside.task.steps + 6 → IsInTask tasks (next_node node)
    next below = record {
      task = inside.task;
      there = inside.there;
      no_calls = inside.no_calls;
      place = inside.place + 1;
      below = below;
      address_is = ap following inside.address_is ∙ next_address inside.task inside.place placed.high inside.below;
    }

    branch : inside.place ≡ inside.task.steps + 2 → IsGood program tasks node
    branch is =
        let target : moved node.address (negsuc 3) ≡ at inside.task (inside.task.steps + 1) =
        ap (λ a. moved a (negsuc 3)) (inside.address_is ∙ ap (at inside.task) is) ∙ omega (arith, placed.high) in
        let onward : following node.address ≡ at inside.task (inside.task.steps + 3) = omega (arith, inside.address_is, is, placed.high) in
        let from : (loop_of inside.task).from ≤ node.address = omega (arith, inside.address_is, is) in
        let to : node.address ≤ (loop_of inside.task).to = omega (arith, inside.address_is, is) in
        let first : (loop_of inside.task).from ≡ moved node.address (negsuc 3) = omega (arith, target) in
        let covers : covers_back node.address (moved node.address (negsuc 3)) (loop_of inside.task) ≡ true =
        rw (eq-eqb (loop_of inside.task).from (moved node.address (negsuc 3)) first, le-leb (loop_of inside.task).from node.address from, le-leb node.address (loop_of inside.task).to to) refl in
        branch_good program tasks node word (tail_here 2 (back 6) is refl) begins later
        (ap (is_middle program.code) onward ∙ quiet_at program inside.task (inside.task.steps + 3) placed (omega arith))
        (ap (is_middle program.code) target ∙ quiet_at program inside.task (inside.task.steps + 1) placed (omega arith))
        (ap (list_any (covers_back node.address (moved node.address (negsuc 3)))) demo.loops
        ∙ any_at (covers_back node.address (moved node.address (negsuc 3))) tasks node.context inside.task inside.there covers)
        (next (omega (arith, is)))
        (record {
          task = inside.task;
          there = inside.there;
          no_calls = inside.no_calls;
          place = inside.task.steps + 1;
          below = omega arith;
          address_is = target;
        })

    by_rest : (r : ℕ) → inside.place ≡ inside.task.steps + r → r < 6 → IsGood program tasks node
    by_rest zero is low =
        onward_good program tasks node 6 0 (pos (inside.task.bound + 1)) word (tail_here 0 (add 6 0 (pos (inside.task.bound + 1))) is refl) begins later (next (omega (arith, is)))
    by_rest (suc zero) is low = onward_good program tasks node 6 6 (negsuc 0) word (tail_here 1 (add 6 6 (negsuc 0)) is refl) begins later (next (omega (arith, is)))
    by_rest (suc (suc zero)) is low = branch is
    by_rest (suc (suc (suc zero))) is low = onward_good program tasks node 10 0 (pos 0) word (tail_here 3 (add 10 0 (pos 0)) is refl) begins later (next (omega (arith, is)))
    by_rest (suc (suc (suc (suc zero)))) is low =
        onward_good program tasks node 17 0 (pos 2) word (tail_here 4 (add 17 0 (pos 2)) is refl) begins later (next (omega (arith, is)))
    by_rest (suc (suc (suc (suc (suc zero))))) is low =
        call_good program tasks node word (tail_here 5 Ecall is refl) begins
        (ap (service_at program.code) (inside.address_is ∙ ap (at inside.task) is) ∙ service_here program inside.task placed)
    by_rest (suc (suc (suc (suc (suc (suc r)))))) is low = absurd (omega arith)

    by_part : (inside.place < inside.task.steps) ⊎ (inside.task.steps ≤ inside.place) → IsGood program tasks node
    by_part (inl early) =
        onward_good program tasks node 5 5 (pos 1) word (here (add 5 5 (pos 1)) (step_at inside.task inside.place early)) begins later (next (omega (arith, early)))
    by_part (inr late) = by_rest (inside.place - inside.task.steps) (omega arith) (omega (arith, inside.below))
