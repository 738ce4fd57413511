-- The plant of the worked system `Preempted` is one.
use Rattle.std.proofs.Common.{◌≡◌, true, [], ◌∷◌, All, None, refl, lit<, lit≤}
use Rattle.std.specs.Prelude.{slice_get, IsSomeAnd}
use Rattle.std.specs.List.{list_any}
use Rattle.std.specs.List.Sorted.{IsStrictlySortedBy}
use Rattle.std.proofs.lemmas.List.Elements.{All-from_recursion}
use Rattle.std.proofs.lemmas.List.Sums.{count_by-le-length}
use Rattle.rv32_decode.specs.Instructions.{insn_of_word, insn_under, imm_of, branch_of}
use Rattle.rv32_machine.specs.Code.{insn_at}
use Rattle.elf_image.specs.Image.{IsSegment, covers, lies_in}
use Rattle.elf_image.specs.Image.{IsLawful as IsLawfulImage}
use Rattle.oil_model.specs.System.{IsLawful as IsLawfulSystem}
use Rattle.timing_file.specs.Lawful.{IsCost, IsInRange, IsLoop, IsExtra, IsLawful as IsLawfulTiming}
use Rattle.flow_graph.specs.declared.edge.EdgeKind.TheVariants as kinds
use Rattle.flow_graph.specs.Faults.{IsNode, entry, along, fault_of}
use Rattle.flow_graph.specs.Graph.{Program, program_of, node_cmp, edge_to, entries_of}
use Rattle.flow_graph.specs.Judging.{IsGraph}
use Rattle.wcet_atomic_blocks.specs.Blocks.{IsInBlock, begins, along as onward, IsBlock, IsEntryBlock, IsAfter, IsCut}
use Rattle.wcet_atomic_blocks.specs.Plants.{IsEntryNode, HaveBlocks, IsPlant}
use Rattle.activation_windows.specs.Samples.Words.{node, to}
use Rattle.activation_windows.specs.Samples.Preempted.{plant, image, system, timing, flow}
use Rattle.activation_windows.proofs.Samples.Planting.{all_among, members_are, all_held, below, bytes_fit}

abbrev program : Program
program = program_of image system timing

-- ---- The nodes are reached

reached_0 : IsNode program (node 0 [] 0x100)
unfolding insn_at insn_of_word insn_under imm_of branch_of
reached_0 = entry (node 0 [] 0x100) refl

reached_4 : IsNode program (node 1 [] 0x110)
unfolding insn_at insn_of_word insn_under imm_of branch_of
reached_4 = entry (node 1 [] 0x110) refl

reached_1 : IsNode program (node 0 [] 0x104)
unfolding insn_at insn_of_word insn_under imm_of branch_of
reached_1 =
    along (node 0 [] 0x100) (node 0 [] 0x104) reached_0
    (record { faultless = refl; number = 0; edge = edge_to kinds.Straight (node 0 [] 0x104); leaves = refl; arrives = refl })

reached_5 : IsNode program (node 1 [] 0x114)
unfolding insn_at insn_of_word insn_under imm_of branch_of
reached_5 =
    along (node 1 [] 0x110) (node 1 [] 0x114) reached_4
    (record { faultless = refl; number = 0; edge = edge_to kinds.Straight (node 1 [] 0x114); leaves = refl; arrives = refl })

reached_2 : IsNode program (node 0 [] 0x108)
unfolding insn_at insn_of_word insn_under imm_of branch_of
reached_2 =
    along (node 0 [] 0x104) (node 0 [] 0x108) reached_1
    (record { faultless = refl; number = 0; edge = edge_to kinds.Straight (node 0 [] 0x108); leaves = refl; arrives = refl })

reached_6 : IsNode program (node 1 [] 0x118)
unfolding insn_at insn_of_word insn_under imm_of branch_of
reached_6 =
    along (node 1 [] 0x114) (node 1 [] 0x118) reached_5
    (record { faultless = refl; number = 0; edge = edge_to kinds.Straight (node 1 [] 0x118); leaves = refl; arrives = refl })

reached_3 : IsNode program (node 0 [] 0x10c)
unfolding insn_at insn_of_word insn_under imm_of branch_of
reached_3 =
    along (node 0 [] 0x108) (node 0 [] 0x10c) reached_2
    (record { faultless = refl; number = 0; edge = edge_to kinds.Straight (node 0 [] 0x10c); leaves = refl; arrives = refl })

reached : All (IsNode program) flow.nodes
reached = All-from_recursion (IsNode program) flow.nodes (reached_0, (reached_1, (reached_2, (reached_3, (reached_4, (reached_5, (reached_6, tt)))))))

ordered : IsStrictlySortedBy node_cmp flow.nodes
unfolding IsStrictlySortedBy
ordered = (
  (refl, (refl, (refl, (refl, (refl, (refl, tt)))))),
  (
    (refl, (refl, (refl, (refl, (refl, tt))))),
    (
      (refl, (refl, (refl, (refl, tt)))),
      ((refl, (refl, (refl, tt))), ((refl, (refl, tt)), ((refl, tt), (tt, tt)))),
    ),
  ),
)

faultless : All (λ n. fault_of program n ≡ None) flow.nodes
unfolding insn_at insn_of_word insn_under imm_of branch_of
faultless = All-from_recursion (λ n. fault_of program n ≡ None) flow.nodes (refl, (refl, (refl, (refl, (refl, (refl, (refl, tt)))))))

-- ---- The graph

graph : IsGraph program flow
unfolding insn_at insn_of_word insn_under imm_of branch_of
graph = record {
  nodes = record { are = record { order = ordered; reached = reached }; all = all_among program flow.nodes refl refl; few = lit≤ tt };
  faultless = faultless;
  leaving = (
    record { service_is = refl; edges_are = (record { kind_is = refl; to_is = refl }, tt) },
    (
      record { service_is = refl; edges_are = (record { kind_is = refl; to_is = refl }, tt) },
      (
        record { service_is = refl; edges_are = (record { kind_is = refl; to_is = refl }, tt) },
        (
          record { service_is = refl; edges_are = (record { kind_is = refl; to_is = tt }, tt) },
          (
            record { service_is = refl; edges_are = (record { kind_is = refl; to_is = refl }, tt) },
            (
              record { service_is = refl; edges_are = (record { kind_is = refl; to_is = refl }, tt) },
              (record { service_is = refl; edges_are = (record { kind_is = refl; to_is = tt }, tt) }, tt),
            ),
          ),
        ),
      ),
    ),
  );
}

-- ---- The blocks

in_0_0 : IsInBlock flow 0 0
in_0_0 = begins 0 refl

in_0_1 : IsInBlock flow 0 1
in_0_1 = onward 0 1 in_0_0 refl (record { number = 0; edge = to kinds.Straight 1; leaves = refl; arrives = refl })

in_0_2 : IsInBlock flow 0 2
in_0_2 = onward 1 2 in_0_1 refl (record { number = 0; edge = to kinds.Straight 2; leaves = refl; arrives = refl })

in_0_3 : IsInBlock flow 0 3
in_0_3 = onward 2 3 in_0_2 refl (record { number = 0; edge = to kinds.Straight 3; leaves = refl; arrives = refl })

in_1_4 : IsInBlock flow 4 4
in_1_4 = begins 4 refl

in_1_5 : IsInBlock flow 4 5
in_1_5 = onward 4 5 in_1_4 refl (record { number = 0; edge = to kinds.Straight 5; leaves = refl; arrives = refl })

in_1_6 : IsInBlock flow 4 6
in_1_6 = onward 5 6 in_1_5 refl (record { number = 0; edge = to kinds.Straight 6; leaves = refl; arrives = refl })

cut : IsCut flow (0 ∷ 4 ∷ []) plant.blocks
cut = record {
  begin = refl;
  each = All-from_recursion (IsBlock flow) plant.blocks.blocks (
    record {
      room = lit< tt;
      sound = members_are flow 0xf 0 (0 ∷ 1 ∷ 2 ∷ 3 ∷ []) refl (All-from_recursion (λ n. IsInBlock flow 0 n) (0 ∷ 1 ∷ 2 ∷ 3 ∷ []) (
        in_0_0,
        (
          in_0_1,
          (in_0_2, (in_0_3, tt)),
        ),
      ));
      complete = all_held flow 0xf 0 refl refl;
      exits = refl;
    },
    (
      record {
        room = lit< tt;
        sound = members_are flow 0x70 4 (4 ∷ 5 ∷ 6 ∷ []) refl (All-from_recursion (λ n. IsInBlock flow 4 n) (4 ∷ 5 ∷ 6 ∷ []) (
          in_1_4,
          (
            in_1_5,
            (in_1_6, tt),
          ),
        ));
        complete = all_held flow 0x70 4 refl refl;
        exits = refl;
      },
      tt,
    ),
  );
  entry_count = refl;
  entry = below (λ c. IsSomeAnd (slice_get plant.blocks.entries c) (λ number. IsSomeAnd (slice_get plant.blocks.blocks number) (IsEntryBlock c))) 2
      (record { owner = refl; after = refl }, (record { owner = refl; after = refl }, tt));
  after_count = refl;
  after = below (λ n. IsSomeAnd (slice_get plant.blocks.afters n) (IsAfter flow plant.blocks.blocks n)) 7 (
    refl,
    (
      refl,
      (
        refl,
        (
          refl,
          (
            refl,
            (
              refl,
              (refl, tt),
            ),
          ),
        ),
      ),
    ),
  );
}

blocks : HaveBlocks image system flow plant.blocks
blocks = record {
  entries = (0 ∷ 4 ∷ []);
  entered = record {
    count = refl;
    each = below (λ c. IsSomeAnd (slice_get (0 ∷ 4 ∷ []) c) (IsEntryNode (entries_of image system) flow c)) 2 (
      record { node = (node 0 [] 0x100); stands = refl; context_is = refl; is_entry = refl },
      (record { node = (node 1 [] 0x110); stands = refl; context_is = refl; is_entry = refl }, tt),
    );
  };
  cut = cut;
  few = lit≤ tt;
}

-- ---- What it is made of

image_is_lawful : IsLawfulImage image
image_is_lawful = record {
  segments = All-from_recursion IsSegment image.memory (
    record {
      bytes = bytes_fit
          (0x00700293 ∷ 0x00000513 ∷ 0x00200893 ∷ 0x00000073 ∷ 0x00000513 ∷ 0x00200893 ∷ 0x00000073 ∷ []);
      few = lit≤ tt;
      ends = lit≤ tt;
    },
    tt,
  );
  apart = λ address. count_by-le-length (λ segment. covers segment address) image.memory;
  code = All-from_recursion (λ section. list_any (lies_in section) image.memory ≡ true) image.code (refl, tt);
}

system_is_lawful : IsLawfulSystem system
system_is_lawful = record {
  few = record { tasks = lit≤ tt; isrs = lit≤ tt; resources = lit≤ tt; alarms = lit≤ tt; modes = lit≤ tt };
  scheduler_last = record { declared = []; ceiling = 2; same = refl };
  tasks = (record { resources = tt; modes = (lit< tt, tt) }, (record { resources = tt; modes = tt }, tt));
  alarms = (record { counter = lit< tt; task = lit< tt; modes = (lit< tt, tt) }, tt);
  names = record { code = refl; resources = refl; counters = refl; modes = refl };
  apart = record { priorities = refl; code = refl; counters = refl; modes = refl };
}

timing_is_lawful : IsLawfulTiming timing
timing_is_lawful = record {
  classes = record {
    count = refl;
    each = All-from_recursion IsCost timing.classes.costs (
      (lit≤ tt, lit≤ tt),
      (
        (lit≤ tt, lit≤ tt),
        ((lit≤ tt, lit≤ tt), ((lit≤ tt, lit≤ tt), ((lit≤ tt, lit≤ tt), ((lit≤ tt, lit≤ tt), ((lit≤ tt, lit≤ tt), ((lit≤ tt, lit≤ tt), tt)))))),
      ),
    );
  };
  services = record {
    count = refl;
    each = All-from_recursion IsCost timing.services.costs (
      (lit≤ tt, lit≤ tt),
      (
        (lit≤ tt, lit≤ tt),
        (
          (lit≤ tt, lit≤ tt),
          (
            (lit≤ tt, lit≤ tt),
            (
              (lit≤ tt, lit≤ tt),
              (
                (lit≤ tt, lit≤ tt),
                (
                  (lit≤ tt, lit≤ tt),
                  (
                    (lit≤ tt, lit≤ tt),
                    ((lit≤ tt, lit≤ tt), ((lit≤ tt, lit≤ tt), ((lit≤ tt, lit≤ tt), ((lit≤ tt, lit≤ tt), ((lit≤ tt, lit≤ tt), tt))))),
                  ),
                ),
              ),
            ),
          ),
        ),
      ),
    );
  };
  alarm = (lit≤ tt, lit≤ tt);
  interrupt = (lit≤ tt, lit≤ tt);
  taken = (lit≤ tt, lit≤ tt);
  ticks = record { range = All-from_recursion IsInRange timing.ticks ((lit≤ tt, lit< tt), tt); order = refl; once = refl };
  distances = record { range = All-from_recursion IsInRange timing.distances tt; order = refl; once = refl };
  loops = record {
    few = lit≤ tt;
    each = All-from_recursion IsLoop timing.loops tt;
    once = refl;
  };
  extra = record { few = lit≤ tt; each = All-from_recursion IsExtra timing.extra tt; once = refl };
}

pub is_plant : IsPlant plant
is_plant = record {
  image = image_is_lawful;
  system = system_is_lawful;
  timing = timing_is_lawful;
  graph = record { early = refl; graph = graph };
  blocks = blocks;
}
