-- The plant of the worked system `Interrupted` is one.
use Rattle.std.proofs.Common.{◌≡◌, true, false, [], ◌∷◌, refl, lit<, lit≤}
use Rattle.std.specs.Prelude.{codes, slice_get, IsSomeAnd}
use Rattle.std.specs.List.{list_any}
use Rattle.std.proofs.lemmas.List.Elements.{All-from_recursion}
use Rattle.std.proofs.lemmas.List.Sums.{count_by-le-length}
use Rattle.elf_image.specs.Image.{IsSegment, covers, lies_in}
use Rattle.elf_image.specs.Image.{IsLawful as IsLawfulImage}
use Rattle.oil_model.specs.System.{IsLawful as IsLawfulSystem}
use Rattle.timing_file.specs.Lawful.{IsCost, IsInRange, IsLoop, IsExtra, IsLawful as IsLawfulTiming}
use Rattle.flow_graph.specs.declared.edge.EdgeKind.TheVariants as kinds
use Rattle.flow_graph.specs.Graph.{entries_of}
use Rattle.wcet_atomic_blocks.specs.Blocks.{IsInBlock, begins, along as onward, IsBlock, IsEntryBlock, IsAfter, IsCut}
use Rattle.wcet_atomic_blocks.specs.Plants.{IsEntryNode, HaveBlocks, IsPlant}
use Rattle.activation_windows.specs.Samples.Words.{node, to}
use Rattle.activation_windows.specs.Samples.Interrupted.{plant, image, system, timing, flow}
use Rattle.activation_windows.proofs.Samples.Planting.{members_are, all_held, below, bytes_fit}
use Rattle.activation_windows.proofs.Samples.InterruptedGraph.{graph}

-- ---- The blocks

in_0_0 : IsInBlock flow 0 0
in_0_0 = begins 0 refl

in_0_1 : IsInBlock flow 0 1
in_0_1 = onward 0 1 in_0_0 refl (record { number = 0; edge = to kinds.Straight 1; leaves = refl; arrives = refl })

in_0_2 : IsInBlock flow 0 2
in_0_2 = onward 1 2 in_0_1 refl (record { number = 0; edge = to kinds.Straight 2; leaves = refl; arrives = refl })

in_1_3 : IsInBlock flow 3 3
in_1_3 = begins 3 refl

in_1_4 : IsInBlock flow 3 4
in_1_4 = onward 3 4 in_1_3 refl (record { number = 0; edge = to kinds.Straight 4; leaves = refl; arrives = refl })

in_1_5 : IsInBlock flow 3 5
in_1_5 = onward 4 5 in_1_4 refl (record { number = 0; edge = to kinds.Straight 5; leaves = refl; arrives = refl })

in_1_6 : IsInBlock flow 3 6
in_1_6 = onward 5 6 in_1_5 refl (record { number = 0; edge = to kinds.Straight 6; leaves = refl; arrives = refl })

in_1_7 : IsInBlock flow 3 7
in_1_7 = onward 6 7 in_1_6 refl (record { number = 0; edge = to kinds.Straight 7; leaves = refl; arrives = refl })

in_2_8 : IsInBlock flow 8 8
in_2_8 = begins 8 refl

in_2_9 : IsInBlock flow 8 9
in_2_9 = onward 8 9 in_2_8 refl (record { number = 0; edge = to kinds.Straight 9; leaves = refl; arrives = refl })

in_2_10 : IsInBlock flow 8 10
in_2_10 = onward 9 10 in_2_9 refl (record { number = 0; edge = to kinds.Straight 10; leaves = refl; arrives = refl })

in_3_11 : IsInBlock flow 11 11
in_3_11 = begins 11 refl

in_3_12 : IsInBlock flow 11 12
in_3_12 = onward 11 12 in_3_11 refl (record { number = 0; edge = to kinds.Straight 12; leaves = refl; arrives = refl })

in_3_13 : IsInBlock flow 11 13
in_3_13 = onward 12 13 in_3_12 refl (record { number = 0; edge = to kinds.Straight 13; leaves = refl; arrives = refl })

in_4_14 : IsInBlock flow 14 14
in_4_14 = begins 14 refl

in_4_15 : IsInBlock flow 14 15
in_4_15 = onward 14 15 in_4_14 refl (record { number = 0; edge = to kinds.Straight 15; leaves = refl; arrives = refl })

in_4_16 : IsInBlock flow 14 16
in_4_16 = onward 15 16 in_4_15 refl (record { number = 0; edge = to kinds.Straight 16; leaves = refl; arrives = refl })

in_5_17 : IsInBlock flow 17 17
in_5_17 = begins 17 refl

in_5_18 : IsInBlock flow 17 18
in_5_18 = onward 17 18 in_5_17 refl (record { number = 0; edge = to kinds.Straight 18; leaves = refl; arrives = refl })

in_5_19 : IsInBlock flow 17 19
in_5_19 = onward 18 19 in_5_18 refl (record { number = 0; edge = to kinds.Straight 19; leaves = refl; arrives = refl })

cut : IsCut flow (0 ∷ 11 ∷ 14 ∷ []) plant.blocks
cut = record {
  begin = refl;
  each = All-from_recursion (IsBlock flow) plant.blocks.blocks (
    record {
      room = lit< tt;
      sound = members_are flow 0x7 0 (0 ∷ 1 ∷ 2 ∷ []) refl (All-from_recursion (λ n. IsInBlock flow 0 n) (0 ∷ 1 ∷ 2 ∷ []) (in_0_0, (in_0_1, (in_0_2, tt))));
      complete = all_held flow 0x7 0 refl refl;
      exits = refl;
    },
    (
      record {
        room = lit< tt;
        sound = members_are flow 0xf8 3 (3 ∷ 4 ∷ 5 ∷ 6 ∷ 7 ∷ []) refl (All-from_recursion (λ n. IsInBlock flow 3 n) (3 ∷ 4 ∷ 5 ∷ 6 ∷ 7 ∷ [])
            (in_1_3, (in_1_4, (in_1_5, (in_1_6, (in_1_7, tt))))));
        complete = all_held flow 0xf8 3 refl refl;
        exits = refl;
      },
      (
        record {
          room = lit< tt;
          sound = members_are flow 0x700 8 (8 ∷ 9 ∷ 10 ∷ []) refl (All-from_recursion (λ n. IsInBlock flow 8 n) (8 ∷ 9 ∷ 10 ∷ []) (
            in_2_8,
            (
              in_2_9,
              (in_2_10, tt),
            ),
          ));
          complete = all_held flow 0x700 8 refl refl;
          exits = refl;
        },
        (
          record {
            room = lit< tt;
            sound = members_are flow 0x3800 11 (11 ∷ 12 ∷ 13 ∷ []) refl (All-from_recursion (λ n. IsInBlock flow 11 n) (11 ∷ 12 ∷ 13 ∷ []) (
              in_3_11,
              (in_3_12, (in_3_13, tt)),
            ));
            complete = all_held flow 0x3800 11 refl refl;
            exits = refl;
          },
          (
            record {
              room = lit< tt;
              sound = members_are flow 0x1c000 14 (14 ∷ 15 ∷ 16 ∷ []) refl (All-from_recursion (λ n. IsInBlock flow 14 n) (14 ∷ 15 ∷ 16 ∷ [])
                  (in_4_14, (in_4_15, (in_4_16, tt))));
              complete = all_held flow 0x1c000 14 refl refl;
              exits = refl;
            },
            (
              record {
                room = lit< tt;
                sound = members_are flow 0xe0000 17 (17 ∷ 18 ∷ 19 ∷ []) refl (All-from_recursion (λ n. IsInBlock flow 17 n) (17 ∷ 18 ∷ 19 ∷ [])
                    (in_5_17, (in_5_18, (in_5_19, tt))));
                complete = all_held flow 0xe0000 17 refl refl;
                exits = refl;
              },
              tt,
            ),
          ),
        ),
      ),
    ),
  );
  entry_count = refl;
  entry = below (λ c. IsSomeAnd (slice_get plant.blocks.entries c) (λ number. IsSomeAnd (slice_get plant.blocks.blocks number) (IsEntryBlock c))) 3
      (record { owner = refl; after = refl }, (record { owner = refl; after = refl }, (record { owner = refl; after = refl }, tt)));
  after_count = refl;
  after = below (λ n. IsSomeAnd (slice_get plant.blocks.afters n) (IsAfter flow plant.blocks.blocks n)) 20 (
    refl,
    (
      refl,
      (
        refl,
        (
          refl,
          (
            refl,
            (
              refl,
              (refl, (refl, (refl, (refl, (refl, (refl, (refl, (refl, (refl, (refl, (refl, (refl, (refl, (refl, tt)))))))))))))),
            ),
          ),
        ),
      ),
    ),
  );
}

blocks : HaveBlocks image system flow plant.blocks
blocks = record {
  entries = (0 ∷ 11 ∷ 14 ∷ []);
  entered = record {
    count = refl;
    each = below (λ c. IsSomeAnd (slice_get (0 ∷ 11 ∷ 14 ∷ []) c) (IsEntryNode (entries_of image system) flow c)) 3 (
      record { node = (node 0 [] 0x100); stands = refl; context_is = refl; is_entry = refl },
      (
        record { node = (node 1 [] 0x12c); stands = refl; context_is = refl; is_entry = refl },
        (record { node = (node 2 [] 0x138); stands = refl; context_is = refl; is_entry = refl }, tt),
      ),
    );
  };
  cut = cut;
  few = lit≤ tt;
}

-- ---- What it is made of

image_is_lawful : IsLawfulImage image
image_is_lawful = record {
  segments = All-from_recursion IsSegment image.memory (
    record {
      bytes = bytes_fit
          (0x00000513 ∷ 0x00400893 ∷ 0x00000073 ∷ 0xfff28293 ∷ 0xfe029ee3 ∷ 0x00000513 ∷ 0x00500893 ∷ 0x00000073 ∷ 0x00000513 ∷ 0x00200893 ∷ 0x00000073
          ∷ 0x00000513 ∷ 0x00200893 ∷ 0x00000073 ∷ 0x00100513 ∷ 0x00100893 ∷ 0x00000073 ∷ 0x00000513 ∷ 0x00f00893 ∷ 0x00000073 ∷ []);
      few = lit≤ tt;
      ends = lit≤ tt;
    },
    tt,
  );
  apart = λ address. count_by-le-length (λ segment. covers segment address) image.memory;
  code = All-from_recursion (λ section. list_any (lies_in section) image.memory ≡ true) image.code (refl, tt);
}

system_is_lawful : IsLawfulSystem system
system_is_lawful = record {
  few = record { tasks = lit≤ tt; isrs = lit≤ tt; resources = lit≤ tt; alarms = lit≤ tt; modes = lit≤ tt };
  scheduler_last = record { declared = record { name = codes "R"; ceiling = 2; internal = false } ∷ []; ceiling = 2; same = refl };
  tasks = (record { resources = (lit< tt, tt); modes = (lit< tt, tt) }, (record { resources = (lit< tt, tt); modes = tt }, tt));
  alarms = tt;
  names = record { code = refl; resources = refl; counters = refl; modes = refl };
  apart = record { priorities = refl; code = refl; counters = refl; modes = refl };
}

timing_is_lawful : IsLawfulTiming timing
timing_is_lawful = record {
  classes = record {
    count = refl;
    each = All-from_recursion IsCost timing.classes.costs (
      (lit≤ tt, lit≤ tt),
      (
        (lit≤ tt, lit≤ tt),
        ((lit≤ tt, lit≤ tt), ((lit≤ tt, lit≤ tt), ((lit≤ tt, lit≤ tt), ((lit≤ tt, lit≤ tt), ((lit≤ tt, lit≤ tt), ((lit≤ tt, lit≤ tt), tt)))))),
      ),
    );
  };
  services = record {
    count = refl;
    each = All-from_recursion IsCost timing.services.costs (
      (lit≤ tt, lit≤ tt),
      (
        (lit≤ tt, lit≤ tt),
        (
          (lit≤ tt, lit≤ tt),
          (
            (lit≤ tt, lit≤ tt),
            (
              (lit≤ tt, lit≤ tt),
              (
                (lit≤ tt, lit≤ tt),
                (
                  (lit≤ tt, lit≤ tt),
                  (
                    (lit≤ tt, lit≤ tt),
                    ((lit≤ tt, lit≤ tt), ((lit≤ tt, lit≤ tt), ((lit≤ tt, lit≤ tt), ((lit≤ tt, lit≤ tt), ((lit≤ tt, lit≤ tt), tt))))),
                  ),
                ),
              ),
            ),
          ),
        ),
      ),
    );
  };
  alarm = (lit≤ tt, lit≤ tt);
  interrupt = (lit≤ tt, lit≤ tt);
  taken = (lit≤ tt, lit≤ tt);
  ticks = record { range = All-from_recursion IsInRange timing.ticks tt; order = refl; once = refl };
  distances = record { range = All-from_recursion IsInRange timing.distances ((lit≤ tt, lit< tt), tt); order = refl; once = refl };
  loops = record {
    few = lit≤ tt;
    each = All-from_recursion IsLoop timing.loops ((record { from_aligned = refl; to_aligned = refl; order = lit≤ tt; below = lit< tt }, lit≤ tt), tt);
    once = refl;
  };
  extra = record { few = lit≤ tt; each = All-from_recursion IsExtra timing.extra tt; once = refl };
}

pub is_plant : IsPlant plant
is_plant = record {
  image = image_is_lawful;
  system = system_is_lawful;
  timing = timing_is_lawful;
  graph = record { early = refl; graph = graph };
  blocks = blocks;
}
