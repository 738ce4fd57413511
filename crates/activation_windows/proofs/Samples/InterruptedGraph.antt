-- The code graph of the system in which an ISR interrupts a task that holds a resource.
use Rattle.std.proofs.Common.{◌≡◌, [], All, None, refl, lit≤}
use Rattle.std.specs.List.Sorted.{IsStrictlySortedBy}
use Rattle.std.proofs.lemmas.List.Elements.{All-from_recursion}
use Rattle.rv32_decode.specs.Instructions.{insn_of_word, insn_under, imm_of, branch_of}
use Rattle.rv32_machine.specs.Code.{insn_at}
use Rattle.flow_graph.specs.declared.edge.EdgeKind.TheVariants as kinds
use Rattle.flow_graph.specs.Faults.{IsNode, entry, along, fault_of}
use Rattle.flow_graph.specs.Graph.{Program, program_of, node_cmp, edge_to}
use Rattle.flow_graph.specs.Judging.{IsGraph}
use Rattle.activation_windows.specs.Samples.Words.{node}
use Rattle.activation_windows.specs.Samples.Interrupted.{image, system, timing, flow}
use Rattle.activation_windows.proofs.Samples.Planting.{all_among}

abbrev pub program : Program
program = program_of image system timing

-- ---- The nodes are reached

reached_0 : IsNode program (node 0 [] 0x100)
unfolding insn_at insn_of_word insn_under imm_of branch_of
reached_0 = entry (node 0 [] 0x100) refl

reached_11 : IsNode program (node 1 [] 0x12c)
unfolding insn_at insn_of_word insn_under imm_of branch_of
reached_11 = entry (node 1 [] 0x12c) refl

reached_14 : IsNode program (node 2 [] 0x138)
unfolding insn_at insn_of_word insn_under imm_of branch_of
reached_14 = entry (node 2 [] 0x138) refl

reached_1 : IsNode program (node 0 [] 0x104)
unfolding insn_at insn_of_word insn_under imm_of branch_of
reached_1 =
    along (node 0 [] 0x100) (node 0 [] 0x104) reached_0
    (record { faultless = refl; number = 0; edge = edge_to kinds.Straight (node 0 [] 0x104); leaves = refl; arrives = refl })

reached_12 : IsNode program (node 1 [] 0x130)
unfolding insn_at insn_of_word insn_under imm_of branch_of
reached_12 =
    along (node 1 [] 0x12c) (node 1 [] 0x130) reached_11
    (record { faultless = refl; number = 0; edge = edge_to kinds.Straight (node 1 [] 0x130); leaves = refl; arrives = refl })

reached_15 : IsNode program (node 2 [] 0x13c)
unfolding insn_at insn_of_word insn_under imm_of branch_of
reached_15 =
    along (node 2 [] 0x138) (node 2 [] 0x13c) reached_14
    (record { faultless = refl; number = 0; edge = edge_to kinds.Straight (node 2 [] 0x13c); leaves = refl; arrives = refl })

reached_2 : IsNode program (node 0 [] 0x108)
unfolding insn_at insn_of_word insn_under imm_of branch_of
reached_2 =
    along (node 0 [] 0x104) (node 0 [] 0x108) reached_1
    (record { faultless = refl; number = 0; edge = edge_to kinds.Straight (node 0 [] 0x108); leaves = refl; arrives = refl })

reached_13 : IsNode program (node 1 [] 0x134)
unfolding insn_at insn_of_word insn_under imm_of branch_of
reached_13 =
    along (node 1 [] 0x130) (node 1 [] 0x134) reached_12
    (record { faultless = refl; number = 0; edge = edge_to kinds.Straight (node 1 [] 0x134); leaves = refl; arrives = refl })

reached_16 : IsNode program (node 2 [] 0x140)
unfolding insn_at insn_of_word insn_under imm_of branch_of
reached_16 =
    along (node 2 [] 0x13c) (node 2 [] 0x140) reached_15
    (record { faultless = refl; number = 0; edge = edge_to kinds.Straight (node 2 [] 0x140); leaves = refl; arrives = refl })

reached_3 : IsNode program (node 0 [] 0x10c)
unfolding insn_at insn_of_word insn_under imm_of branch_of
reached_3 =
    along (node 0 [] 0x108) (node 0 [] 0x10c) reached_2
    (record { faultless = refl; number = 0; edge = edge_to kinds.Service (node 0 [] 0x10c); leaves = refl; arrives = refl })

reached_17 : IsNode program (node 2 [] 0x144)
unfolding insn_at insn_of_word insn_under imm_of branch_of
reached_17 =
    along (node 2 [] 0x140) (node 2 [] 0x144) reached_16
    (record { faultless = refl; number = 0; edge = edge_to kinds.Service (node 2 [] 0x144); leaves = refl; arrives = refl })

reached_4 : IsNode program (node 0 [] 0x110)
unfolding insn_at insn_of_word insn_under imm_of branch_of
reached_4 =
    along (node 0 [] 0x10c) (node 0 [] 0x110) reached_3
    (record { faultless = refl; number = 0; edge = edge_to kinds.Straight (node 0 [] 0x110); leaves = refl; arrives = refl })

reached_18 : IsNode program (node 2 [] 0x148)
unfolding insn_at insn_of_word insn_under imm_of branch_of
reached_18 =
    along (node 2 [] 0x144) (node 2 [] 0x148) reached_17
    (record { faultless = refl; number = 0; edge = edge_to kinds.Straight (node 2 [] 0x148); leaves = refl; arrives = refl })

reached_5 : IsNode program (node 0 [] 0x114)
unfolding insn_at insn_of_word insn_under imm_of branch_of
reached_5 =
    along (node 0 [] 0x110) (node 0 [] 0x114) reached_4
    (record { faultless = refl; number = 0; edge = edge_to kinds.Straight (node 0 [] 0x114); leaves = refl; arrives = refl })

reached_19 : IsNode program (node 2 [] 0x14c)
unfolding insn_at insn_of_word insn_under imm_of branch_of
reached_19 =
    along (node 2 [] 0x148) (node 2 [] 0x14c) reached_18
    (record { faultless = refl; number = 0; edge = edge_to kinds.Straight (node 2 [] 0x14c); leaves = refl; arrives = refl })

reached_6 : IsNode program (node 0 [] 0x118)
unfolding insn_at insn_of_word insn_under imm_of branch_of
reached_6 =
    along (node 0 [] 0x114) (node 0 [] 0x118) reached_5
    (record { faultless = refl; number = 0; edge = edge_to kinds.Straight (node 0 [] 0x118); leaves = refl; arrives = refl })

reached_7 : IsNode program (node 0 [] 0x11c)
unfolding insn_at insn_of_word insn_under imm_of branch_of
reached_7 =
    along (node 0 [] 0x118) (node 0 [] 0x11c) reached_6
    (record { faultless = refl; number = 0; edge = edge_to kinds.Straight (node 0 [] 0x11c); leaves = refl; arrives = refl })

reached_8 : IsNode program (node 0 [] 0x120)
unfolding insn_at insn_of_word insn_under imm_of branch_of
reached_8 =
    along (node 0 [] 0x11c) (node 0 [] 0x120) reached_7
    (record { faultless = refl; number = 0; edge = edge_to kinds.Service (node 0 [] 0x120); leaves = refl; arrives = refl })

reached_9 : IsNode program (node 0 [] 0x124)
unfolding insn_at insn_of_word insn_under imm_of branch_of
reached_9 =
    along (node 0 [] 0x120) (node 0 [] 0x124) reached_8
    (record { faultless = refl; number = 0; edge = edge_to kinds.Straight (node 0 [] 0x124); leaves = refl; arrives = refl })

reached_10 : IsNode program (node 0 [] 0x128)
unfolding insn_at insn_of_word insn_under imm_of branch_of
reached_10 =
    along (node 0 [] 0x124) (node 0 [] 0x128) reached_9
    (record { faultless = refl; number = 0; edge = edge_to kinds.Straight (node 0 [] 0x128); leaves = refl; arrives = refl })

reached : All (IsNode program) flow.nodes
reached = All-from_recursion (IsNode program) flow.nodes (
  reached_0,
  (
    reached_1,
    (
      reached_2,
      (
        reached_3,
        (
          reached_4,
          (
            reached_5,
            (
              reached_6,
              (
                reached_7,
                (
                  reached_8,
                  (
                    reached_9,
                    (
                      reached_10,
                      (
                        reached_11,
                        (
                          reached_12,
                          (
                            reached_13,
                            (
                              reached_14,
                              (
                                reached_15,
                                (
                                  reached_16,
                                  (
                                    reached_17,
                                    (reached_18, (reached_19, tt)),
                                  ),
                                ),
                              ),
                            ),
                          ),
                        ),
                      ),
                    ),
                  ),
                ),
              ),
            ),
          ),
        ),
      ),
    ),
  ),
)

ordered : IsStrictlySortedBy node_cmp flow.nodes
unfolding IsStrictlySortedBy
ordered = (
  (
    refl,
    (
      refl,
      (
        refl,
        (
          refl,
          (
            refl,
            (
              refl,
              (
                refl,
                (
                  refl,
                  (
                    refl,
                    (
                      refl,
                      (
                        refl,
                        (
                          refl,
                          (
                            refl,
                            (
                              refl,
                              (
                                refl,
                                (
                                  refl,
                                  (
                                    refl,
                                    (
                                      refl,
                                      (refl, tt),
                                    ),
                                  ),
                                ),
                              ),
                            ),
                          ),
                        ),
                      ),
                    ),
                  ),
                ),
              ),
            ),
          ),
        ),
      ),
    ),
  ),
  (
    (
      refl,
      (
        refl,
        (
          refl,
          (
            refl,
            (
              refl,
              (
                refl,
                (
                  refl,
                  (
                    refl,
                    (
                      refl,
                      (
                        refl,
                        (
                          refl,
                          (
                            refl,
                            (
                              refl,
                              (
                                refl,
                                (
                                  refl,
                                  (refl, (refl, (refl, tt))),
                                ),
                              ),
                            ),
                          ),
                        ),
                      ),
                    ),
                  ),
                ),
              ),
            ),
          ),
        ),
      ),
    ),
    (
      (
        refl,
        (
          refl,
          (
            refl,
            (
              refl,
              (
                refl,
                (
                  refl,
                  (
                    refl,
                    (
                      refl,
                      (
                        refl,
                        (
                          refl,
                          (
                            refl,
                            (
                              refl,
                              (
                                refl,
                                (refl, (refl, (refl, (refl, tt)))),
                              ),
                            ),
                          ),
                        ),
                      ),
                    ),
                  ),
                ),
              ),
            ),
          ),
        ),
      ),
      (
        (
          refl,
          (
            refl,
            (
              refl,
              (
                refl,
                (
                  refl,
                  (
                    refl,
                    (
                      refl,
                      (
                        refl,
                        (
                          refl,
                          (
                            refl,
                            (
                              refl,
                              (
                                refl,
                                (
                                  refl,
                                  (refl, (refl, (refl, tt))),
                                ),
                              ),
                            ),
                          ),
                        ),
                      ),
                    ),
                  ),
                ),
              ),
            ),
          ),
        ),
        (
          (
            refl,
            (
              refl,
              (
                refl,
                (
                  refl,
                  (
                    refl,
                    (
                      refl,
                      (
                        refl,
                        (
                          refl,
                          (
                            refl,
                            (
                              refl,
                              (
                                refl,
                                (
                                  refl,
                                  (
                                    refl,
                                    (
                                      refl,
                                      (refl, tt),
                                    ),
                                  ),
                                ),
                              ),
                            ),
                          ),
                        ),
                      ),
                    ),
                  ),
                ),
              ),
            ),
          ),
          (
            (
              refl,
              (
                refl,
                (
                  refl,
                  (
                    refl,
                    (
                      refl,
                      (
                        refl,
                        (
                          refl,
                          (
                            refl,
                            (
                              refl,
                              (
                                refl,
                                (
                                  refl,
                                  (
                                    refl,
                                    (
                                      refl,
                                      (refl, tt),
                                    ),
                                  ),
                                ),
                              ),
                            ),
                          ),
                        ),
                      ),
                    ),
                  ),
                ),
              ),
            ),
            (
              (refl, (refl, (refl, (refl, (refl, (refl, (refl, (refl, (refl, (refl, (refl, (refl, (refl, tt))))))))))))),
              (
                (refl, (refl, (refl, (refl, (refl, (refl, (refl, (refl, (refl, (refl, (refl, (refl, tt)))))))))))),
                (
                  (
                    refl,
                    (
                      refl,
                      (
                        refl,
                        (
                          refl,
                          (
                            refl,
                            (refl, (refl, (refl, (refl, (refl, (refl, tt)))))),
                          ),
                        ),
                      ),
                    ),
                  ),
                  (
                    (
                      refl,
                      (
                        refl,
                        (
                          refl,
                          (
                            refl,
                            (
                              refl,
                              (
                                refl,
                                (
                                  refl,
                                  (
                                    refl,
                                    (
                                      refl,
                                      (refl, tt),
                                    ),
                                  ),
                                ),
                              ),
                            ),
                          ),
                        ),
                      ),
                    ),
                    (
                      (refl, (refl, (refl, (refl, (refl, (refl, (refl, (refl, (refl, tt))))))))),
                      (
                        (
                          refl,
                          (
                            refl,
                            (
                              refl,
                              (
                                refl,
                                (
                                  refl,
                                  (
                                    refl,
                                    (refl, (refl, tt)),
                                  ),
                                ),
                              ),
                            ),
                          ),
                        ),
                        (
                          (refl, (refl, (refl, (refl, (refl, (refl, (refl, tt))))))),
                          (
                            (refl, (refl, (refl, (refl, (refl, (refl, tt)))))),
                            (
                              (refl, (refl, (refl, (refl, (refl, tt))))),
                              (
                                (refl, (refl, (refl, (refl, tt)))),
                                (
                                  (refl, (refl, (refl, tt))),
                                  (
                                    (refl, (refl, tt)),
                                    ((refl, tt), (tt, tt)),
                                  ),
                                ),
                              ),
                            ),
                          ),
                        ),
                      ),
                    ),
                  ),
                ),
              ),
            ),
          ),
        ),
      ),
    ),
  ),
)

faultless : All (λ n. fault_of program n ≡ None) flow.nodes
unfolding insn_at insn_of_word insn_under imm_of branch_of
faultless = All-from_recursion (λ n. fault_of program n ≡ None) flow.nodes (
  refl,
  (
    refl,
    (
      refl,
      (
        refl,
        (
          refl,
          (
            refl,
            (
              refl,
              (
                refl,
                (
                  refl,
                  (
                    refl,
                    (refl, (refl, (refl, (refl, (refl, (refl, (refl, (refl, (refl, (refl, tt)))))))))),
                  ),
                ),
              ),
            ),
          ),
        ),
      ),
    ),
  ),
)

-- ---- The graph

pub graph : IsGraph program flow
unfolding insn_at insn_of_word insn_under imm_of branch_of
graph = record {
  nodes = record { are = record { order = ordered; reached = reached }; all = all_among program flow.nodes refl refl; few = lit≤ tt };
  faultless = faultless;
  leaving = (
    record { service_is = refl; edges_are = (record { kind_is = refl; to_is = refl }, tt) },
    (
      record { service_is = refl; edges_are = (record { kind_is = refl; to_is = refl }, tt) },
      (
        record { service_is = refl; edges_are = (record { kind_is = refl; to_is = refl }, tt) },
        (
          record { service_is = refl; edges_are = (record { kind_is = refl; to_is = refl }, tt) },
          (
            record { service_is = refl; edges_are = (record { kind_is = refl; to_is = refl }, (record { kind_is = refl; to_is = refl }, tt)) },
            (
              record { service_is = refl; edges_are = (record { kind_is = refl; to_is = refl }, tt) },
              (
                record { service_is = refl; edges_are = (record { kind_is = refl; to_is = refl }, tt) },
                (
                  record { service_is = refl; edges_are = (record { kind_is = refl; to_is = refl }, tt) },
                  (
                    record { service_is = refl; edges_are = (record { kind_is = refl; to_is = refl }, tt) },
                    (
                      record { service_is = refl; edges_are = (record { kind_is = refl; to_is = refl }, tt) },
                      (
                        record { service_is = refl; edges_are = (record { kind_is = refl; to_is = tt }, tt) },
                        (
                          record { service_is = refl; edges_are = (record { kind_is = refl; to_is = refl }, tt) },
                          (
                            record { service_is = refl; edges_are = (record { kind_is = refl; to_is = refl }, tt) },
                            (
                              record { service_is = refl; edges_are = (record { kind_is = refl; to_is = tt }, tt) },
                              (
                                record { service_is = refl; edges_are = (record { kind_is = refl; to_is = refl }, tt) },
                                (
                                  record { service_is = refl; edges_are = (record { kind_is = refl; to_is = refl }, tt) },
                                  (
                                    record { service_is = refl; edges_are = (record { kind_is = refl; to_is = refl }, tt) },
                                    (
                                      record { service_is = refl; edges_are = (record { kind_is = refl; to_is = refl }, tt) },
                                      (
                                        record { service_is = refl; edges_are = (record { kind_is = refl; to_is = refl }, tt) },
                                        (record { service_is = refl; edges_are = (record { kind_is = refl; to_is = tt }, tt) }, tt),
                                      ),
                                    ),
                                  ),
                                ),
                              ),
                            ),
                          ),
                        ),
                      ),
                    ),
                  ),
                ),
              ),
            ),
          ),
        ),
      ),
    ),
  );
}
