-- Parts that are apart are in the order of their addresses.
use Rattle.std.proofs.Common.{leb, arith, rules}
use Rattle.std.proofs.lemmas.Bool.{leb-true, leb-false}
use Rattle.std.proofs.lemmas.List.Sorted.{IsPartitionPoint-from_clause, IsPartitionedBy-leb}
use Rattle.rv32_machine.proofs.MemoryLaws.{apart_rise}
use Rattle.rv32_machine.proofs.store.begun_by.Goals as goal

pub returns-clause-begun : goal.returns-clause-begun
returns-clause-begun c = λ i d before.
    let parted = IsPartitionedBy-leb (λ p. p.address) _ c.args.address (apart_rise c.args.parts.now c.requires) in
    let point = IsPartitionPoint-from_clause (λ p. leb p.address c.args.address) _ _ c.partition_point.ensures.partitioned parted (λ a r q k. search rules) in
    leb-true _ _ (point.0 i d (omega arith) before)

pub returns-clause-later : goal.returns-clause-later
returns-clause-later c = λ i d after below.
    let parted = IsPartitionedBy-leb (λ p. p.address) _ c.args.address (apart_rise c.args.parts.now c.requires) in
    let point = IsPartitionPoint-from_clause (λ p. leb p.address c.args.address) _ _ c.partition_point.ensures.partitioned parted (λ a r q k. search rules) in
    leb-false _ _ (point.1 i d after below)
