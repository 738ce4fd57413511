-- There is an instruction where the context stands.
use Rattle.std.proofs.Common.{◌≡◌, sym, ◌∙◌, subst, None}
use Rattle.rv32_machine.specs.Code.{insn_at}
use Rattle.wcet_atomic_blocks.specs.Plants.{PlantData}
use Rattle.replay.proofs.Running.{never_none}
use Rattle.replay.proofs.player.Player.run_context.Goals as goal

pub unreachable-requires : goal.unreachable-requires
unreachable-requires c =
    never_none c.args.plant.now c.args.self.now c.args.context c.place_of-place.result c.requires c.place_of-place.ensures
    (subst (λ (p : PlantData). insn_at p.image c.place_of-place.result ≡ None) c.plant.view_is (sym c.insn.ensures ∙ c.in-None.is))
