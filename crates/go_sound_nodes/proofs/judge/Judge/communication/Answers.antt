use Rattle.std.proofs.Common.{sym, subst}
use Rattle.std.specs.Prelude.{List, map}
use Rattle.go_type.specs.Levels.{tree_of}
use Rattle.go_core.specs.CoreTree as core
use Rattle.go_core.specs.CoreView.{communication_view, expr_view, var_of}
use Rattle.go_core.specs.Sound.{SoundCommunication}
use Rattle.go_core.specs.declared.node.Var.{Var}
use Rattle.go_core.specs.declared.statement.Communication.{Communication}
use Rattle.go_sound_nodes.specs.Around.{around, program_in, trees_in}
use Rattle.go_sound_nodes.proofs.judge.Judge.communication.Goals as goal

pub returns-in-Send : goal.returns-in-Send
returns-in-Send c = record {
  is = λ known h.
      let j = c.args.self.now in
      subst (λ (x : Communication). SoundCommunication (program_in j) (around j c.args.round.now) (communication_view (trees_in j) x)) (sym c.in-Send.is) (c.sends.ensures.is known h);
}

pub returns-in-Receive : goal.returns-in-Receive
returns-in-Receive c = record {
  is = λ known h.
      let j = c.args.self.now in
      let ts = trees_in j in
      let p = program_in j in
      let a = around j c.args.round.now in
      subst (λ (x : Communication). SoundCommunication p a (communication_view ts x)) (sym c.in-Receive.is)
      (subst (λ (vs : List Var). SoundCommunication p a (core.receives (tree_of ts c.in-Receive.channel) (expr_view ts c.in-Receive.operand) (map (var_of ts) vs))) c.as_slice.ensures.value (c.receives.ensures.is known h));
}
