use Rattle.std.proofs.Common.{map}
use Rattle.go_core.specs.CoreView.{target_view}
use Rattle.go_operands.specs.AnswerView.{answer_view}
use Rattle.go_calls.specs.Words.{types_of}
use Rattle.go_typing.specs.Expressions.{core_of}
use Rattle.go_assign.proofs.EmitLemmas.{one_more}
use Rattle.go_assign.proofs.effects.emit.one_stored.Goals as goal

pub returns-in-Ok-stored : goal.returns-in-Ok-stored
returns-in-Ok-stored c = record {
  core = λ ts k. one_more ts c.args.out.now.items c.stored.new.out.items (map (target_view ts) c.args.targets.items) c.in-Ok.cores.items (core_of (answer_view (types_of c.args.env.now) c.args.answer)) (c.in-Ok-stored.ensures.core ts) (c.in-Ok.ensures.value ts k);
}
