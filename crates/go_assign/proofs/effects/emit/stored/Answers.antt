use Rattle.std.proofs.Common.{map}
use Rattle.go_core.specs.CoreView.{target_view}
use Rattle.go_assign.proofs.EmitLemmas.{store_more}
use Rattle.go_assign.proofs.effects.emit.stored.Goals as goal

pub returns-in-Ok-and_stmt : goal.returns-in-Ok-and_stmt
returns-in-Ok-and_stmt c = record {
  core = λ ts. store_more ts c.args.out.now.items c.and_stmt.new.items.items c.in-Ok.s (map (target_view ts) c.args.targets.items) c.args.cores.items c.values-list.result c.in-Ok-and_stmt.ensures.items (c.in-Ok.ensures.value ts) (c.values-list.ensures.value ts);
}
