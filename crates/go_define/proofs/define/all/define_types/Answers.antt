use Rattle.std.proofs.Common.{map}
use Rattle.go_type.specs.Levels.{trees_of}
use Rattle.go_operands.specs.AnswerView.{flaw_view}
use Rattle.go_calls.specs.Words.{types_of}
use Rattle.go_define.specs.FreshView.{freshes_view}
use Rattle.go_define.specs.Defining.{type_takes}
use Rattle.go_define.proofs.AllLemmas.{call_does}
use Rattle.go_define.proofs.define.all.define_types.Goals as goal

pub returns-in-Ok-store_call : goal.returns-in-Ok-store_call
returns-in-Ok-store_call c =
    let ts = types_of c.args.walk.now.env in
    record {
      does = call_does (map flaw_view c.args.fs.items) (type_takes c.args.raw.part.place (freshes_view ts c.args.freshes) (trees_of ts c.args.types.now)) c.args.raw c.args.walk.now c.type_each.new.walk c.new-targets.result.items c.type_each.new.targets.items c.args.flaws.now.items c.type_each.new.flaws.items
          c.store_call.new.flaws.items c.args.out.now.items c.type_each.new.out.items c.store_call.new.out.items c.new-targets.ensures.items c.in-Ok.ensures.defines c.in-Ok-store_call.ensures.told c.in-Ok-store_call.ensures.core;
    }
