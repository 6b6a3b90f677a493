use Rattle.std.proofs.Common.{map}
use Rattle.go_operands.specs.AnswerView.{flaw_view}
use Rattle.go_calls.specs.Words.{types_of, names_of}
use Rattle.go_expr.specs.Raw.{raws_view}
use Rattle.go_define.specs.FreshView.{freshes_view}
use Rattle.go_define.specs.Defining.{value_takes, value_cores}
use Rattle.go_define.proofs.AllLemmas.{values_does}
use Rattle.go_define.proofs.define.all.define_values.Goals as goal

pub returns-in-Ok-finish : goal.returns-in-Ok-finish
returns-in-Ok-finish c =
    let e = c.args.walk.now.env in
    let ss = freshes_view (types_of e) c.args.freshes in
    let rs = raws_view (types_of e) c.args.raws in
    record {
      does = values_does (map flaw_view c.args.fs.items) (value_takes (names_of e) ss rs) (value_cores (names_of e) ss rs) c.args.walk.now c.define_each.new.walk c.new-targets.result.items c.define_each.new.targets.items c.new-cores.result.items c.define_each.new.cores.items c.args.flaws.now.items c.define_each.new.flaws.items
          c.finish.new.flaws.items c.args.out.now.items c.define_each.new.out.items c.finish.new.out.items c.new-targets.ensures.items c.new-cores.ensures.items c.in-Ok.ensures.defines c.in-Ok.ensures.values c.in-Ok-finish.ensures.told c.in-Ok-finish.ensures.core;
    }
