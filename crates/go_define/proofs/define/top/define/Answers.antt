use Rattle.std.proofs.Common.{map}
use Rattle.go_syntax.specs.View.{expr_view}
use Rattle.go_calls.specs.Words.{types_of}
use Rattle.go_expr.specs.Raw.{raws_view}
use Rattle.go_define.specs.FreshView.{freshes_view}
use Rattle.go_define.proofs.DefineTopLemmas.{define_done}
use Rattle.go_define.proofs.define.top.define.Goals as goal

pub returns-in-Ok-all_defined : goal.returns-in-Ok-all_defined
returns-in-Ok-all_defined c =
    let ts = types_of c.sides.new.walk.env in
    record {
      does = define_done c.args.at (map expr_view c.args.xs.now) (map expr_view c.args.ys.now) c.args.walk.now c.both_used.new.walk c.each_told.new.walk c.sides.new.walk c.all_defined.new.walk c.new-fs.result.items c.each_told.new.flaws.items c.none_told.new.flaws.items (freshes_view ts c.in-Ok.parts.0) (raws_view ts c.in-Ok.parts.1)
          c.args.flaws.now.items c.all_defined.new.flaws.items c.args.out.now.items c.all_defined.new.out.items c.in_ok-both_used.ensures.moves c.in_ok-both_used.ensures.env c.in_ok-each_told.ensures.stays c.in-Ok.ensures.stays c.new-fs.ensures.items c.in_ok-each_told.ensures.told c.in-Ok-none_told.ensures.told c.in-Ok.ensures.freshes
          c.in-Ok.ensures.raws c.in-Ok-all_defined.ensures.does;
    }
