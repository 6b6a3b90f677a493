use Rattle.std.proofs.Common.{map}
use Rattle.go_syntax.specs.View.{expr_view}
use Rattle.go_calls.specs.Words.{types_of}
use Rattle.go_expr.specs.Raw.{raws_view}
use Rattle.go_define.specs.FreshView.{freshes_view}
use Rattle.go_define.proofs.DefineTopLemmas.{undeclared_done}
use Rattle.go_define.proofs.define.top.undeclared.Goals as goal

pub returns-in-Ok-olds_told : goal.returns-in-Ok-olds_told
returns-in-Ok-olds_told c =
    let ts = types_of c.sides.new.walk.env in
    record {
      does = λ out.
          undeclared_done c.args.at c.first_in.result (map expr_view c.args.xs.now) (map expr_view c.args.ys.now) c.args.walk.now c.both_used.new.walk c.each_told.new.walk c.sides.new.walk c.new-fs.result.items c.each_told.new.flaws.items c.names_typed-typed.result (freshes_view ts c.in-Ok.parts.0)
          (raws_view ts c.in-Ok.parts.1) c.args.flaws.now.items c.parts_told.new.flaws.items c.olds_told.new.flaws.items out c.in_ok-both_used.ensures.moves c.in_ok-both_used.ensures.env c.in_ok-each_told.ensures.stays c.in-Ok.ensures.stays c.new-fs.ensures.items c.in_ok-each_told.ensures.told
          c.in-Ok.ensures.freshes c.in-Ok.ensures.raws (c.names_typed-typed.ensures.value ts) c.first_in.ensures.value (c.in-Ok-parts_told.ensures.told ts) c.in-Ok-olds_told.ensures.told;
    }
