use Rattle.go_syntax.specs.View.{expr_view}
use Rattle.go_calls.specs.Words.{types_of}
use Rattle.go_expr.specs.Raw.{raw_view}
use Rattle.go_define.proofs.DoesLemmas.{one_does}
use Rattle.go_define.proofs.simple.expression.one.Goals as goal

pub returns-in_ok-told_one-in-Ok : goal.returns-in_ok-told_one-in-Ok
returns-in_ok-told_one-in-Ok c = record {
  does = one_does c.args.at (expr_view c.args.x.now) c.calls_function-is_function.result (raw_view (types_of c.raw_used.new.walk.env) c.in-Ok.raw) c.args.walk.now c.raw_used.new.walk c.args.flaws.now.items c.told_one.new.flaws.items c.args.out.now.items c.told_one.new.out.items
      c.calls_function-is_function.ensures.value c.in-Ok.ensures.view c.in-Ok.ensures.passes c.in_ok-told_one-in-Ok.ensures.adds;
}
