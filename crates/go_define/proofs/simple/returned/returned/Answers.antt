use Rattle.std.proofs.Common.{map, sym, subst, List}
use Rattle.std.specs.Prelude.{Option}
use Rattle.std.specs.Borrow.{Bor}
use Rattle.go_type.specs.declared.types.TypeId.{TypeId}
use Rattle.go_syntax.specs.View.{expr_view, exprs_of}
use Rattle.go_calls.specs.Words.{types_of}
use Rattle.go_typing.specs.Statements.{returned_in}
use Rattle.go_assign.specs.Outcome.{Does}
use Rattle.go_define.specs.AroundView.{results_of}
use Rattle.go_define.proofs.simple.returned.returned.Goals as goal

pub returns-in_ok-untyped-in-None : goal.returns-in_ok-untyped-in-None
returns-in_ok-untyped-in-None c =
    let a = c.args.walk.now in
    let o = c.args.out.now.items in
    record {
      does = subst (λ (x : Option (Bor (List TypeId))). Does (returned_in c.args.at (results_of (types_of a.env) x) c.args.around.now.named (exprs_of (map expr_view c.args.ys.now))) a c.untyped.new.walk c.args.flaws.now.items c.untyped.new.flaws.items o o) (sym c.in-None.is) (c.in_ok-untyped-in-None.ensures.does o);
    }
