use Rattle.std.proofs.Common.{map, false}
use Rattle.std.specs.Prelude.{None}
use Rattle.go_syntax.specs.View.{stmt_view, stmts_of}
use Rattle.go_calls.specs.Words.{types_of}
use Rattle.go_walk.specs.Left.{targets_of}
use Rattle.go_define.specs.AroundView.{around_of}
use Rattle.go_body.proofs.BodyLemmas.{stmts_does}
use Rattle.go_body.proofs.StmtLemmas.{ready_clause}
use Rattle.go_body.proofs.body.body.body_stmts.Goals as goal

pub returns-in-Ok-clause-does : goal.returns-in-Ok-clause-does
returns-in-Ok-clause-does c =
    stmts_does c.args.around.now c.args.b.now c.as_slice.result.now (targets_of c.new-targets.result) c.new-out.result.items c.args.walk.now c.stmts.new.walk c.args.flaws.now.items c.stmts.new.flaws.items c.stmts.new.out.items
    c.as_slice.ensures.value c.new-targets.ensures c.new-out.ensures.items c.in-Ok.ensures.does

pub returns-in-Ok-clause-ready : goal.returns-in-Ok-clause-ready
returns-in-Ok-clause-ready c =
    ready_clause c.args.around.now false (stmts_of (map stmt_view c.as_slice.result.now)) (around_of (types_of c.args.walk.now.env) c.args.around.now (targets_of c.new-targets.result) None) c.args.walk.now c.stmts.new.walk c.args.flaws.now.items c.stmts.new.flaws.items c.new-out.result.items c.stmts.new.out.items c.in-Ok.ensures.does c.requires.ready
