use Rattle.std.proofs.Common.{◌∙◌, sym, ap}
use Rattle.go_syntax.specs.View.{expr_view}
use Rattle.go_calls.specs.Words.{scopes_of}
use Rattle.go_calls.specs.Called.{callee_named}
use Rattle.go_calls.proofs.CalleeLemmas.{by_name}
use Rattle.go_calls.proofs.callee.callee.callee_of.Goals as goal

pub returns-in-Some-clause-view : goal.returns-in-Some-clause-view
returns-in-Some-clause-view c =
    c.called.ensures.view ∙ ap (callee_named (scopes_of c.args.env.now)) c.in-Some.ensures.value ∙ sym (by_name (scopes_of c.args.env.now) (expr_view c.args.f.now))

pub returns-in-None-clause-view : goal.returns-in-None-clause-view
returns-in-None-clause-view c = ap (callee_named (scopes_of c.args.env.now)) c.in-None.ensures.value ∙ sym (by_name (scopes_of c.args.env.now) (expr_view c.args.f.now))
