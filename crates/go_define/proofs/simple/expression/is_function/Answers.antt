use Rattle.go_syntax.specs.View.{expr_view}
use Rattle.go_calls.specs.Words.{scopes_of}
use Rattle.go_define.proofs.CallLemmas.{function_named}
use Rattle.go_define.proofs.simple.expression.is_function.Goals as goal

pub returns-in-Some : goal.returns-in-Some
returns-in-Some c = record { value = function_named (scopes_of c.args.env.now) (expr_view c.args.f.now) c.in-Some.name.now c.names_function.result c.in-Some.ensures.value c.names_function.ensures.value }
