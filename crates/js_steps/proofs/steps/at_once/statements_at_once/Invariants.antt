use Rattle.std.specs.Prelude.{Ok}
use Rattle.js_code.specs.Parts.{stmts_at}
use Rattle.js_steps.specs.declared.frames.frame.Task.TheVariants.{Statements}
use Rattle.js_steps.specs.Moment.{stmts_do}
use Rattle.js_steps.specs.Stands.{Steps}
use Rattle.js_steps.proofs.steps.at_once.statements_at_once.Given as goal

-- what is left are the statements of the list
abbrev pub invariant-loop-turn : goal.invariant-loop-turn
invariant-loop-turn l = Steps l.initial.stack.items l.initial.state l.stack.items l.state (Ok (Statements l.list)) (λ st m. stmts_do st (stmts_at m.trees l.i) m)
