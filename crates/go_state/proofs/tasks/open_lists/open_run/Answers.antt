use Rattle.std.proofs.Common.{arith}
use Rattle.go_core.specs.declared.statement.CoreStmts.{out-CoreStmts}
use Rattle.go_state.proofs.ListsLemmas.{run_next, run_smaller}
use Rattle.go_state.proofs.tasks.open_lists.open_run.Goals as goal

pub returns-clause-value : goal.returns-clause-value
returns-clause-value c = λ ts rest. run_next ts c.args.list.now c.args.at rest (let counted = (out-CoreStmts c.args.list.now).items.ok.0 in omega (arith, c.if-at-len.false, c.len.ensures, counted))

pub returns-clause-smaller : goal.returns-clause-smaller
returns-clause-smaller c = λ ts. run_smaller ts c.args.list.now c.args.at (let counted = (out-CoreStmts c.args.list.now).items.ok.0 in omega (arith, c.if-at-len.false, c.len.ensures, counted))
