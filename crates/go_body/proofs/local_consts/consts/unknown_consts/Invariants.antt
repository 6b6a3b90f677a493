use Rattle.std.proofs.Common.{List, drop}
use Rattle.go_core.specs.declared.statement.CoreStmt.{CoreStmt}
use Rattle.go_typing.specs.Declare.{const_unknown}
use Rattle.go_body.specs.LocalVarsLeft.{DoesLeft}
use Rattle.go_body.proofs.local_consts.consts.unknown_consts.Given as goal

-- what was done so far, with what is left
abbrev pub invariant-loop-n : goal.invariant-loop-n
invariant-loop-n l = (out : List CoreStmt) → DoesLeft (const_unknown l.names) (const_unknown (drop l.n-index l.names)) l.initial.walk l.walk l.initial.flaws.items l.flaws.items out out
