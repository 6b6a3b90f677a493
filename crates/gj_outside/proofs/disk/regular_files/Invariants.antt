use Rattle.std.proofs.Common.{◌≤◌}
use Rattle.std.specs.Prelude.{All}
use Rattle.gj_base.specs.Tree.{IsName}
use Rattle.gj_outside.proofs.disk.regular_files.Given as goal

abbrev pub invariant-loop-entry : goal.invariant-loop-entry
invariant-loop-entry g l = record { few : l.count ≤ 1000000; named : All IsName l.names.items }
