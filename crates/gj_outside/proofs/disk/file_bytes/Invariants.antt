use Rattle.std.proofs.Common.{◌≤◌, length}
use Rattle.gj_outside.proofs.disk.file_bytes.Given as goal

abbrev pub invariant-loop : goal.invariant-loop
invariant-loop g l = length l.bytes.items ≤ l.limit
