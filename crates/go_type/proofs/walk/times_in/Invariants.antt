use Rattle.std.proofs.Common.{◌≡◌, ◌+◌, ◌≤◌, length}
use Rattle.go_type.specs.Walk.{times_in}
use Rattle.go_type.proofs.walk.times_in.Given as goal

abbrev pub invariant-entries : goal.invariant-entries
invariant-entries l = record {
  rest : l.times + times_in l.id l.rest ≡ times_in l.id l.entries;
  counted : l.times + length l.rest ≤ length l.entries;
}

abbrev pub decreases-entries : goal.decreases-entries
decreases-entries l = length l.rest
