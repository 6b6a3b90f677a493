use Rattle.std.proofs.Common.{◌≡◌, length}
use Rattle.go_type.specs.Table.{places}
use Rattle.go_typing.specs.Answer.{all_known}
use Rattle.go_calls.specs.CallView.{parts_view}
use Rattle.go_calls.proofs.given.given.all_known.Given as goal

-- what is left has the same answer
abbrev pub invariant-parts : goal.invariant-parts
invariant-parts l = all_known (parts_view (places l.table) l.rest) ≡ all_known (parts_view (places l.table) l.parts)

abbrev pub decreases-parts : goal.decreases-parts
decreases-parts l = length l.rest
