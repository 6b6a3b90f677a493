use Rattle.std.proofs.Common.{◌≡◌, ◌≤◌, ◌-◌, length, drop}
use Rattle.go_lexer.specs.Lexed.{lexed, lexed_from}
use Rattle.go_lexer.specs.Placed.{IsPlaced}
use Rattle.go_lexer.proofs.lexer.read.Given as goal

abbrev pub invariant-loop-at : goal.invariant-loop-at
invariant-loop-at l = record { within : l.at ≤ length l.bytes; placed : IsPlaced l.file l.at l.progress; same : lexed l.file l.bytes ≡ lexed_from l.progress 0 l.at (drop l.at l.bytes) }

abbrev pub decreases-loop-at : goal.decreases-loop-at
decreases-loop-at l = length l.bytes - l.at
