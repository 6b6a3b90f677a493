use Rattle.std.proofs.Common.{◌≡◌, length}
use Rattle.go_grammar.specs.Parsed.{hands}
use Rattle.go_frames.specs.FrameView.{stack_view, token_of, value_view}
use Rattle.go_parser.proofs.feed.hand.Given as goal

-- what is left to hand comes to what the whole comes to
abbrev pub invariant-down : goal.invariant-down
invariant-down l =
    hands (token_of l.at l.text) (stack_view l.stack) (value_view l.value) ≡ hands (token_of l.fn.at l.fn.text) (stack_view l.fn.stack) (value_view l.fn.value)

abbrev pub decreases-down : goal.decreases-down
decreases-down l = length (stack_view l.stack)
