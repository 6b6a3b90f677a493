use Rattle.std.proofs.Common.{sym, ap, ◌∙◌}
use Rattle.go_frames.specs.FrameView.{flow_view, token_of, value_view, frame_view, stack_view}
use Rattle.go_parser.proofs.FeedLemmas.{fewer_left}
use Rattle.go_parser.proofs.feed.hand.Goals as goal

-- the tree goes on to the frames below the one that was over
pub down-smaller : goal.down-smaller
down-smaller c =
    fewer_left (token_of c.args.at c.args.text.now) (frame_view c.in-Some.frame) (value_view c.down.value) (stack_view c.in-Some.below) (value_view c.in-Over.next) (stack_view c.in-Over.rest) (stack_view c.down.stack) c.in-Some.ensures.value (sym (ap flow_view c.in-Over.is) ∙ c.in_ok-next-in-Some.ensures.value)
