-- A frame put on top of others.
use Rattle.std.proofs.Common.{◌≡◌, List, [], ◌∷◌, ◌++◌, refl}
use Rattle.go_frames.specs.declared.frames.frame.Frame.{Frame}
use Rattle.go_grammar.specs.Frames as f
use Rattle.go_frames.specs.FrameView.{frame_view, put_on}
use Rattle.go_frames.specs.Pushes.{Pushes}

pub put_on_push : Pushes
put_on_push [] x below = refl
put_on_push (y ∷ ys) x below = put_on_push ys x (frame_view y ∷ below)
