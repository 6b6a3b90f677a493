-- A frame put on top of others.
use Rattle.std.specs.Prelude.{◌≡◌, List, [], ◌∷◌, ◌++◌}
use Rattle.go_frames.specs.declared.frames.frame.Frame.{Frame}
use Rattle.go_grammar.specs.Frames as f
use Rattle.go_frames.specs.FrameView.{frame_view, put_on}

abbrev pub Pushes : Type 0
Pushes = (xs : List Frame) (x : Frame) (below : f.Stack) → put_on (xs ++ x ∷ []) below ≡ frame_view x ∷ put_on xs below
