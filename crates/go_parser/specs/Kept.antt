-- Where a frame is over, the frames below it are as they were.
use Rattle.std.specs.Prelude.{◌≡◌}
use Rattle.go_syntax.specs.Token.{Token}
use Rattle.go_grammar.specs.Frames.{Frame, Stack, Flow, Goes, Over, Stuck, Deep, Long, Value}
use Rattle.go_grammar.specs.Parsed.{row, meets}

abbrev pub below_is : Stack → Flow → Type 0
below_is s (Over v s') = s' ≡ s
below_is s (Goes _) = Unit {0}
below_is s Stuck = Unit {0}
below_is s Deep = Unit {0}
below_is s (Long _) = Unit {0}

abbrev pub RowKeeps : Type 0
RowKeeps = (u : Token) (x : Frame) (s : Stack) → below_is s (row u x s)

abbrev pub MeetsKeeps : Type 0
MeetsKeeps = (u : Token) (x : Frame) (v : Value) (s : Stack) → below_is s (meets u x v s)
