-- One token after the other, and one frame after the other.
use Rattle.std.specs.Prelude.{◌≡◌, ◌+◌, ◌<◌, ◌≤◌, ℕ, List, ◌∷◌, length, drop}
use Rattle.go_syntax.specs.Token.{Token, token_at}
use Rattle.go_grammar.specs.Frames.{Frame, Stack, Flow, Goes, Over, Value}
use Rattle.go_grammar.specs.Parsed.{row, meets, hands, feed, run, after_step, whole, parsed}

-- a tree that is done goes to the frames that are left
abbrev pub FeedOver : Type 0
FeedOver = (u : Token) (x : Frame) (s : Stack) (v : Value) (r : Stack) → Over v r ≡ row u x s → hands u r v ≡ feed u (x ∷ s)

abbrev pub HandsOver : Type 0
HandsOver = (u : Token) (x : Frame) (v : Value) (s : Stack) (v' : Value) (r : Stack) → Over v' r ≡ meets u x v s → hands u r v' ≡ hands u (x ∷ s) v

-- and fewer frames are left
abbrev pub FewerLeft : Type 0
FewerLeft = (u : Token) (x : Frame) (v : Value) (s : Stack) (v' : Value) (r t : Stack) → t ≡ x ∷ s → Over v' r ≡ meets u x v s → length r < length t

-- the token at an index, and those after it
abbrev pub RunTurn : Type 0
RunTurn = (us : List Token) (i : ℕ) (s : Stack) → i < length us → run (drop i us) s ≡ after_step (token_at us i) (run (drop (i + 1) us)) (feed (token_at us i) s)

abbrev pub RunEnd : Type 0
RunEnd = (us : List Token) (i : ℕ) (s : Stack) → length us ≤ i → run (drop i us) s ≡ whole s
