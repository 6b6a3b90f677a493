-- One token to the frames.
use Rattle.std.proofs.Common.{◌≡◌, ◌<◌, List, [], ◌∷◌, length, arith, refl, sym, ◌∙◌, ap, subst}
use Rattle.go_syntax.specs.Token.{Token}
use Rattle.go_grammar.specs.Frames.{Frame, Stack, Flow, Goes, Over, Value}
use Rattle.go_parser.specs.Kept.{below_is}
use Rattle.go_grammar.specs.Parsed.{row, meets, hands, feed, goes_on}
use Rattle.go_parser.specs.Turns.{FeedOver, HandsOver, FewerLeft}
use Rattle.go_parser.proofs.Keeps.{row_keeps, meets_keeps}

-- what a frame does at the token, before the trees go on
pub feed_with : (u : Token) (x : Frame) (s : Stack) (w : Flow) → w ≡ row u x s → goes_on (hands u s) w ≡ feed u (x ∷ s)
feed_with u x s w q = ap (goes_on (hands u s)) q

pub hands_with : (u : Token) (x : Frame) (v : Value) (s : Stack) (w : Flow) → w ≡ meets u x v s → goes_on (hands u s) w ≡ hands u (x ∷ s) v
hands_with u x v s w q = ap (goes_on (hands u s)) q

row_below : (u : Token) (x : Frame) (s : Stack) (v : Value) (r : Stack) → Over v r ≡ row u x s → r ≡ s
row_below u x s v r q = let P : Flow → Type 0 = below_is s in subst P (sym q) (row_keeps u x s)

meets_below : (u : Token) (x : Frame) (v : Value) (s : Stack) (v' : Value) (r : Stack) → Over v' r ≡ meets u x v s → r ≡ s
meets_below u x v s v' r q = let P : Flow → Type 0 = below_is s in subst P (sym q) (meets_keeps u x v s)

pub feed_over : FeedOver
feed_over u x s v r q = ap (λ z. hands u z v) (row_below u x s v r q) ∙ feed_with u x s (Over v r) q

pub hands_over : HandsOver
hands_over u x v s v' r q = ap (λ z. hands u z v') (meets_below u x v s v' r q) ∙ hands_with u x v s (Over v' r) q

pub fewer_left : FewerLeft
fewer_left u x v s v' r t top q =
    let same : length r ≡ length s = ap length (meets_below u x v s v' r q) in
    let all : length t ≡ length (x ∷ s) = ap length top in
    omega (arith, same, all)
