-- Own: a state that is back in the caller's part.
use Rattle.std.specs.Prelude.{◌≡◌}
use Rattle.js_steps.specs.declared.frames.frame.Caller.{Caller}
use Rattle.js_steps.specs.declared.frames.state.State.{State}

pub record IsBack (k : Caller) (s s' : State) : Type 0 where
  pub left : s'.left ≡ s.left
  pub objects : s'.objects ≡ s.objects
  pub globals : s'.globals ≡ s.globals
  pub body : s'.body ≡ k.body
  pub locals : s'.locals ≡ k.locals
  pub caught : s'.caught ≡ k.caught
