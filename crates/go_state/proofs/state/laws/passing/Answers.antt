use Rattle.std.proofs.Common.{◌≡◌, refl, ℕ, List, [], ◌∷◌, drop}
use Rattle.go_core.specs.CoreTree.{CoreProgram}
use Rattle.go_core.specs.Goroutine.{Task, drop_values, push_value, leave, Frame, State, Move}
use Rattle.go_core.specs.GoStep.{tasks_step}
use Rattle.go_state.specs.Passed.{passed}
use Rattle.go_state.proofs.state.laws.passing.Goals as goal

steps_past : (p : CoreProgram) (choices : List ℕ) (move : Move) (g : ℕ) (ts : List Task) (f : Frame) (below : List Frame) (s : State)
    → tasks_step p choices move g ts f below s
    ≡ tasks_step p choices move g (passed ts f.values).tasks (record f { values = (passed ts f.values).values }) below s
steps_past p choices move g [] f below s = refl
steps_past p choices move g (drop_values n ∷ ts) f below s = steps_past p choices move g ts (record f { values = drop n f.values }) below s
steps_past p choices move g (push_value x ∷ ts) f below s = steps_past p choices move g ts (record f { values = x ∷ f.values }) below s
steps_past p choices move g (leave l ∷ ts) f below s = steps_past p choices move g ts f below s
steps_past p choices move g (t ∷ ts) f below s = refl

pub returns : goal.returns
returns c = record { passed = steps_past }
