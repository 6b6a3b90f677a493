-- A call that has what is called.
use Rattle.std.proofs.Common.{◌≡◌, refl, ap, ◌∙◌, ℕ, List, [], Some, slice_get}
use Rattle.std.specs.Prelude.{Result}
use Rattle.js_tree.specs.Value.{Value, gives}
use Rattle.js_tree.specs.Evaluate.{Setting}
use Rattle.js_code.specs.Held.{part_of}
use Rattle.js_code.specs.Parts.{Tree, exprs_at, tree_of}
use Rattle.js_code.specs.declared.code.part.Part as kept
use Rattle.js_code.specs.declared.code.part.Part.TheVariants as held
use Rattle.js_steps.specs.declared.frames.frame.Frame.{Frame}
use Rattle.js_steps.specs.declared.frames.frame.Halt.{Halt}
use Rattle.js_steps.specs.declared.frames.frame.Task.{Task}
use Rattle.js_steps.specs.declared.frames.frame.Use.{Use}
use Rattle.js_steps.specs.declared.frames.state.Env.{Env}
use Rattle.js_steps.specs.declared.frames.state.State.{State}
use Rattle.js_steps.specs.Moment.{Moment, value, arguments_do}
use Rattle.js_steps.specs.PartWaits.{callee_does}
use Rattle.js_steps.specs.PartLaws.{steps_part_in}
use Rattle.js_steps.specs.Stands.{StepsIn}
use Rattle.js_steps.specs.WayLaws.{some_part}

pub callee_goes : (env : Env) (stack new : List Frame) (s s' : State) (r : Result Task Halt) (i : ℕ) (q : kept.Part) (at f es : ℕ) (u : Use) (v : Value) → slice_get s.body.now.code i ≡ Some (part_of q) → q ≡ held.Call at f es
    → StepsIn env stack s new s' r (λ st m. arguments_do st at u v [] (exprs_at m.trees es) m) → StepsIn env stack s new s' r (λ st m. callee_does st u (slice_get m.trees i) v m)
callee_goes env stack new s s' r i q at f es u v there is k = steps_part_in env stack new s s' r i (part_of (held.Call at f es)) (λ st t. callee_does st u t v) (there ∙ ap some_part is) k

pub no_callee : (p : kept.Part) → ((at f es : ℕ) → ¬ (p ≡ held.Call at f es)) → (st : Setting) (u : Use) (ts : List Tree) (v : Value) (m : Moment) → callee_does st u (Some (tree_of ts (part_of p))) v m ≡ gives (value v) m
no_callee (held.Call at f es) h st u ts v m = absurd (h at f es refl)
no_callee p h st u ts v m = refl
