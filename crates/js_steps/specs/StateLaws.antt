-- States of which arrays and dictionaries alone are others.
use Rattle.std.proofs.Common.{◌≡◌, ◌≤◌, ap, sym, ◌∙◌, subst, ℕ, List, Option}
use Rattle.std.specs.Borrow.{Bor}
use Rattle.js_tree.specs.Script.{ScriptTree}
use Rattle.js_code.specs.Names.{distinct}
use Rattle.js_code.specs.Slots.{slots_of}
use Rattle.js_code.specs.Parts.{trees_of}
use Rattle.js_value.specs.declared.heap.value.Value as held
use Rattle.js_simple.specs.Seen.{slots_in}
use Rattle.js_steps.specs.Bodies.{IsBody, names_in}
use Rattle.js_steps.specs.declared.bodies.body.Body.{Body}
use Rattle.js_steps.specs.declared.frames.frame.Frame.{Frame}
use Rattle.js_steps.specs.declared.frames.state.State.{State}
use Rattle.js_steps.specs.Moment.{Moment, in_world}
use Rattle.js_steps.specs.Stack.{scope_in}
use Rattle.js_steps.specs.Stands.{Before, Variables, Stands, OnlyObjects, moment, world_of}

-- where a run is with such a body, and what was caught
abbrev at_body : Before → Variables → State → Bor Body → Option held.Value → Moment
at_body b vs s k caught = record { trees = trees_of k.now.code; scope = scope_in k.now caught; locals = vs.locals; world = world_of b vs s }

pub moment_objects : (b : Before) (vs : Variables) (s s' : State) → OnlyObjects s s' → moment b vs s' ≡ in_world (moment b vs s) (world_of b vs s')
moment_objects b vs s s' h = ap (λ (k : Bor Body). at_body b vs s' k s'.caught) h.body ∙ ap (at_body b vs s' s.body) h.caught

pub stands_objects : (script : ScriptTree) (fuel : ℕ) (vs : Variables) (stack : List Frame) (s s' : State) → OnlyObjects s s' → Stands script fuel vs stack s → Stands script fuel vs stack s'
stands_objects script fuel vs stack s s' h k = record {
  body = subst (λ (x : Bor Body). IsBody script x.now) (sym h.body) k.body;
  locals = ap (λ (x : Bor Body). slots_of (distinct (names_in x.now)) vs.locals) h.body ∙ k.locals ∙ ap (λ v. slots_in v.items) (sym h.locals);
  globals = k.globals ∙ ap (λ v. slots_in v.items) (sym h.globals);
  only = k.only;
  callers = k.callers;
  few = subst (λ (n : ℕ). n ≤ fuel) (sym h.left) k.few;
}
