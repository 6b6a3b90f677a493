-- Ticks: a state with one fewer, and the world that the definitions go on with.
use Rattle.std.proofs.Common.{◌≡◌, ap, sym, ◌∙◌, subst, arith, ℕ, suc, List}
use Rattle.std.specs.Prelude.{◌≤◌, Ok}
use Rattle.js_tree.specs.Script.{ScriptTree}
use Rattle.js_tree.specs.Value.{World, Outcome, gives, over, Going, tick, tick_from}
use Rattle.js_steps.specs.declared.frames.frame.Frame.{Frame}
use Rattle.js_steps.specs.declared.frames.state.State.{State}
use Rattle.js_steps.specs.Moment.{in_world}
use Rattle.js_steps.specs.Stands.{Before, Variables, Stands, Ticked, moment, world_of}

pub stands_ticked : (script : ScriptTree) (fuel : ℕ) (vs : Variables) (stack : List Frame) (s s1 : State) → Ticked s s1 (Ok tt) → Stands script fuel vs stack s → Stands script fuel vs stack s1
stands_ticked script fuel vs stack s s1 t h =
    let e : s.left ≡ suc s1.left = t.0 in
    let l : s.left ≤ fuel = h.few in
    let few : s1.left ≤ fuel = omega (arith, e, l) in
    subst (Stands script fuel vs stack) (sym t.1) (record { body = h.body; locals = h.locals; globals = h.globals; only = h.only; callers = h.callers; few = few })

pub moment_ticked : (b : Before) (vs : Variables) (s s1 : State) → Ticked s s1 (Ok tt) → moment b vs s1 ≡ in_world (moment b vs s) (world_of b vs s1)
moment_ticked b vs s s1 t = ap (moment b vs) t.1 ∙ ap (λ (x : State). in_world (moment b vs s) (world_of b vs x)) (sym t.1)

-- the definitions take the same tick
pub tick_is : (b : Before) (vs : Variables) (s s1 : State) → Ticked s s1 (Ok tt) → tick (world_of b vs s) ≡ gives tt (world_of b vs s1)
tick_is b vs s s1 t = ap (λ (n : ℕ). tick_from n (world_of b vs s)) t.0 ∙ ap (λ (x : State). let o : Outcome World (Unit {0}) = gives tt (world_of b vs x) in o) (sym t.1)

pub tick_is_none : (b : Before) (vs : Variables) (s : State) → s.left ≡ 0 → tick (world_of b vs s) ≡ over Going (world_of b vs s)
tick_is_none b vs s e = ap (λ (n : ℕ). tick_from n (world_of b vs s)) e
