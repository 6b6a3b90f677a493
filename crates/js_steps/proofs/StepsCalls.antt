-- Calls, and lists of expressions: laws on definitions alone.
use Rattle.std.proofs.Common.{◌≡◌, refl, ap, sym, ◌∙◌, ℕ, List, [], ◌∷◌, ◌++◌, Some, None, append_assoc}
use Rattle.std.proofs.lemmas.List.{append-nil}
use Rattle.js_tree.specs.Script.{Expr, call, array, Exprs, no_exprs, expr, perform}
use Rattle.js_tree.specs.Value as run
use Rattle.js_tree.specs.Value.{Value, items, World, Outcome, gives, throws, over, and_then, given}
use Rattle.js_tree.specs.Evaluate.{Setting, Called, Flow, onward, returns, breaks, continues, eval, eval_all, call_value, call_result, allocated}
use Rattle.js_steps.specs.declared.frames.frame.Use.{Use}
use Rattle.js_steps.specs.declared.frames.frame.Use.TheVariants.{Needed, Dropped}
use Rattle.js_steps.specs.Moment.{Moment, Out, in_world, valued, flowing, expr_does, stmt_does, with_value, called_here, with_values, arguments_do, elements_do}
use Rattle.js_steps.specs.Stack.{left, back_in}

-- a call that needs a value
called_is : (m : Moment) (at : ℕ) (w : World) (c : Called) → valued m (and_then c (given at)) ≡ called_here at Needed (in_world m w) c
called_is m at w (gives None u) = refl
called_is m at w (gives (Some v) u) = refl
called_is m at w (throws j v u) = refl
called_is m at w (over e u) = refl

-- values, and then on
values_go : (m : Moment) (w : World) (o : Outcome World (List Value)) (next : List Value → World → Outcome World Value) (next' : List Value → Moment → Out)
    → ((vs : List Value) (w : World) → valued m (next vs w) ≡ next' vs (in_world m w)) → valued m (and_then o next) ≡ with_values (in_world m w) o next'
values_go m w (gives vs u) next next' h = h vs u
values_go m w (throws at v u) next next' h = refl
values_go m w (over e u) next next' h = refl

value_then : (m : Moment) (o : Outcome World Value) (next : Value → World → Outcome World Value) (next' : Value → Moment → Out)
    → ((v : Value) (w : World) → valued m (next v w) ≡ next' v (in_world m w)) → valued m (and_then o next) ≡ with_value (valued m o) next'
value_then m (gives v w) next next' h = h v w
value_then m (throws at v w) next next' h = refl
value_then m (over e w) next next' h = refl

pub call_is : (st : Setting) (m : Moment) (at : ℕ) (f : Expr) (es : Exprs)
    → expr_does st (call at f es) m ≡ with_value (expr_does st f m) (λ v m. arguments_do st at Needed v [] es m)
call_is st m at f es =
    value_then m (eval st m.scope m.locals f m.world) _ _
    (λ u w. values_go m w (eval_all st m.scope m.locals es w) _ _ (λ vs w. called_is m at w (call_value st at u vs w)))

-- a call that a statement drops
dropped_is : (m : Moment) (at : ℕ) (w : World) (c : Called) → flowing m (and_then (run.in_frame m.locals c) (λ _ f. gives onward f)) ≡ called_here at Dropped (in_world m w) c
dropped_is m at w (gives o u) = refl
dropped_is m at w (throws j v u) = refl
dropped_is m at w (over e u) = refl

dropped_values : (m : Moment) (at : ℕ) (w : World) (o : Outcome World (List Value)) (k : List Value → World → Called) (k' : List Value → Moment → Out)
    → ((vs : List Value) (w : World) → flowing m (and_then (run.in_frame m.locals (k vs w)) (λ _ f. gives onward f)) ≡ k' vs (in_world m w))
    → flowing m (and_then (run.in_frame m.locals (and_then o k)) (λ _ f. gives onward f)) ≡ with_values (in_world m w) o k'
dropped_values m at w (gives vs u) k k' h = h vs u
dropped_values m at w (throws j v u) k k' h = refl
dropped_values m at w (over e u) k k' h = refl

dropped_value : (m : Moment) (o : Outcome World Value) (k : Value → World → Called) (k' : Value → Moment → Out)
    → ((v : Value) (w : World) → flowing m (and_then (run.in_frame m.locals (k v w)) (λ _ f. gives onward f)) ≡ k' v (in_world m w))
    → flowing m (and_then (run.in_frame m.locals (and_then o k)) (λ _ f. gives onward f)) ≡ with_value (valued m o) k'
dropped_value m (gives v w) k k' h = h v w
dropped_value m (throws j v u) k k' h = refl
dropped_value m (over e u) k k' h = refl

pub perform_call_is : (st : Setting) (m : Moment) (j at : ℕ) (f : Expr) (es : Exprs)
    → stmt_does st (perform j (call at f es)) m ≡ with_value (expr_does st f m) (λ v m. arguments_do st at Dropped v [] es m)
perform_call_is st m j at f es =
    dropped_value m (eval st m.scope m.locals f m.world) _ _
    (λ u w. dropped_values m at w (eval_all st m.scope m.locals es w) _ _ (λ vs w. dropped_is m at w (call_value st at u vs w)))

-- one more value, before those of what is left
onto : (m : Moment) (v : Value) (done : List Value) (w : World) (o : Outcome World (List Value)) (next : List Value → Moment → Out)
    → with_values m (and_then o (λ vs w. gives (v ∷ vs) w)) (λ vs m. next (done ++ vs) m) ≡ with_values (in_world m w) o (λ vs m. next ((done ++ v ∷ []) ++ vs) m)
onto m v done w (gives vs u) next = ap (λ (zs : List Value). next zs (in_world m u)) (sym (append_assoc done (v ∷ []) vs))
onto m v done w (throws at x u) next = refl
onto m v done w (over e u) next = refl

onto_value : (m : Moment) (done : List Value) (o : Outcome World Value) (es : World → Outcome World (List Value)) (next : List Value → Moment → Out) (next' : Value → Moment → Out)
    → ((v : Value) (w : World) → with_values (in_world m w) (es w) (λ vs m. next ((done ++ v ∷ []) ++ vs) m) ≡ next' v (in_world m w))
    → with_values m (and_then o (λ v w. and_then (es w) (λ vs w. gives (v ∷ vs) w))) (λ vs m. next (done ++ vs) m) ≡ with_value (valued m o) next'
onto_value m done (gives v w) es next next' h = onto m v done w (es w) next ∙ h v w
onto_value m done (throws at v w) es next next' h = refl
onto_value m done (over e w) es next next' h = refl

pub argument_is : (st : Setting) (m : Moment) (at : ℕ) (u : Use) (f : Value) (done : List Value) (e : Expr) (es : Exprs)
    → arguments_do st at u f done (expr e es) m ≡ with_value (expr_does st e m) (λ v m. arguments_do st at u f (done ++ v ∷ []) es m)
argument_is st m at u f done e es =
    onto_value m done (eval st m.scope m.locals e m.world) (eval_all st m.scope m.locals es) (λ vs m. called_here at u m (call_value st at f vs m.world)) _ (λ v w. refl)

pub arguments_end : (st : Setting) (m : Moment) (at : ℕ) (u : Use) (f : Value) (done : List Value) → arguments_do st at u f done no_exprs m ≡ called_here at u m (call_value st at f done m.world)
arguments_end st m at u f done = ap (λ (vs : List Value). called_here at u m (call_value st at f vs m.world)) (append-nil done)

pub element_is : (st : Setting) (m : Moment) (done : List Value) (e : Expr) (es : Exprs)
    → elements_do st done (expr e es) m ≡ with_value (expr_does st e m) (λ v m. elements_do st (done ++ v ∷ []) es m)
element_is st m done e es =
    onto_value m done (eval st m.scope m.locals e m.world) (eval_all st m.scope m.locals es) (λ vs m. valued m (allocated (items vs) m.world)) _ (λ v w. refl)

pub elements_end : (st : Setting) (m : Moment) (done : List Value) → elements_do st done no_exprs m ≡ valued m (allocated (items done) m.world)
elements_end st m done = ap (λ (vs : List Value). valued m (allocated (items vs) m.world)) (append-nil done)

pub array_is : (st : Setting) (m : Moment) (at : ℕ) (es : Exprs) → expr_does st (array at es) m ≡ elements_do st [] es m
array_is st m at es = by (eval_all st m.scope m.locals es m.world)
  where
    by : (o : Outcome World (List Value)) → valued m (and_then o (λ vs w. allocated (items vs) w)) ≡ with_values m o (λ vs m. valued m (allocated (items ([] ++ vs)) m.world))
    by (gives vs w) = refl
    by (throws j v w) = refl
    by (over e w) = refl

-- what a call comes to is the same in any world of its moment
called_in : (m : Moment) (at : ℕ) (u : Use) (w : World) (c : Called) → called_here at u (in_world m w) c ≡ called_here at u m c
called_in m at Needed w (gives None x) = refl
called_in m at Needed w (gives (Some v) x) = refl
called_in m at Dropped w (gives o x) = refl
called_in m at Needed w (throws j v x) = refl
called_in m at Dropped w (throws j v x) = refl
called_in m at Needed w (over e x) = refl
called_in m at Dropped w (over e x) = refl

-- 13.2.1: a call does what its body does, and goes back to the caller's part
pub leaves : (m n : Moment) (there : Moment → Moment) (at : ℕ) (u : Use) (o : Outcome run.Frame Flow) → ((k : Moment) → there k ≡ in_world m k.world)
    → called_here at u m (call_result o) ≡ left at u (back_in there (flowing n o))
leaves m n there at u (gives (returns v) f) h =
    sym (ap (λ (k : Moment). called_here at u k (gives v k.world)) (h (record n { locals = f.locals; world = f.world })) ∙ called_in m at u f.world (gives v f.world))
leaves m n there at u (gives onward f) h =
    sym (ap (λ (k : Moment). called_here at u k (gives None k.world)) (h (record n { locals = f.locals; world = f.world })) ∙ called_in m at u f.world (gives None f.world))
leaves m n there at u (gives (breaks x) f) h =
    sym (ap (λ (k : Moment). called_here at u k (gives None k.world)) (h (record n { locals = f.locals; world = f.world })) ∙ called_in m at u f.world (gives None f.world))
leaves m n there at u (gives (continues x) f) h =
    sym (ap (λ (k : Moment). called_here at u k (gives None k.world)) (h (record n { locals = f.locals; world = f.world })) ∙ called_in m at u f.world (gives None f.world))
leaves m n there at Needed (throws j v f) h = ap (λ (k : Moment). throws j v k) (sym (h (record n { locals = f.locals; world = f.world })))
leaves m n there at Dropped (throws j v f) h = ap (λ (k : Moment). throws j v k) (sym (h (record n { locals = f.locals; world = f.world })))
leaves m n there at Needed (over e w) h = refl
leaves m n there at Dropped (over e w) h = refl
