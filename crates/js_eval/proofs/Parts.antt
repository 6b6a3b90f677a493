-- How parts of a script that have two parts go on.
use Rattle.std.proofs.Common.{◌≡◌, refl, ap, sym, subst, ◌∙◌, ℕ, List, Bool, true, false, Option}
use Rattle.js_tree.specs.Value.{Value, World, Frame, Locals, Outcome, gives, throws, over, and_then, in_frame, choose}
use Rattle.js_tree.specs.Evaluate.{truth_of, frame}
use Rattle.js_eval.specs.Limited.{Deeper}
use Rattle.js_eval.specs.declared.state.Stop.{Stop}
use Rattle.std.specs.Result.{IsErrAnd}
use Rattle.std.specs.Prelude.{Result, Ok, Err}
use Rattle.js_eval.specs.Seen.{Stops, Gives}
use Rattle.js_eval.proofs.Follows.{stops_then, stops_frame, then_then}

-- a condition that is known
pub condition_known : {A : Type 0} (o : Outcome World Value) (at : ℕ) (b : Bool) (w : World) (left right : World → Outcome World A) → and_then o (truth_of at) ≡ gives b w
    → and_then o (λ u w. and_then (truth_of at u w) (λ t. choose t left right)) ≡ choose b left right w
condition_known o at b w left right h = sym (then_then o (truth_of at) (λ t. choose t left right)) ∙ ap (λ o. and_then o (λ t. choose t left right)) h

-- what stops a condition stops what goes on after it
pub condition_stops : {A : Type 0} (deeper : Deeper) (x : Stop) (v : World) (o : Outcome World Value) (at : ℕ) (next : Bool → World → Outcome World A)
    → Stops deeper x v v (and_then o (truth_of at)) → Stops deeper x v v (and_then o (λ u w. and_then (truth_of at u w) next))
condition_stops {A = A} deeper x v o at next h =
    subst (λ (o : Outcome World A). Stops deeper x v v o) (then_then o (truth_of at) next) (stops_then deeper x v v (and_then o (truth_of at)) next h)

-- the values of two parts, from the left
abbrev pub both_of : Outcome World Value → (World → Outcome World Value) → Outcome World (Value × Value)
both_of o b = and_then o (λ u w. and_then (b w) (λ v w. gives (u, v) w))

pair_inner : {A : Type 0} (u : Value) (x : Outcome World Value) (next : Value → Value → World → Outcome World A)
    → and_then (and_then x (λ v w. gives (u, v) w)) (λ (p : Value × Value) w. next p.0 p.1 w) ≡ and_then x (λ v w. next u v w)
pair_inner u (gives v w) next = refl
pair_inner u (throws at v w) next = refl
pair_inner u (over e w) next = refl

pub pair_then : {A : Type 0} (o : Outcome World Value) (b : World → Outcome World Value) (next : Value → Value → World → Outcome World A)
    → and_then (both_of o b) (λ (p : Value × Value) w. next p.0 p.1 w) ≡ and_then o (λ u w. and_then (b w) (λ v w. next u v w))
pair_then (gives u w) b next = pair_inner u (b w) next
pair_then (throws at v w) b next = refl
pair_then (over e w) b next = refl

pub pair_known : {A : Type 0} (o : Outcome World Value) (b : World → Outcome World Value) (p : Value × Value) (w : World) (next : Value → Value → World → Outcome World A)
    → both_of o b ≡ gives p w → and_then o (λ u w. and_then (b w) (λ v w. next u v w)) ≡ next p.0 p.1 w
pair_known o b p w next h = sym (pair_then o b next) ∙ ap (λ o. and_then o (λ (p : Value × Value) w. next p.0 p.1 w)) h

pub pair_stops : {A : Type 0} (deeper : Deeper) (x : Stop) (v : World) (o : Outcome World Value) (b : World → Outcome World Value) (next : Value → Value → World → Outcome World A)
    → Stops deeper x v v (both_of o b) → Stops deeper x v v (and_then o (λ u w. and_then (b w) (λ v w. next u v w)))
pair_stops {A = A} deeper x v o b next h =
    subst (λ (o : Outcome World A). Stops deeper x v v o) (pair_then o b next) (stops_then deeper x v v (both_of o b) (λ (p : Value × Value) w. next p.0 p.1 w) h)

-- the same in a call
frame_inner : {A : Type 0} (ls : Locals) (u : Value) (x : Outcome World Value) (next : Value → Value → Frame → Outcome Frame A)
    → and_then (in_frame ls (and_then x (λ v w. gives (u, v) w))) (λ (p : Value × Value) f. next p.0 p.1 f) ≡ and_then (in_frame ls x) (λ v f. next u v f)
frame_inner ls u (gives v w) next = refl
frame_inner ls u (throws at v w) next = refl
frame_inner ls u (over e w) next = refl

pub frame_then : {A : Type 0} (ls : Locals) (o : Outcome World Value) (b : Locals → World → Outcome World Value) (next : Value → Value → Frame → Outcome Frame A)
    → and_then (in_frame ls (both_of o (b ls))) (λ (p : Value × Value) f. next p.0 p.1 f)
    ≡ and_then (in_frame ls o) (λ u f. and_then (in_frame f.locals (b f.locals f.world)) (λ v f. next u v f))
frame_then ls (gives u w) b next = frame_inner ls u (b ls w) next
frame_then ls (throws at v w) b next = refl
frame_then ls (over e w) b next = refl

pub frame_known : {A : Type 0} (ls : Locals) (o : Outcome World Value) (b : Locals → World → Outcome World Value) (p : Value × Value) (w : World) (next : Value → Value → Frame → Outcome Frame A)
    → both_of o (b ls) ≡ gives p w → and_then (in_frame ls o) (λ u f. and_then (in_frame f.locals (b f.locals f.world)) (λ v f. next u v f)) ≡ next p.0 p.1 (frame ls w)
frame_known ls o b p w next h =
    sym (frame_then ls o b next) ∙ ap (λ o. and_then (in_frame ls o) (λ (p : Value × Value) f. next p.0 p.1 f)) h

pub frame_stops : {A : Type 0} (deeper : Deeper) (x : Stop) (ls : Locals) (w : World) (o : Outcome World Value) (b : Locals → World → Outcome World Value) (next : Value → Value → Frame → Outcome Frame A)
    → Stops deeper x w w (both_of o (b ls))
    → Stops deeper x (frame ls w) w (and_then (in_frame ls o) (λ u f. and_then (in_frame f.locals (b f.locals f.world)) (λ v f. next u v f)))
frame_stops {A = A} deeper x ls w o b next h =
    subst (λ (o : Outcome Frame A). Stops deeper x (frame ls w) w o) (frame_then ls o b next)
    (stops_then deeper x (frame ls w) w (in_frame ls (both_of o (b ls))) (λ (p : Value × Value) f. next p.0 p.1 f) (stops_frame deeper x ls w (both_of o (b ls)) h))

-- what stops an expression stops the statement that goes on after it
pub stops_value : {A B : Type 0} (deeper : Deeper) (x : Stop) (ls : Locals) (w : World) (o : Outcome World A) (next : A → Frame → Outcome Frame B)
    → Stops deeper x w w o → Stops deeper x (frame ls w) w (and_then (in_frame ls o) next)
stops_value deeper x ls w o next h = stops_then deeper x (frame ls w) w (in_frame ls o) next (stops_frame deeper x ls w o h)

-- what `?` hands on stops as what it was handed
pub stopped : {S A B : Type 0} (deeper : Deeper) (view : A → B) (r : Result A Stop) (x : Stop) (s : S) (w : World) (o : Outcome S B)
    → IsErrAnd r (λ y. y ≡ x) → Stops deeper x s w o → Gives deeper view r s w o
stopped deeper view (Ok a) x s w o h t = absurd h
stopped deeper view (Err y) x s w o h t = subst (λ (x : Stop). Stops deeper x s w o) (sym h) t

-- what goes on after an answer does what follows it
pub value_goes : {S A B C : Type 0} (deeper : Deeper) (view : C → B) (r : Result C Stop) (s : S) (w : World) (o : Outcome S A) (a : A) (t : S) (next : A → S → Outcome S B)
    → o ≡ gives a t → Gives deeper view r s w (next a t) → Gives deeper view r s w (and_then o next)
value_goes {S = S} {B = B} deeper view r s w o a t next h g = subst (λ (o : Outcome S B). Gives deeper view r s w o) (sym (ap (λ o. and_then o next) h)) g

-- the same answer, said otherwise
pub given_as : {S A B C : Type 0} (deeper : Deeper) (view : C → B) (r : Result C Stop) (s : S) (w : World) (f : A → Outcome S B) (o o' : A)
    → o ≡ o' → Gives deeper view r s w (f o) → Gives deeper view r s w (f o')
given_as {S = S} {B = B} deeper view r s w f o o' h g = subst (λ (o : Outcome S B). Gives deeper view r s w o) (ap f h) g

pub pair_goes : {A C : Type 0} (deeper : Deeper) (view : C → A) (r : Result C Stop) (s w : World) (o : Outcome World Value) (b : World → Outcome World Value) (p : Value × Value) (t : World) (next : Value → Value → World → Outcome World A)
    → both_of o b ≡ gives p t → Gives deeper view r s w (next p.0 p.1 t) → Gives deeper view r s w (and_then o (λ u w. and_then (b w) (λ v w. next u v w)))
pair_goes {A = A} deeper view r s w o b p t next h g = subst (λ (o : Outcome World A). Gives deeper view r s w o) (sym (pair_known o b p t next h)) g

pub condition_true : {A C : Type 0} (deeper : Deeper) (view : C → A) (r : Result C Stop) (s w : World) (o : Outcome World Value) (at : ℕ) (b : Bool) (t : World) (left right : World → Outcome World A)
    → and_then o (truth_of at) ≡ gives b t → b ≡ true → Gives deeper view r s w (left t)
    → Gives deeper view r s w (and_then o (λ u w. and_then (truth_of at u w) (λ t. choose t left right)))
condition_true {A = A} deeper view r s w o at b t left right h k g =
    subst (λ (o : Outcome World A). Gives deeper view r s w o) (sym (condition_known o at b t left right h ∙ ap (λ (b : Bool). choose b left right t) k)) g

pub condition_false : {A C : Type 0} (deeper : Deeper) (view : C → A) (r : Result C Stop) (s w : World) (o : Outcome World Value) (at : ℕ) (b : Bool) (t : World) (left right : World → Outcome World A)
    → and_then o (truth_of at) ≡ gives b t → b ≡ false → Gives deeper view r s w (right t)
    → Gives deeper view r s w (and_then o (λ u w. and_then (truth_of at u w) (λ t. choose t left right)))
condition_false {A = A} deeper view r s w o at b t left right h k g =
    subst (λ (o : Outcome World A). Gives deeper view r s w o) (sym (condition_known o at b t left right h ∙ ap (λ (b : Bool). choose b left right t) k)) g

pub value_in_goes : {A B C : Type 0} (deeper : Deeper) (view : C → B) (r : Result C Stop) (s : Frame) (w : World) (ls : Locals) (o : Outcome World A) (a : A) (t : World) (next : A → Frame → Outcome Frame B)
    → o ≡ gives a t → Gives deeper view r s w (next a (frame ls t)) → Gives deeper view r s w (and_then (in_frame ls o) next)
value_in_goes {B = B} deeper view r s w ls o a t next h g =
    subst (λ (o : Outcome Frame B). Gives deeper view r s w o) (sym (ap (λ o. and_then (in_frame ls o) next) h)) g

pub condition_is_true : {A : Type 0} (o : Outcome World Value) (at : ℕ) (b : Bool) (t : World) (left right : World → Outcome World A) → and_then o (truth_of at) ≡ gives b t → b ≡ true
    → and_then o (λ u w. and_then (truth_of at u w) (λ t. choose t left right)) ≡ left t
condition_is_true o at b t left right h k = condition_known o at b t left right h ∙ ap (λ (b : Bool). choose b left right t) k

pub condition_is_false : {A : Type 0} (o : Outcome World Value) (at : ℕ) (b : Bool) (t : World) (left right : World → Outcome World A) → and_then o (truth_of at) ≡ gives b t → b ≡ false
    → and_then o (λ u w. and_then (truth_of at u w) (λ t. choose t left right)) ≡ right t
condition_is_false o at b t left right h k = condition_known o at b t left right h ∙ ap (λ (b : Bool). choose b left right t) k

-- a call, and then on
abbrev pub call_does : Outcome World Value → (World → Outcome World (List Value)) → (Value → List Value → World → Outcome World (Option Value)) → Outcome World (Option Value)
call_does o es k = and_then o (λ u w. and_then (es w) (λ vs w. k u vs w))

call_inner : {A : Type 0} (x : Outcome World (List Value)) (k : List Value → World → Outcome World (Option Value)) (g : Option Value → World → Outcome World A)
    → and_then (and_then x (λ vs w. k vs w)) g ≡ and_then x (λ vs w. and_then (k vs w) g)
call_inner (gives vs w) k g = refl
call_inner (throws at v w) k g = refl
call_inner (over e w) k g = refl

pub call_then : {A : Type 0} (o : Outcome World Value) (es : World → Outcome World (List Value)) (k : Value → List Value → World → Outcome World (Option Value)) (g : Option Value → World → Outcome World A)
    → and_then (call_does o es k) g ≡ and_then o (λ u w. and_then (es w) (λ vs w. and_then (k u vs w) g))
call_then (gives u w) es k g = call_inner (es w) (k u) g
call_then (throws at v w) es k g = refl
call_then (over e w) es k g = refl

pub call_stops : {A : Type 0} (deeper : Deeper) (x : Stop) (v : World) (o : Outcome World Value) (es : World → Outcome World (List Value)) (k : Value → List Value → World → Outcome World (Option Value)) (g : Option Value → World → Outcome World A)
    → Stops deeper x v v (call_does o es k) → Stops deeper x v v (and_then o (λ u w. and_then (es w) (λ vs w. and_then (k u vs w) g)))
call_stops {A = A} deeper x v o es k g h =
    subst (λ (o : Outcome World A). Stops deeper x v v o) (call_then o es k g) (stops_then deeper x v v (call_does o es k) g h)

pub call_goes : {A C : Type 0} (deeper : Deeper) (view : C → A) (r : Result C Stop) (s w : World) (o : Outcome World Value) (es : World → Outcome World (List Value)) (k : Value → List Value → World → Outcome World (Option Value)) (g : Option Value → World → Outcome World A) (a : Option Value) (t : World)
    → call_does o es k ≡ gives a t → Gives deeper view r s w (g a t) → Gives deeper view r s w (and_then o (λ u w. and_then (es w) (λ vs w. and_then (k u vs w) g)))
call_goes {A = A} deeper view r s w o es k g a t h q =
    subst (λ (o : Outcome World A). Gives deeper view r s w o) (sym (ap (λ o. and_then o g) h) ∙ call_then o es k g) q
