-- How what an expression does goes on.
use Rattle.std.proofs.Common.{◌≡◌, refl, ap, sym, subst, ◌∙◌, ℕ, List, [], ◌∷◌, ◌++◌, Bool, true, false, append_assoc}
use Rattle.std.specs.Result.{IsErrAnd}
use Rattle.std.specs.Prelude.{Result, Ok, Err}
use Rattle.js_tree.specs.Value.{Value, World, Outcome, gives, throws, over, and_then, choose}
use Rattle.js_tree.specs.Evaluate.{truth_of}
use Rattle.js_simple.specs.declared.state.Halt.{Halt}
use Rattle.js_simple.specs.declared.state.Halt.TheVariants.{Stuck, NoMemory}
use Rattle.js_simple.specs.Seen.{Stops, Gives}

-- what stops a part stops what goes on after it
pub stops_then : {A B : Type 0} (x : Halt) (w : World) (o : Outcome World A) (next : A → World → Outcome World B)
    → Stops x w o → Stops x w (and_then o next)
stops_then (Stuck at) w o next h = ap (λ o. and_then o next) h
stops_then NoMemory w o next h = tt

-- what stops one stops what is equal to it
pub stops_as : {A : Type 0} (x : Halt) (w : World) (o o' : Outcome World A) → o ≡ o' → Stops x w o' → Stops x w o
stops_as {A = A} x w o o' h g = subst (λ (o : Outcome World A). Stops x w o) (sym h) g

pub gives_as : {A C : Type 0} (view : C → A) (r : Result C Halt) (w : World) (o o' : Outcome World A)
    → o ≡ o' → Gives view r w o' → Gives view r w o
gives_as {A = A} view r w o o' h g = subst (λ (o : Outcome World A). Gives view r w o) (sym h) g

-- what `?` hands on stops as what it was handed
pub stopped : {A B : Type 0} (view : A → B) (r : Result A Halt) (x : Halt) (w : World) (o : Outcome World B)
    → IsErrAnd r (λ y. y ≡ x) → Stops x w o → Gives view r w o
stopped view (Ok a) x w o h t = absurd h
stopped view (Err y) x w o h t = subst (λ (x : Halt). Stops x w o) (sym h) t

-- what goes on after an answer does what follows it
pub value_goes : {A B C : Type 0} (view : C → B) (r : Result C Halt) (w : World) (o : Outcome World A) (a : A) (t : World) (next : A → World → Outcome World B)
    → o ≡ gives a t → Gives view r w (next a t) → Gives view r w (and_then o next)
value_goes {B = B} view r w o a t next h g = subst (λ (o : Outcome World B). Gives view r w o) (sym (ap (λ o. and_then o next) h)) g

-- the same answer, said otherwise
pub given_as : {A B C : Type 0} (view : C → B) (r : Result C Halt) (w : World) (f : A → Outcome World B) (o o' : A)
    → o ≡ o' → Gives view r w (f o) → Gives view r w (f o')
given_as {B = B} view r w f o o' h g = subst (λ (o : Outcome World B). Gives view r w o) (ap f h) g

-- one after the other, and then on
pub then_then : {A B C : Type 0} (o : Outcome World A) (f : A → World → Outcome World B) (g : B → World → Outcome World C)
    → and_then (and_then o f) g ≡ and_then o (λ a s. and_then (f a s) g)
then_then (gives a s) f g = refl
then_then (throws at v s) f g = refl
then_then (over e w) f g = refl

-- a condition that is known
pub condition_known : {A : Type 0} (o : Outcome World Value) (at : ℕ) (b : Bool) (w : World) (left right : World → Outcome World A) → and_then o (truth_of at) ≡ gives b w
    → and_then o (λ u w. and_then (truth_of at u w) (λ t. choose t left right)) ≡ choose b left right w
condition_known o at b w left right h = sym (then_then o (truth_of at) (λ t. choose t left right)) ∙ ap (λ o. and_then o (λ t. choose t left right)) h

-- what stops a condition stops what goes on after it
pub condition_stops : {A : Type 0} (x : Halt) (v : World) (o : Outcome World Value) (at : ℕ) (next : Bool → World → Outcome World A)
    → Stops x v (and_then o (truth_of at)) → Stops x v (and_then o (λ u w. and_then (truth_of at u w) next))
condition_stops {A = A} x v o at next h =
    subst (λ (o : Outcome World A). Stops x v o) (then_then o (truth_of at) next) (stops_then x v (and_then o (truth_of at)) next h)

pub condition_true : {A C : Type 0} (view : C → A) (r : Result C Halt) (w : World) (o : Outcome World Value) (at : ℕ) (b : Bool) (t : World) (left right : World → Outcome World A)
    → and_then o (truth_of at) ≡ gives b t → b ≡ true → Gives view r w (left t)
    → Gives view r w (and_then o (λ u w. and_then (truth_of at u w) (λ t. choose t left right)))
condition_true {A = A} view r w o at b t left right h k g =
    subst (λ (o : Outcome World A). Gives view r w o) (sym (condition_known o at b t left right h ∙ ap (λ (b : Bool). choose b left right t) k)) g

pub condition_false : {A C : Type 0} (view : C → A) (r : Result C Halt) (w : World) (o : Outcome World Value) (at : ℕ) (b : Bool) (t : World) (left right : World → Outcome World A)
    → and_then o (truth_of at) ≡ gives b t → b ≡ false → Gives view r w (right t)
    → Gives view r w (and_then o (λ u w. and_then (truth_of at u w) (λ t. choose t left right)))
condition_false {A = A} view r w o at b t left right h k g =
    subst (λ (o : Outcome World A). Gives view r w o) (sym (condition_known o at b t left right h ∙ ap (λ (b : Bool). choose b left right t) k)) g

-- the values so far before those of what is left: one more
onto_inner : (done : List Value) (v : Value) (x : Outcome World (List Value))
    → and_then (and_then x (λ vs w. gives (v ∷ vs) w)) (λ vs w. gives (done ++ vs) w) ≡ and_then x (λ vs w. gives ((done ++ v ∷ []) ++ vs) w)
onto_inner done v (gives vs w) = ap (λ (zs : List Value). gives zs w) (sym (append_assoc done (v ∷ []) vs))
onto_inner done v (throws at u w) = refl
onto_inner done v (over e w) = refl

pub onto_more : (done : List Value) (o : Outcome World Value) (es : World → Outcome World (List Value)) (v : Value) (t : World) → o ≡ gives v t
    → and_then (and_then o (λ v w. and_then (es w) (λ vs w. gives (v ∷ vs) w))) (λ vs w. gives (done ++ vs) w)
    ≡ and_then (es t) (λ vs w. gives ((done ++ v ∷ []) ++ vs) w)
onto_more done o es v t h =
    ap (λ o. and_then (and_then o (λ v w. and_then (es w) (λ vs w. gives (v ∷ vs) w))) (λ vs w. gives (done ++ vs) w)) h ∙ onto_inner done v (es t)

pub condition_is_true : {A : Type 0} (o : Outcome World Value) (at : ℕ) (b : Bool) (t : World) (left right : World → Outcome World A) → and_then o (truth_of at) ≡ gives b t → b ≡ true
    → and_then o (λ u w. and_then (truth_of at u w) (λ t. choose t left right)) ≡ left t
condition_is_true o at b t left right h k = condition_known o at b t left right h ∙ ap (λ (b : Bool). choose b left right t) k

pub condition_is_false : {A : Type 0} (o : Outcome World Value) (at : ℕ) (b : Bool) (t : World) (left right : World → Outcome World A) → and_then o (truth_of at) ≡ gives b t → b ≡ false
    → and_then o (λ u w. and_then (truth_of at u w) (λ t. choose t left right)) ≡ right t
condition_is_false o at b t left right h k = condition_known o at b t left right h ∙ ap (λ (b : Bool). choose b left right t) k

-- values after none
pub after_none : (o : Outcome World (List Value)) (done vs : List Value) (t : World) → done ≡ [] → and_then o (λ vs w. gives (done ++ vs) w) ≡ gives vs t → o ≡ gives vs t
after_none o done vs t d h = by o (subst (λ (ds : List Value). and_then o (λ vs w. gives (ds ++ vs) w) ≡ gives vs t) d h)
  where
    by : (o : Outcome World (List Value)) → and_then o (λ vs w. gives ([] ++ vs) w) ≡ gives vs t → o ≡ gives vs t
    by (gives us s) h = h
    by (throws at v s) h = cc
    by (over e w) h = cc

-- what stops values after others stops what goes on after them
pub stops_onto : {A : Type 0} (x : Halt) (w : World) (o : Outcome World (List Value)) (done : List Value) (next : List Value → World → Outcome World A)
    → Stops x w (and_then o (λ vs w. gives (done ++ vs) w)) → Stops x w (and_then o next)
stops_onto (Stuck at) w (gives us t) done next h = cc
stops_onto (Stuck at) w (throws k v t) done next h = cc
stops_onto (Stuck at) w (over e t) done next h = cc
stops_onto NoMemory w o done next h = tt
