-- What the functions of the host take, and what they do with it.
use Rattle.std.proofs.Common.{◌≡◌, refl, ap, sym, ◌∙◌, subst, arith, ℕ, List, [], ◌∷◌, length, get_or, Option, Some, None, option_map, Bool, true, false, cond}
use Rattle.std.specs.Prelude.{◌≤◌, ◌<◌, ◌+◌, ◌%◌, ◌^◌, ◌&&◌, pos, negsuc, nat_le, nat_lt, Result, Ok, Err}
use Rattle.std.specs.Borrow.{Bor}
use Rattle.std.specs.Result.{IsErrAnd}
use Rattle.std.proofs.lemmas.Bool.{lt-ltb}
use Rattle.js_tree.specs.Value.{Value, World, Outcome, whole, bytes, truth, nothing, object, function, gives, throws, over, and_then, tick}
use Rattle.js_tree.specs.Value as run
use Rattle.js_tree.specs.Evaluate.{setting, Called, written, picked, finished, choice_number}
use Rattle.js_steps.specs.declared.frames.frame.End.TheVariants as end
use Rattle.js_steps.specs.declared.frames.frame.Frame.{Frame}
use Rattle.js_steps.specs.declared.frames.frame.Halt.{Halt}
use Rattle.js_steps.specs.declared.frames.frame.Halt.TheVariants.{Over}
use Rattle.js_steps.specs.declared.frames.frame.Task.{Task}
use Rattle.js_steps.specs.declared.frames.frame.Task.TheVariants as next
use Rattle.js_steps.specs.declared.frames.frame.Use.{Use}
use Rattle.js_steps.specs.declared.frames.state.State.{State}
use Rattle.js_steps.specs.Moment.{Out, called_here}
use Rattle.js_steps.specs.Stack.{resume}
use Rattle.js_steps.specs.Stands.{Keeps, Steps, Ticked, moment, world_of}
use Rattle.js_steps.specs.StepLaws.{goes_as, stops}
use Rattle.js_steps.specs.TickLaws.{tick_is, tick_is_none}
use Rattle.js_steps.specs.Given.{text_in, text_value, status_in, bound_in}
use Rattle.js_steps.proofs.Goes.{stuck, same_kept}

-- lists of one and of two
pub one_only : {A : Type 0} (xs : List A) (x : A) → 1 ≤ length xs → length xs < 2 → x ≡ get_or xs 0 x → xs ≡ x ∷ []
one_only {A} [] x l h e = absurd (omega (arith, l))
one_only {A} (y ∷ []) x l h e = ap (λ (z : A). z ∷ []) (sym e)
one_only {A} (y ∷ z ∷ ys) x l h e = absurd (omega (arith, h))

pub two_only : {A : Type 0} (xs : List A) (x y : A) → 2 ≤ length xs → length xs < 3 → x ≡ get_or xs 0 x → y ≡ get_or xs 1 y → xs ≡ x ∷ y ∷ []
two_only {A} [] x y l h e k = absurd (omega (arith, l))
two_only {A} (u ∷ []) x y l h e k = absurd (omega (arith, l))
two_only {A} (u ∷ v ∷ []) x y l h e k = ap (λ (z : A). z ∷ v ∷ []) (sym e) ∙ ap (λ (z : A). x ∷ z ∷ []) (sym k)
two_only {A} (u ∷ v ∷ w ∷ ys) x y l h e k = absurd (omega (arith, h))

-- a string by its bytes
text_is : (v : Value) (s : List ℕ) → Some s ≡ text_in v → v ≡ bytes s
text_is (bytes t) s h = cc
text_is (whole n) s h = cc
text_is (truth b) s h = cc
text_is nothing s h = cc
text_is (object id) s h = cc
text_is (function x) s h = cc

-- a value, or none, by its text
pub text_by : (v : Value) (o : Option (Bor (List ℕ))) (at c : ℕ) (w : World) → option_map (λ s. s.now) o ≡ text_in v
    → finished at (whole (pos c) ∷ v ∷ []) w ≡ finished at (whole (pos c) ∷ text_value o ∷ []) w
text_by v (Some s) at c w h = ap (λ (x : Value). finished at (whole (pos c) ∷ x ∷ []) w) (text_is v s.now h)
text_by (bytes t) None at c w h = cc
text_by (whole n) None at c w h = refl
text_by (truth b) None at c w h = refl
text_by nothing None at c w h = refl
text_by (object id) None at c w h = refl
text_by (function x) None at c w h = refl

not_written : (at : ℕ) (v : Value) (w : World) → None ≡ text_in v → written at (v ∷ []) w ≡ over (run.Stuck at) w
not_written at (bytes t) w h = cc
not_written at (whole n) w h = refl
not_written at (truth b) w h = refl
not_written at nothing w h = refl
not_written at (object id) w h = refl
not_written at (function x) w h = refl

-- `$write(s)` before its tick
pub writes : (stack : List Frame) (s : State) (at : ℕ) (u : Use) (v : Value) (text : Bor (List ℕ)) (o : Option (Bor (List ℕ))) → option_map (λ s. s.now) o ≡ text_in v → o ≡ Some text
    → Steps stack s stack s (Ok (next.Write at u text)) (λ _ m. called_here at u m (written at (v ∷ []) m.world))
writes stack s at u v text o h k = λ script choices fuel b vs stands.
    let e : v ≡ bytes text.now = text_is v text.now (sym (ap (option_map (λ (s : Bor (List ℕ)). s.now)) k) ∙ h) in
    goes_as script choices fuel b vs stack s (next.Write at u text) (called_here at u (moment b vs s) (written at (v ∷ []) (world_of b vs s)))
    (ap (λ (x : Value). called_here at u (moment b vs s) (written at (x ∷ []) (world_of b vs s))) (sym e)) stands

pub no_write : (stack : List Frame) (s : State) (at : ℕ) (u : Use) (v : Value) (o : Option (Bor (List ℕ))) → option_map (λ s. s.now) o ≡ text_in v → o ≡ None
    → Steps stack s stack s (Err (Over (end.Stuck at))) (λ _ m. called_here at u m (written at (v ∷ []) m.world))
no_write stack s at u v o h k =
    stuck stack s at (λ _ m. called_here at u m (written at (v ∷ []) m.world))
    (λ st m. ap (called_here at u m) (not_written at v m.world (sym (ap (option_map (λ (s : Bor (List ℕ)). s.now)) k) ∙ h)))

-- how many numbers there are, by a test
bounded : (b : Bool) (k n : ℕ) → Some n ≡ cond b (Some k) None → (b ≡ true) × (n ≡ k)
bounded true k n h = (refl, cc)
bounded false k n h = cc

unbounded : (b : Bool) (k : ℕ) → None ≡ cond b (Some k) None → b ≡ false
unbounded true k h = cc
unbounded false k h = refl

bound_is : (v : Value) (k : ℕ) → Some k ≡ bound_in v → v ≡ whole (pos k)
bound_is (whole (pos n)) k h = ap (λ (x : ℕ). whole (pos x)) (sym (bounded (nat_le 2 n && nat_lt n (2 ^ 32)) n k h).1)
bound_is (whole (negsuc n)) k h = cc
bound_is (bytes s) k h = cc
bound_is (truth b) k h = cc
bound_is nothing k h = cc
bound_is (object id) k h = cc
bound_is (function x) k h = cc

not_picked : (at : ℕ) (cs : List ℕ) (v : Value) (w : World) → None ≡ bound_in v → picked at cs (v ∷ []) w ≡ over (run.Stuck at) w
not_picked at cs (whole (pos n)) w h =
    let o : Called = over (run.Stuck at) w in
    ap (λ (b : Bool). cond b (and_then (tick w) (λ _ w. gives (Some (whole (pos (choice_number cs w.taken % n)))) (record w { taken = w.taken + 1 }))) o) (unbounded (nat_le 2 n && nat_lt n (2 ^ 32)) n h)
not_picked at cs (whole (negsuc n)) w h = refl
not_picked at cs (bytes s) w h = refl
not_picked at cs (truth b) w h = refl
not_picked at cs nothing w h = refl
not_picked at cs (object id) w h = refl
not_picked at cs (function x) w h = refl

-- `$pick(k)` before its tick
pub picks : (stack : List Frame) (s : State) (at : ℕ) (u : Use) (v : Value) (k : ℕ) → Some k ≡ bound_in v
    → Steps stack s stack s (Ok (next.Pick at u k)) (λ st m. called_here at u m (picked at st.choices (v ∷ []) m.world))
picks stack s at u v k h = λ script choices fuel b vs stands.
    goes_as script choices fuel b vs stack s (next.Pick at u k) (called_here at u (moment b vs s) (picked at choices (v ∷ []) (world_of b vs s)))
    (ap (λ (x : Value). called_here at u (moment b vs s) (picked at choices (x ∷ []) (world_of b vs s))) (sym (bound_is v k h))) stands

pub no_pick : (stack : List Frame) (s : State) (at : ℕ) (u : Use) (v : Value) → None ≡ bound_in v
    → Steps stack s stack s (Err (Over (end.Stuck at))) (λ st m. called_here at u m (picked at st.choices (v ∷ []) m.world))
no_pick stack s at u v h =
    stuck stack s at (λ st m. called_here at u m (picked at st.choices (v ∷ []) m.world)) (λ st m. ap (called_here at u m) (not_picked at st.choices v m.world h))

-- a status by its test
status_is : (v : Value) (c : ℕ) → Some c ≡ status_in v → v ≡ whole (pos c)
status_is (whole (pos n)) c h = ap (λ (x : ℕ). whole (pos x)) (sym (bounded (nat_lt n 256) n c h).1)
status_is (whole (negsuc n)) c h = cc
status_is (bytes s) c h = cc
status_is (truth b) c h = cc
status_is nothing c h = cc
status_is (object id) c h = cc
status_is (function x) c h = cc

not_finished : (at : ℕ) (v t : Value) (w : World) → None ≡ status_in v → finished at (v ∷ t ∷ []) w ≡ over (run.Stuck at) w
not_finished at (whole (pos n)) (bytes t) w h =
    let o : Called = over (run.Stuck at) w in
    ap (λ (b : Bool). cond b (and_then (tick w) (λ _ w. over (run.Ended n t) w)) o) (unbounded (nat_lt n 256) n h)
not_finished at (whole (pos n)) (whole t) w h = refl
not_finished at (whole (pos n)) (truth t) w h = refl
not_finished at (whole (pos n)) nothing w h = refl
not_finished at (whole (pos n)) (object t) w h = refl
not_finished at (whole (pos n)) (function t) w h = refl
not_finished at (whole (negsuc n)) t w h = refl
not_finished at (bytes s) t w h = refl
not_finished at (truth b) t w h = refl
not_finished at nothing t w h = refl
not_finished at (object id) t w h = refl
not_finished at (function x) t w h = refl

-- `$end(c, t)` with a status and with none
pub ends_by : (stack : List Frame) (s s1 : State) (at : ℕ) (u : Use) (v t : Value) (c : ℕ) (o : Option (Bor (List ℕ))) (r : Result Task Halt) → Some c ≡ status_in v → option_map (λ s. s.now) o ≡ text_in t
    → Steps stack s stack s1 r (λ _ m. called_here at u m (finished at (whole (pos c) ∷ text_value o ∷ []) m.world))
    → Steps stack s stack s1 r (λ _ m. called_here at u m (finished at (v ∷ t ∷ []) m.world))
ends_by stack s s1 at u v t c o r h k steps = λ script choices fuel b vs stands.
    let m = moment b vs s in
    let e : finished at (v ∷ t ∷ []) m.world ≡ finished at (whole (pos c) ∷ text_value o ∷ []) m.world =
    ap (λ (x : Value). finished at (x ∷ t ∷ []) m.world) (status_is v c h) ∙ text_by t o at c m.world k in
    subst (λ (x : Called). Keeps script choices fuel b (resume (setting script choices fuel) stack vs.callers (called_here at u m x)) stack s1 r) (sym e) (steps script choices fuel b vs stands)

pub no_end : (stack : List Frame) (s : State) (at : ℕ) (u : Use) (v t : Value) → None ≡ status_in v
    → Steps stack s stack s (Err (Over (end.Stuck at))) (λ _ m. called_here at u m (finished at (v ∷ t ∷ []) m.world))
no_end stack s at u v t h =
    stuck stack s at (λ _ m. called_here at u m (finished at (v ∷ t ∷ []) m.world)) (λ st m. ap (called_here at u m) (not_finished at v t m.world h))

-- what `$end` does by its tick
abbrev after_tick : ℕ → ℕ → List ℕ → World → Outcome World (Unit {0}) → Called
after_tick at c t w o = let stops : Called = over (run.Stuck at) w in cond (nat_lt c 256) (and_then o (λ _ w. over (run.Ended c t) w)) stops

-- the run ends after a tick
pub ended : (stack : List Frame) (s s1 : State) (at : ℕ) (u : Use) (c : ℕ) (text : Bor (List ℕ)) (o : Option (Bor (List ℕ))) → o ≡ Some text → c < 256 → Ticked s s1 (Ok tt)
    → Steps stack s stack s1 (Err (Over (end.Ended c text))) (λ _ m. called_here at u m (finished at (whole (pos c) ∷ text_value o ∷ []) m.world))
ended stack s s1 at u c text o e l t = λ script choices fuel b vs stands.
    let m = moment b vs s in
    let w1 : World = world_of b vs s1 in
    stops script choices fuel b vs stack s1 (end.Ended c text) (called_here at u m (finished at (whole (pos c) ∷ text_value o ∷ []) m.world))
    (ap (λ (x : Option (Bor (List ℕ))). called_here at u m (finished at (whole (pos c) ∷ text_value x ∷ []) m.world)) e
    ∙ ap (λ (x : Outcome World (Unit {0})). called_here at u m (after_tick at c text.now m.world x)) (tick_is b vs s s1 t)
    ∙ ap (λ (x : Bool). let stops : Called = over (run.Stuck at) m.world in let ends : Called = over (run.Ended c text.now) w1 in called_here at u m (cond x ends stops)) (lt-ltb c 256 l))

-- no tick is left for it
pub not_ended : (stack : List Frame) (s s1 : State) (at : ℕ) (u : Use) (c : ℕ) (text : Bor (List ℕ)) (o : Option (Bor (List ℕ))) (x : Halt) (r : Result Task Halt) → o ≡ Some text → c < 256 → Ticked s s1 (Err x)
    → IsErrAnd r (λ y. y ≡ x) → Steps stack s stack s1 r (λ _ m. called_here at u m (finished at (whole (pos c) ∷ text_value o ∷ []) m.world))
not_ended stack s s1 at u c text o x r e l t is = λ script choices fuel b vs stands.
    let m = moment b vs s in
    let out : Out = called_here at u m (finished at (whole (pos c) ∷ text_value o ∷ []) m.world) in
    let none : out ≡ over run.Going (world_of b vs s) =
    ap (λ (x : Option (Bor (List ℕ))). called_here at u m (finished at (whole (pos c) ∷ text_value x ∷ []) m.world)) e
    ∙ ap (λ (x : Outcome World (Unit {0})). called_here at u m (after_tick at c text.now m.world x)) (tick_is_none b vs s t.0)
    ∙ ap (λ (x : Bool). let stops : Called = over (run.Stuck at) m.world in let ends : Called = over run.Going m.world in called_here at u m (cond x ends stops)) (lt-ltb c 256 l) in
    subst (λ (z : State). Keeps script choices fuel b (resume (setting script choices fuel) stack vs.callers out) stack z r) (sym t.1)
    (same_kept script choices fuel b (resume (setting script choices fuel) stack vs.callers out) stack s r x is
    (subst (λ (y : Halt). Keeps script choices fuel b (resume (setting script choices fuel) stack vs.callers out) stack s (Err y)) (sym t.2)
    (stops script choices fuel b vs stack s end.Going out none)))

pub no_text : (stack : List Frame) (s : State) (at : ℕ) (u : Use) (c : ℕ) (o : Option (Bor (List ℕ))) → o ≡ None
    → Steps stack s stack s (Err (Over (end.Stuck at))) (λ _ m. called_here at u m (finished at (whole (pos c) ∷ text_value o ∷ []) m.world))
no_text stack s at u c o e =
    stuck stack s at (λ _ m. called_here at u m (finished at (whole (pos c) ∷ text_value o ∷ []) m.world))
    (λ st m. ap (λ (x : Option (Bor (List ℕ))). called_here at u m (finished at (whole (pos c) ∷ text_value x ∷ []) m.world)) e)

-- any other number of arguments than one
pub not_one_written : (at : ℕ) (vs : List Value) (w : World) → (length vs ≡ 1 → ⊥) → written at vs w ≡ over (run.Stuck at) w
not_one_written at [] w h = refl
not_one_written at (v ∷ []) w h = absurd (h refl)
not_one_written at (bytes s ∷ x ∷ vs) w h = refl
not_one_written at (whole n ∷ x ∷ vs) w h = refl
not_one_written at (truth b ∷ x ∷ vs) w h = refl
not_one_written at (nothing ∷ x ∷ vs) w h = refl
not_one_written at (object id ∷ x ∷ vs) w h = refl
not_one_written at (function f ∷ x ∷ vs) w h = refl

pub not_one_picked : (at : ℕ) (cs : List ℕ) (vs : List Value) (w : World) → (length vs ≡ 1 → ⊥) → picked at cs vs w ≡ over (run.Stuck at) w
not_one_picked at cs [] w h = refl
not_one_picked at cs (v ∷ []) w h = absurd (h refl)
not_one_picked at cs (bytes s ∷ x ∷ vs) w h = refl
not_one_picked at cs (whole (pos n) ∷ x ∷ vs) w h = refl
not_one_picked at cs (whole (negsuc n) ∷ x ∷ vs) w h = refl
not_one_picked at cs (truth b ∷ x ∷ vs) w h = refl
not_one_picked at cs (nothing ∷ x ∷ vs) w h = refl
not_one_picked at cs (object id ∷ x ∷ vs) w h = refl
not_one_picked at cs (function f ∷ x ∷ vs) w h = refl

pub not_two_finished : (at : ℕ) (vs : List Value) (w : World) → (length vs ≡ 2 → ⊥) → finished at vs w ≡ over (run.Stuck at) w
not_two_finished at [] w h = refl
not_two_finished at (v ∷ []) w h = by v
  where
    by : (v : Value) → finished at (v ∷ []) w ≡ over (run.Stuck at) w
    by (whole (pos n)) = refl
    by (whole (negsuc n)) = refl
    by (bytes s) = refl
    by (truth b) = refl
    by nothing = refl
    by (object id) = refl
    by (function x) = refl
not_two_finished at (v ∷ t ∷ []) w h = absurd (h refl)
not_two_finished at (v ∷ t ∷ x ∷ vs) w h = by v t
  where
    by : (v t : Value) → finished at (v ∷ t ∷ x ∷ vs) w ≡ over (run.Stuck at) w
    by (whole (pos n)) (whole t) = refl
    by (whole (pos n)) (bytes t) = refl
    by (whole (pos n)) (truth t) = refl
    by (whole (pos n)) nothing = refl
    by (whole (pos n)) (object t) = refl
    by (whole (pos n)) (function t) = refl
    by (whole (negsuc n)) t = refl
    by (bytes s) t = refl
    by (truth b) t = refl
    by nothing t = refl
    by (object id) t = refl
    by (function f) t = refl
