-- What steps on the last values make of a body's state, and laws for them.
use Rattle.std.proofs.Common.{◌≡◌, ℕ, Bool, true, false, refl, ◌&&◌, if◌then◌else◌, Option, Some, None, sym, ap, ◌∙◌, subst, true≢false}
use Rattle.gj_base.specs.declared.kind.Kind.{Kind}
use Rattle.go_type.specs.declared.types.TypeId.{TypeId}
use Rattle.js_tree.specs.Script.{Expr}
use Rattle.js_pool.specs.Stands.{Stands, Later, Grows, Builds, Builds1, Builds2, Sees1, Sees2, opened}
use Rattle.js_pool.specs.declared.node.ExprId.{ExprId}
use Rattle.js_pool.specs.declared.pool.Pool.{Pool}
use Rattle.js_facts.specs.Held.{How, truth, text, small, wide, block, other, is_block, kind_held}
use Rattle.js_body.specs.declared.body.Body.{Body}
use Rattle.js_body.specs.declared.body.Operand.{Operand}
use Rattle.js_body.specs.State.{State, last_value, popped, pushed, held_type}
use Rattle.js_body.specs.Tells.{PartsTell, ValueIs, Tells, Lasts, Runs, Runs1, Runs2, Gives2, GivesValue, around}
use Rattle.js_body.specs.Later.{itself, stands_later}
use Rattle.js_body.specs.StepLaws.{earlier, from_here, parts_kept, if_true, if_false}

-- the last value becomes another one
abbrev pub on_last : (Expr → Expr) → State → State
on_last f s = pushed (f (last_value s).tree) (popped s)

-- the last two values become one
abbrev pub on_two : (Expr → Expr → Expr) → State → State
on_two f s = pushed (f (last_value (popped s)).tree (last_value s).tree) (popped (popped s))

-- likewise after something is done by their trees
abbrev pub on_two_after : (Expr → Expr → State → State) → (Expr → Expr → Expr) → State → State
on_two_after g f s =
    pushed (f (last_value (popped s)).tree (last_value s).tree) (g (last_value (popped s)).tree (last_value s).tree (popped (popped s)))

-- a statement by a tree of the last value, which stays
abbrev pub by_last : (Expr → Expr) → (Expr → State → State) → State → State
by_last f g s = g (f (last_value s).tree) s

-- ---- types, as the program's table has them

-- the kind of numbers of a type
abbrev pub type_kind : TypeId → State → Kind
type_kind t s = kind_held (held_type t s)

-- whether numbers, and of which kind
abbrev pub kind_in : How → Option Kind
kind_in (small k) = Some k
kind_in (wide k) = Some k
kind_in _ = None

-- a number, a truth value or a string
abbrev pub is_scalar : How → Bool
is_scalar block = false
is_scalar other = false
is_scalar _ = true

-- ---- laws

-- the tables have only grown, and where this holds of the state that a body told it tells what is made of it
abbrev pub RunsWhen : Body → Body → (State → Bool) → (State → State) → Type 0
RunsWhen p q c f = Grows p.pool q.pool × (Lasts q → (s : State) → Tells p s → c s ≡ true → Tells q (f s))

-- what is so for all states
pub always : (p q : Body) (c : State → Bool) (f : State → State) → Runs p q f → RunsWhen p q c f
always p q c f r = (r.0, λ l s t h. r.1 l s t)

-- what is so for no state
pub never : (p q : Body) (f : State → State) → Grows p.pool q.pool → RunsWhen p q (λ s. false) f
never p q f g = (g, λ l s t h. absurd (true≢false (sym h)))

-- a body with other tables tells a state
abbrev pub TellsIn : Pool → Body → State → Type 0
TellsIn p b s = PartsTell p (opened p) b.stack.items b.temps b.declared.items (around b) s

-- from a body with other tables, by the tree of an expression
abbrev pub RunsIn1 : Pool → Body → Body → ExprId → (Expr → State → State) → Type 0
RunsIn1 p b q a f = Grows p q.pool × (Lasts q → (t : Expr) → Stands p a t → (s : State) → TellsIn p b s → Tells q (f t s))

pub sees1 : (p q : Pool) (r a : ExprId) (f : Expr → Expr) → Builds1 p q r a f → Sees1 p q r a f
sees1 p q r a f h = (h.0, λ end g s x y. h.1 end g s x)

pub sees2 : (p q : Pool) (r a b : ExprId) (f : Expr → Expr → Expr) → Builds2 p q r a b f → Sees2 p q r a b f
sees2 p q r a b f h = (h.0, λ end g s t x y z. h.1 end g s t x y)

-- the last value is taken, something is built of it, and that is one more value
pub last_done : (b b1 : Body) (p : Pool) (q : Body) (x : Operand) (r : ExprId) (f : Expr → Expr)
    → GivesValue b b1 x last_value popped → Sees1 b1.pool p r x.e f → RunsIn1 p b1 q r pushed → Runs b q (on_last f)
last_done b b1 p q x r f gx m k = (
  λ end g. gx.0 end (m.0.0 end (k.0 end g)),
  λ l s t.
      let l2 = earlier p q.pool k.0 l in
      let l1 = earlier b1.pool p m.0.0 l2 in
      let vx = gx.1 l1 s t in
      let g = from_here b1.pool p m.0.0 l2 in
      k.1 l (f (last_value s).tree) (m.1 p (itself p l2) (last_value s).tree (stands_later g vx.0.stands) vx.0.stands) (popped s)
      (parts_kept b1.pool p b1.stack.items b1.temps b1.declared.items (around b1) (popped s) m.0 l2 vx.1),
)

-- likewise the last two values
pub two_done : (b b1 b2 : Body) (p : Pool) (q : Body) (y x : Operand) (r : ExprId) (f : Expr → Expr → Expr)
    → GivesValue b b1 y last_value popped → GivesValue b1 b2 x last_value popped → Sees2 b2.pool p r x.e y.e f → RunsIn1 p b2 q r pushed → Runs b q (on_two f)
two_done b b1 b2 p q y x r f gy gx m k = (
  λ end g. gy.0 end (gx.0 end (m.0.0 end (k.0 end g))),
  λ l s t.
      let l3 = earlier p q.pool k.0 l in
      let l2 = earlier b2.pool p m.0.0 l3 in
      let l1 = earlier b1.pool b2.pool gx.0 l2 in
      let vy = gy.1 l1 s t in
      let vx = gx.1 l2 (popped s) vy.1 in
      let hy = stands_later (from_here b1.pool b2.pool gx.0 l2) vy.0.stands in
      let g = from_here b2.pool p m.0.0 l3 in
      k.1 l (f (last_value (popped s)).tree (last_value s).tree) (m.1 p (itself p l3) (last_value (popped s)).tree (last_value s).tree (stands_later g vx.0.stands) (stands_later g hy) hy) (popped (popped s))
      (parts_kept b2.pool p b2.stack.items b2.temps b2.declared.items (around b2) (popped (popped s)) m.0 l3 vx.1),
)

-- likewise, where something is done before by their trees
pub two_done_after : (b b1 b2 b3 : Body) (p : Pool) (q : Body) (y x : Operand) (r : ExprId) (h : Expr → Expr → State → State) (f : Expr → Expr → Expr)
    → GivesValue b b1 y last_value popped → GivesValue b1 b2 x last_value popped → Runs2 b2 b3 x.e y.e h → Builds2 b3.pool p r x.e y.e f → RunsIn1 p b3 q r pushed → Runs b q (on_two_after h f)
two_done_after b b1 b2 b3 p q y x r h f gy gx d m k = (
  λ end g. gy.0 end (gx.0 end (d.0 end (m.0.0 end (k.0 end g)))),
  λ l s t.
      let l4 = earlier p q.pool k.0 l in
      let l3 = earlier b3.pool p m.0.0 l4 in
      let l2 = earlier b2.pool b3.pool d.0 l3 in
      let l1 = earlier b1.pool b2.pool gx.0 l2 in
      let vy = gy.1 l1 s t in
      let vx = gx.1 l2 (popped s) vy.1 in
      let hy = stands_later (from_here b1.pool b2.pool gx.0 l2) vy.0.stands in
      let a = d.1 l3 (last_value (popped s)).tree (last_value s).tree vx.0.stands hy (popped (popped s)) vx.1 in
      let g = from_here b2.pool p (λ end z. d.0 end (m.0.0 end z)) l4 in
      let z = h (last_value (popped s)).tree (last_value s).tree (popped (popped s)) in
      k.1 l (f (last_value (popped s)).tree (last_value s).tree) (m.1 p (itself p l4) (last_value (popped s)).tree (last_value s).tree (stands_later g vx.0.stands) (stands_later g hy)) z
      (parts_kept b3.pool p b3.stack.items b3.temps b3.declared.items (around b3) z m.0 l4 a),
)

-- likewise, where what is done gives what is built
pub two_given : (b b1 b2 b3 : Body) (q : Body) (y x : Operand) (r : ExprId) (h : Expr → Expr → State → State) (f : Expr → Expr → Expr)
    → GivesValue b b1 y last_value popped → GivesValue b1 b2 x last_value popped → Gives2 b2 b3 x.e y.e r (λ t u s. f t u) h → Runs1 b3 q r pushed → Runs b q (on_two_after h f)
two_given b b1 b2 b3 q y x r h f gy gx d k = (
  λ end g. gy.0 end (gx.0 end (d.0 end (k.0 end g))),
  λ l s t.
      let l3 = earlier b3.pool q.pool k.0 l in
      let l2 = earlier b2.pool b3.pool d.0 l3 in
      let l1 = earlier b1.pool b2.pool gx.0 l2 in
      let vy = gy.1 l1 s t in
      let vx = gx.1 l2 (popped s) vy.1 in
      let hy = stands_later (from_here b1.pool b2.pool gx.0 l2) vy.0.stands in
      let a = d.1 l3 (last_value (popped s)).tree (last_value s).tree vx.0.stands hy (popped (popped s)) vx.1 in
      k.1 l (f (last_value (popped s)).tree (last_value s).tree) a.0 (h (last_value (popped s)).tree (last_value s).tree (popped (popped s))) a.1,
)

-- something is built of two expressions, and something is done by that
pub built_done : (b : Body) (p : Pool) (q : Body) (x y r : ExprId) (f : Expr → Expr → Expr) (h : Expr → State → State)
    → Builds2 b.pool p r x y f → RunsIn1 p b q r h → Runs2 b q x y (λ t u s. h (f t u) s)
built_done b p q x y r f h m k = (
  λ end g. m.0.0 end (k.0 end g),
  λ l t u a d s z.
      let l1 = earlier p q.pool k.0 l in
      let g = from_here b.pool p m.0.0 l1 in
      k.1 l (f t u) (m.1 p (itself p l1) t u (stands_later g a) (stands_later g d)) s
      (parts_kept b.pool p b.stack.items b.temps b.declared.items (around b) s m.0 l1 z),
)

-- an expression is built, and something is done by that
pub made_done : (b : Body) (p : Pool) (q : Body) (r : ExprId) (u : Expr) (h : Expr → State → State) → Builds b.pool p r u → RunsIn1 p b q r h → Runs b q (λ s. h u s)
made_done b p q r u h m k = (
  λ end g. m.0.0 end (k.0 end g),
  λ l s z.
      let l1 = earlier p q.pool k.0 l in
      k.1 l u (m.1 p (itself p l1)) s (parts_kept b.pool p b.stack.items b.temps b.declared.items (around b) s m.0 l1 z),
)

-- the last value stays, and something is done by what is built of it
pub by_last_done : (b : Body) (p : Pool) (q : Body) (x : Operand) (r : ExprId) (f : Expr → Expr) (h : Expr → State → State)
    → ((s : State) → Tells b s → ValueIs b.pool x (last_value s)) → Builds1 b.pool p r x.e f → RunsIn1 p b q r h → Runs b q (by_last f h)
by_last_done b p q x r f h v m k = (
  λ end g. m.0.0 end (k.0 end g),
  λ l s t.
      let l1 = earlier p q.pool k.0 l in
      let g = from_here b.pool p m.0.0 l1 in
      k.1 l (f (last_value s).tree) (m.1 p (itself p l1) (last_value s).tree (stands_later g (v s t).stands)) s
      (parts_kept b.pool p b.stack.items b.temps b.declared.items (around b) s m.0 l1 t),
)

-- one step after another
pub then_does : (b m q : Body) (f g : State → State) → Runs b m f → Runs m q g → Runs b q (λ s. g (f s))
then_does b m q f g x y = (λ end h. x.0 end (y.0 end h), λ l s t. y.1 l (f s) (x.1 (earlier m.pool q.pool y.0 l) s t))

-- nothing is done
pub does_nothing : (b : Body) → Runs b b (λ s. s)
does_nothing b = (λ end g. g, λ l s t. t)

-- what hangs on the kind of a type
pub by_kind : (b q : Body) (t : TypeId) (k : Kind) (f : Kind → State → State) → ((s : State) → Tells b s → k ≡ type_kind t s) → Runs b q (f k) → Runs b q (λ s. f (type_kind t s) s)
by_kind b q t k f v r = (r.0, λ l s h. subst (λ (z : Kind). Tells q (f z s)) (v s h) (r.1 l s h))

-- what is done where a test of the state holds, which the code made
pub then_done : (b q : Body) (x : Bool) (g : State → Bool) (f h : State → State) → ((s : State) → Tells b s → x ≡ g s) → x ≡ true → Runs b q f → Runs b q (λ s. if g s then f s else h s)
then_done b q x g f h v e r = (r.0, λ l s t. subst (λ (z : State). Tells q z) (if_true (g s) (f s) (h s) (sym (v s t) ∙ e)) (r.1 l s t))

pub else_done : (b q : Body) (x : Bool) (g : State → Bool) (f h : State → State) → ((s : State) → Tells b s → x ≡ g s) → x ≡ false → Runs b q h → Runs b q (λ s. if g s then f s else h s)
else_done b q x g f h v e r = (r.0, λ l s t. subst (λ (z : State). Tells q z) (if_false (g s) (f s) (h s) (sym (v s t) ∙ e)) (r.1 l s t))

-- what hangs on how values of a type are held
pub by_held : (b q : Body) (t : TypeId) (h : How) (c : How → Bool) (f : How → State → State) → ((s : State) → Tells b s → h ≡ held_type t s) → RunsWhen b q (λ s. c h) (f h) → RunsWhen b q (λ s. c (held_type t s)) (λ s. f (held_type t s) s)
by_held b q t h c f v r = (r.0, λ l s x k. subst (λ (z : How). Tells q (f z s)) (v s x) (r.1 l s x (ap c (v s x) ∙ k)))

pub by_two_held : (b q : Body) (u t : TypeId) (h i : How) (c : How → How → Bool) (f : How → How → State → State) → ((s : State) → Tells b s → h ≡ held_type u s) → ((s : State) → Tells b s → i ≡ held_type t s)
    → RunsWhen b q (λ s. c h i) (f h i) → RunsWhen b q (λ s. c (held_type u s) (held_type t s)) (λ s. f (held_type u s) (held_type t s) s)
by_two_held b q u t h i c f v w r = (
  r.0,
  λ l s x k.
      subst (λ (z : How). Tells q (f z (held_type t s) s)) (v s x)
      (subst (λ (z : How). Tells q (f h z s)) (w s x) (r.1 l s x (ap (c h) (w s x) ∙ ap (λ (z : How). c z (held_type t s)) (v s x) ∙ k))),
)

pub scalar_no_block : (h : How) → is_scalar h ≡ true → is_block h ≡ false
scalar_no_block block e = absurd (true≢false (sym e))
scalar_no_block other e = refl
scalar_no_block truth e = refl
scalar_no_block text e = refl
scalar_no_block (small k) e = refl
scalar_no_block (wide k) e = refl

pub and_left : (a b : Bool) → (a && b) ≡ true → a ≡ true
and_left true b h = refl
and_left false b h = absurd (true≢false (sym h))

pub and_right : (a b : Bool) → (a && b) ≡ true → b ≡ true
and_right true b h = h
and_right false b h = absurd (true≢false (sym h))
