-- The parts of an expression, and then its step.
use Rattle.std.proofs.Common.{◌≡◌, ◌∙◌, ◌-◌, ℤ, List, [], length, Bool, true, false, not, ◌&&◌, Option, Some, None, refl, sym, ap, subst, true≢false}
use Rattle.std.proofs.lemmas.List.{take-append-drop}
use Rattle.gj_base.specs.declared.kind.Kind.{Kind}
use Rattle.gj_base.specs.declared.kind.Op.{Op}
use Rattle.go_type.specs.Tree.{Ty}
use Rattle.go_type.specs.Levels.{tree_of}
use Rattle.go_type.specs.Table.{places}
use Rattle.go_type.specs.declared.types.TypeId.{TypeId}
use Rattle.go_core.specs.CoreTree as core
use Rattle.go_core.specs.CoreTree.{Expr}
use Rattle.go_core.specs.CoreView.{constant_of, expr_view, expr_form_view, place_form_view, place_view}
use Rattle.go_core.specs.declared.node.VarId.{VarId}
use Rattle.go_core.specs.declared.node.Constant.{Constant}
use Rattle.go_core.specs.declared.node.CoreExpr.{CoreExpr}
use Rattle.go_core.specs.declared.node.CoreForm.{CoreForm}
use Rattle.go_core.specs.declared.node.CoreForm.TheVariants as node
use Rattle.go_core.specs.declared.node.CorePlace.{CorePlace}
use Rattle.go_core.specs.declared.node.PlaceForm.{PlaceForm}
use Rattle.go_core.specs.declared.node.PlaceForm.TheVariants as at
use Rattle.js_pool.specs.Stands.{Grows}
use Rattle.js_facts.specs.declared.facts.Facts.{Facts}
use Rattle.js_facts.specs.Held.{How, kind_held}
use Rattle.js_body.specs.declared.body.Body.{Body}
use Rattle.js_body.specs.State.{State, held_type, home_of, number_pushed, last_value, settled, lines_since, cut_to}
use Rattle.js_body.specs.Tells.{Tells, Lasts, Runs}
use Rattle.js_body.specs.Later.{stands_later}
use Rattle.js_body.specs.StepLaws.{earlier, from_here}
use Rattle.js_values.specs.Steps.{type_kind, is_scalar, RunsWhen, and_left, and_right}
use Rattle.js_values.specs.Numbers.{unary_done, binary_done}
use Rattle.js_values.specs.Values.{constant_done, zero_done, concatenated, equal_done, less_done, denied, converted}
use Rattle.js_values.specs.Logic.{side_test, logic_begun, logic_ended, BeginsLogic, EndsLogic}
use Rattle.js_values.specs.declared.logic.Logic.{Logic}
use Rattle.js_values.specs.Exprs.{Near, logic_done, held_in, by_type, by_int, scalar_read, is_shift, known_count, second_done, second_within, within, expr_state, any_type, scalar_in, seen, TreeRuns, ExprRuns}
use Rattle.js_values.specs.Kept.{Kept, then_kept, near_on, begun_kept, mark_kept, expr_kept}
use Rattle.js_values.proofs.Forms as form

module _ (f : Facts) (plain : Bool) where
  abbrev covered : Expr → Bool
  covered v = within (scalar_in f) plain v

  abbrev typed : TypeId → Ty
  typed t = tree_of (places f.«program».now.types) t

  abbrev Steps : Body → Body → (State → State) → Type 0
  Steps m q g = Lasts q → (s : State) → Tells m s → Near f plain s → Tells q (g s)

  held_seen : (t : TypeId) (s : State) → s.around.facts ≡ f → held_type t s ≡ held_in s.around.facts (typed t)
  held_seen t s k = subst (λ (g : Facts). held_type t s ≡ held_in s.around.facts (tree_of (places g.«program».now.types) t)) k refl

  scalar_seen : (t : TypeId) (s : State) → s.around.facts ≡ f → scalar_in f (typed t) ≡ true → is_scalar (held_type t s) ≡ true
  scalar_seen t s k w = ap is_scalar (held_seen t s k) ∙ ap (λ (g : Facts). scalar_in g (typed t)) k ∙ w

  int_steps : (m q : Body) (t : TypeId) (g : Kind → State → State) → Runs m q (λ s. g (type_kind t s) s) → Steps m q (by_int (typed t) g)
  int_steps m q t g r l s x k = subst (λ (h : How). Tells q (g (kind_held h) s)) (held_seen t s k.0) (r.1 l s x)

  type_steps : (m q : Body) (t : TypeId) (g : How → State → State) → Runs m q (λ s. g (held_type t s) s) → Steps m q (by_type (typed t) g)
  type_steps m q t g r l s x k = subst (λ (h : How). Tells q (g h s)) (held_seen t s k.0) (r.1 l s x)

  scalar_steps : (m q : Body) (t : TypeId) (g : How → State → State) → RunsWhen m q (λ s. is_scalar (held_type t s)) (λ s. g (held_type t s) s) → scalar_in f (typed t) ≡ true → Steps m q (by_type (typed t) g)
  scalar_steps m q t g r w l s x k = subst (λ (h : How). Tells q (g h s)) (held_seen t s k.0) (r.1 l s x (scalar_seen t s k.0 w))

  convert_steps : (m q : Body) (u t : TypeId) → RunsWhen m q (λ s. is_scalar (held_type u s) && is_scalar (held_type t s)) (λ s. converted (held_type u s) (held_type t s) s)
      → scalar_in f (typed u) ≡ true → scalar_in f (typed t) ≡ true → Steps m q (by_type (typed u) (λ h. by_type (typed t) (converted h)))
  convert_steps m q u t r a c l s x k =
      let both : (is_scalar (held_type u s) && is_scalar (held_type t s)) ≡ true = ap (λ (b : Bool). b && is_scalar (held_type t s)) (scalar_seen u s k.0 a) ∙ scalar_seen t s k.0 c in
      subst (λ (h : How). Tells q (converted h (held_in s.around.facts (typed t)) s)) (held_seen u s k.0)
      (subst (λ (h : How). Tells q (converted (held_type u s) h s)) (held_seen t s k.0) (r.1 l s x both))

  -- one part
  module _ (b m q : Body) (a : Expr) (g : State → State) where
    one_part : TreeRuns b m f plain a → Grows m.pool q.pool → ((covered a ≡ true) → Steps m q g)
        → Lasts q → (s : State) → Tells b s → Near f plain s → covered a ≡ true → Tells q (g (expr_state a s))
    one_part h r d l s x k w = d w l (expr_state a s) (h.1 (earlier m.pool q.pool r l) s x k w) (near_on s (expr_state a s) (expr_kept a s) k)

  -- two parts
  module _ (b m n q : Body) (a c : Expr) (g : State → State) where
    two_parts : TreeRuns b m f plain a → TreeRuns m n f plain c → Grows n.pool q.pool → Steps n q g
        → Lasts q → (s : State) → Tells b s → Near f plain s → covered a ≡ true → covered c ≡ true → Tells q (g (expr_state c (expr_state a s)))
    two_parts h i r d l s x k v w =
        let l2 = earlier n.pool q.pool r l in
        let l1 = earlier m.pool n.pool i.0 l2 in
        let y = h.1 l1 s x k v in
        let z = near_on s (expr_state a s) (expr_kept a s) k in
        d l (expr_state c (expr_state a s)) (i.1 l2 (expr_state a s) y z w) (near_on (expr_state a s) (expr_state c (expr_state a s)) (expr_kept c (expr_state a s)) z)

  constant_tree : (b q : Body) (t : TypeId) (c : core.Constant) → Runs b q (λ s. constant_done (type_kind t s) c s) → TreeRuns b q f plain (core.constant (typed t) c)
  constant_tree b q t c r = (r.0, λ l s x k w. int_steps b q t (λ h. constant_done h c) r l s x k)

  zero_tree : (b q : Body) (t : TypeId) → RunsWhen b q (λ s. is_scalar (held_type t s)) (λ s. zero_done (held_type t s) s) → TreeRuns b q f plain (core.zero_value (typed t))
  zero_tree b q t r = (r.0, λ l s x k w. scalar_steps b q t zero_done r w l s x k)

  read_tree : (b q : Body) (t : TypeId) (v : VarId) → RunsWhen b q (λ s. is_scalar (held_type t s)) (λ s. scalar_read (home_of v s) s) → TreeRuns b q f plain (core.read (typed t) (core.local_ v.0))
  read_tree b q t v r = (r.0, λ l s x k w. r.1 l s x (scalar_seen t s k.0 w))

  unary_tree : (b m q : Body) (o : Op) (t : TypeId) (a : Expr) → TreeRuns b m f plain a → Runs m q (λ s. unary_done o (type_kind t s) s) → TreeRuns b q f plain (core.unary o (typed t) a)
  unary_tree b m q o t a h r = (
    λ end g. h.0 end (r.0 end g),
    λ l s x k w. one_part b m q a (by_int (typed t) (unary_done o)) h r.0 (λ z. int_steps m q t (unary_done o) r) l s x k w,
  )

  known_tree : (b m n q : Body) (o : Op) (t : TypeId) (a c : Expr) (i : ℤ) → TreeRuns b m f plain a → Runs m n (number_pushed i) → Runs n q (λ s. binary_done o (type_kind t s) s) → known_count o c ≡ Some i
      → TreeRuns b q f plain (core.binary o (typed t) a c)
  known_tree b m n q o t a c i h d r e = (
    λ end g. h.0 end (d.0 end (r.0 end g)),
    λ l s x k w.
        let l2 = earlier n.pool q.pool r.0 l in
        let l1 = earlier m.pool n.pool d.0 l2 in
        let y = h.1 l1 s x k (and_left (covered a) (second_within (known_count o c) o (covered c)) w) in
        let z = int_steps n q t (binary_done o) r l (number_pushed i (expr_state a s)) (d.1 l2 (expr_state a s) y) (near_on s (expr_state a s) (expr_kept a s) k) in
        subst (λ (j : Option ℤ). Tells q (by_int (typed t) (binary_done o) (second_done j (expr_state c) (expr_state a s)))) (sym e) z,
  )

  binary_tree : (b m n p q : Body) (o : Op) (t : TypeId) (a c : Expr) → TreeRuns b m f plain a → TreeRuns m n f plain c → RunsWhen n p (λ s. not (is_shift o)) (λ s. s) → Runs p q (λ s. binary_done o (type_kind t s) s) → known_count o c ≡ None
      → TreeRuns b q f plain (core.binary o (typed t) a c)
  binary_tree b m n p q o t a c h i d r e = (
    λ end g. h.0 end (i.0 end (d.0 end (r.0 end g))),
    λ l s x k w.
        let v = covered c in
        let w1 = and_left (covered a) (second_within (known_count o c) o v) w in
        let w2 = subst (λ (j : Option ℤ). second_within j o v ≡ true) e (and_right (covered a) (second_within (known_count o c) o v) w) in
        let y : Lasts p → Tells p (expr_state c (expr_state a s)) = λ l3.
        two_parts b m n p a c (λ s. s) h i d.0 (λ l4 s2 x2 k2. d.1 l4 s2 x2 (and_left (not (is_shift o)) v w2)) l3 s x k w1 (and_right (not (is_shift o)) v w2)
        in
        let z = near_on s (expr_state c (expr_state a s)) (then_kept s (expr_state a s) (expr_state c (expr_state a s)) (expr_kept a s) (expr_kept c (expr_state a s))) k in
        subst (λ (j : Option ℤ). Tells q (by_int (typed t) (binary_done o) (second_done j (expr_state c) (expr_state a s)))) (sym e)
        (int_steps p q t (binary_done o) r l (expr_state c (expr_state a s)) (y (earlier p.pool q.pool r.0 l)) z),
  )

  concat_tree : (b m n q : Body) (t : Ty) (a c : Expr) → TreeRuns b m f plain a → TreeRuns m n f plain c → Runs n q concatenated → TreeRuns b q f plain (core.concat t a c)
  concat_tree b m n q t a c h i r = (
    λ end g. h.0 end (i.0 end (r.0 end g)),
    λ l s x k w.
        two_parts b m n q a c concatenated h i r.0 (λ l2 s2 x2 k2. r.1 l2 s2 x2) l s x k (and_left (covered a) (covered c) w) (and_right (covered a) (covered c) w),
  )

  equal_tree : (b m n q : Body) (negated : Bool) (u : TypeId) (t : Ty) (a c : Expr) → TreeRuns b m f plain a → TreeRuns m n f plain c
      → RunsWhen n q (λ s. is_scalar (held_type u s)) (λ s. equal_done negated (held_type u s) s) → TreeRuns b q f plain (core.equal negated (typed u) t a c)
  equal_tree b m n q negated u t a c h i r = (
    λ end g. h.0 end (i.0 end (r.0 end g)),
    λ l s x k w.
        let v = covered a && covered c in
        let w1 = and_left (scalar_in f (typed u)) v w in
        let w2 = and_right (scalar_in f (typed u)) v w in
        two_parts b m n q a c (by_type (typed u) (equal_done negated)) h i r.0 (scalar_steps n q u (equal_done negated) r w1) l s x k (and_left (covered a) (covered c) w2)
        (and_right (covered a) (covered c) w2),
  )

  less_tree : (b m n q : Body) (o : Op) (u : TypeId) (t : Ty) (a c : Expr) → TreeRuns b m f plain a → TreeRuns m n f plain c
      → Runs n q (λ s. less_done o (held_type u s) s) → TreeRuns b q f plain (core.less o (typed u) t a c)
  less_tree b m n q o u t a c h i r = (
    λ end g. h.0 end (i.0 end (r.0 end g)),
    λ l s x k w.
        two_parts b m n q a c (by_type (typed u) (less_done o)) h i r.0 (type_steps n q u (less_done o) r) l s x k (and_left (covered a) (covered c) w)
        (and_right (covered a) (covered c) w),
  )

  not_tree : (b m q : Body) (t : Ty) (a : Expr) → TreeRuns b m f plain a → Runs m q denied → TreeRuns b q f plain (core.not_ t a)
  not_tree b m q t a h r = (λ end g. h.0 end (r.0 end g), λ l s x k w. one_part b m q a denied h r.0 (λ z l2 s2 x2 k2. r.1 l2 s2 x2) l s x k w)

  convert_tree : (b m q : Body) (u t : TypeId) (a : Expr) → TreeRuns b m f plain a → RunsWhen m q (λ s. is_scalar (held_type u s) && is_scalar (held_type t s)) (λ s. converted (held_type u s) (held_type t s) s)
      → TreeRuns b q f plain (core.convert (typed u) (typed t) a)
  convert_tree b m q u t a h r = (
    λ end g. h.0 end (r.0 end g),
    λ l s x k w.
        let types = scalar_in f (typed u) && scalar_in f (typed t) in
        let w1 = and_left types (covered a) w in
        one_part b m q a (by_type (typed u) (λ h. by_type (typed t) (converted h))) h r.0
        (λ z. convert_steps m q u t r (and_left (scalar_in f (typed u)) (scalar_in f (typed t)) w1) (and_right (scalar_in f (typed u)) (scalar_in f (typed t)) w1)) l s x k (and_right types (covered a) w),
  )

  -- `&&` and `||`
  logic_tree : (b m n p q : Body) (l : Logic) (goes_on : Bool) (a c : Expr) → TreeRuns b m f plain a → BeginsLogic m n l goes_on → TreeRuns n p f plain c → EndsLogic p q l
      → Grows b.pool q.pool × (Lasts q → (s : State) → Tells b s → Near f plain s → (plain && (covered a && covered c)) ≡ true → Tells q (logic_done goes_on (expr_state c) (expr_state a s)))
  logic_tree b m n p q l goes_on a c h d i r = (
    λ end g. h.0 end (d.0 end (i.0 end (r.0 end g))),
    λ z s x k w.
        let is_plain = and_left plain (covered a && covered c) w in
        let v = and_right plain (covered a && covered c) w in
        let l3 = earlier p.pool q.pool r.0 z in
        let l2 = earlier n.pool p.pool i.0 l3 in
        let l1 = earlier m.pool n.pool d.0 l2 in
        let left = expr_state a s in
        let base = logic_begun left in
        let right = expr_state c base in
        let end = settled right in
        let mark = length base.lines in
        let test = side_test goes_on (last_value (settled left)).tree in
        let k1 = near_on s left (expr_kept a s) k in
        let k2 = near_on left base (begun_kept left) k1 in
        let k3 = near_on base right (expr_kept c base) k2 in
        let begun = d.1 l2 left (h.1 l1 s x k (and_left (covered a) (covered c) v)) (k1.1 ∙ is_plain) in
        let told = i.1 l3 base begun.1 k2 (and_right (covered a) (covered c) v) in
        subst (λ (both : Bool). Tells q (logic_ended both test (lines_since mark end) (cut_to mark end).lines right)) begun.0.both
        (r.1 z test (stands_later (from_here n.pool p.pool i.0 l3) begun.0.test) right told (k3.1 ∙ is_plain) (lines_since mark end) (cut_to mark end).lines (sym (take-append-drop (length end.lines - mark) end.lines))
        (begun.0.mark ∙ mark_kept base right (expr_kept c base))),
  )

abbrev types : Facts → List Ty
types f = places f.«program».now.types

-- ---- of an expression with this form
module _ (b q : Body) (e : CoreExpr) (x : CoreForm) (p : x ≡ e.form.value) where
  as_form : (f : Facts) (plain : Bool) (v : Expr) → expr_view (types f) e ≡ v → TreeRuns b q f plain v → TreeRuns b q f plain (seen f e)
  as_form f plain v h r = subst (λ (z : Expr). TreeRuns b q f plain z) (sym h) r

  form_within : (v : Expr) → expr_view [] e ≡ v → within any_type true (expr_view [] e) ≡ true → within any_type true v ≡ true
  form_within v h w = subst (λ (z : Expr). within any_type true z ≡ true) h w

  pub other_runs : form.OtherForm x → ExprRuns b q e
  other_runs n w f plain = absurd (true≢false (sym w ∙ ap (within any_type true) (form.of_expr [] e x x p refl) ∙ form.other_form [] any_type true x n))

  pub constant_runs : (t : TypeId) (c : Constant) → x ≡ node.Const t c → Runs b q (λ s. constant_done (type_kind t s) (constant_of c) s) → ExprRuns b q e
  constant_runs t c h r w f plain = as_form f plain _ (form.of_const (types f) e x p t c h) (constant_tree f plain b q t (constant_of c) r)

  pub zero_runs : (t : TypeId) → x ≡ node.Zero t → RunsWhen b q (λ s. is_scalar (held_type t s)) (λ s. zero_done (held_type t s) s) → ExprRuns b q e
  zero_runs t h r w f plain = as_form f plain _ (form.of_zero (types f) e x p t h) (zero_tree f plain b q t r)

  pub local_runs : (t : TypeId) (place : CorePlace) (y : PlaceForm) (v : VarId) → x ≡ node.Read t place → y ≡ place.form.value → y ≡ at.Local v
      → RunsWhen b q (λ s. is_scalar (held_type t s)) (λ s. scalar_read (home_of v s) s) → ExprRuns b q e
  local_runs t place y v h i j r w f plain =
      as_form f plain _ (form.of_read (types f) e x p t place h ∙ ap (core.read (typed f plain t)) (form.of_local (types f) place y v i j)) (read_tree f plain b q t v r)

  pub place_runs : (t : TypeId) (place : CorePlace) (y : PlaceForm) → x ≡ node.Read t place → y ≡ place.form.value → ((v : VarId) → y ≡ at.Local v → ⊥) → ExprRuns b q e
  place_runs t place y h i n w f plain =
      let v = form_within _ (form.of_read [] e x p t place h ∙ ap (core.read (tree_of [] t)) (form.of_place [] place y y i refl)) w in
      absurd (true≢false (sym v ∙ form.other_place [] any_type true y (tree_of [] t) n))

  module _ (m : Body) where
    pub unary_runs : (o : Op) (t : TypeId) (a : CoreExpr) → x ≡ node.Unary o t a → ExprRuns b m a → Runs m q (λ s. unary_done o (type_kind t s) s) → ExprRuns b q e
    unary_runs o t a h i r w f plain = as_form f plain _ (form.of_unary (types f) e x p o t a h) (unary_tree f plain b m q o t (seen f a) (i (form_within _ (form.of_unary [] e x p o t a h) w) f plain) r)

    pub not_runs : (t : TypeId) (a : CoreExpr) → x ≡ node.Not t a → ExprRuns b m a → Runs m q denied → ExprRuns b q e
    not_runs t a h i r w f plain = as_form f plain _ (form.of_not (types f) e x p t a h) (not_tree f plain b m q (typed f plain t) (seen f a) (i (form_within _ (form.of_not [] e x p t a h) w) f plain) r)

    pub convert_runs : (u t : TypeId) (a : CoreExpr) → x ≡ node.Convert u t a → ExprRuns b m a
        → RunsWhen m q (λ s. is_scalar (held_type u s) && is_scalar (held_type t s)) (λ s. converted (held_type u s) (held_type t s) s) → ExprRuns b q e
    convert_runs u t a h i r w f plain =
        as_form f plain _ (form.of_convert (types f) e x p u t a h) (convert_tree f plain b m q u t (seen f a) (i (form_within _ (form.of_convert [] e x p u t a h) w) f plain) r)

    module _ (n : Body) where
      pub known_runs : (o : Op) (t : TypeId) (a c : CoreExpr) (j : ℤ) → x ≡ node.Binary o t a c → ExprRuns b m a → ((ts : List Ty) → known_count o (expr_view ts c) ≡ Some j) → Runs m n (number_pushed j)
          → Runs n q (λ s. binary_done o (type_kind t s) s) → ExprRuns b q e
      known_runs o t a c j h i u d r w f plain =
          let v = form_within _ (form.of_binary [] e x p o t a c h) w in
          let w1 = and_left (within any_type true (expr_view [] a)) (second_within (known_count o (expr_view [] c)) o (within any_type true (expr_view [] c))) v in
          as_form f plain _ (form.of_binary (types f) e x p o t a c h) (known_tree f plain b m n q o t (seen f a) (seen f c) j (i w1 f plain) d r (u (types f)))

      pub binary_runs : (z : Body) (o : Op) (t : TypeId) (a c : CoreExpr) → x ≡ node.Binary o t a c → ExprRuns b m a → ((ts : List Ty) → known_count o (expr_view ts c) ≡ None) → ExprRuns m n c
          → RunsWhen n z (λ s. not (is_shift o)) (λ s. s) → Runs z q (λ s. binary_done o (type_kind t s) s) → ExprRuns b q e
      binary_runs z o t a c h i u d k r w f plain =
          let v = form_within _ (form.of_binary [] e x p o t a c h) w in
          let in_c = within any_type true (expr_view [] c) in
          let w1 = and_left (within any_type true (expr_view [] a)) (second_within (known_count o (expr_view [] c)) o in_c) v in
          let w2 = subst (λ (j : Option ℤ). second_within j o in_c ≡ true) (u []) (and_right (within any_type true (expr_view [] a)) (second_within (known_count o (expr_view [] c)) o in_c) v) in
          as_form f plain _ (form.of_binary (types f) e x p o t a c h) (binary_tree f plain b m n z q o t (seen f a) (seen f c) (i w1 f plain) (d (and_right (not (is_shift o)) in_c w2) f plain) k r (u (types f)))

      pub concat_runs : (t : TypeId) (a c : CoreExpr) → x ≡ node.Concat t a c → ExprRuns b m a → ExprRuns m n c → Runs n q concatenated → ExprRuns b q e
      concat_runs t a c h i j r w f plain =
          let v = form_within _ (form.of_concat [] e x p t a c h) w in
          as_form f plain _ (form.of_concat (types f) e x p t a c h)
          (concat_tree f plain b m n q (typed f plain t) (seen f a) (seen f c) (i (and_left (within any_type true (expr_view [] a)) (within any_type true (expr_view [] c)) v) f plain) (j (and_right (within any_type true (expr_view [] a)) (within any_type true (expr_view [] c)) v) f plain) r)

      pub equal_runs : (negated : Bool) (u t : TypeId) (a c : CoreExpr) → x ≡ node.Equal negated u t a c → ExprRuns b m a → ExprRuns m n c
          → RunsWhen n q (λ s. is_scalar (held_type u s)) (λ s. equal_done negated (held_type u s) s) → ExprRuns b q e
      equal_runs negated u t a c h i j r w f plain =
          let v = form_within _ (form.of_equal [] e x p negated u t a c h) w in
          as_form f plain _ (form.of_equal (types f) e x p negated u t a c h)
          (equal_tree f plain b m n q negated u (typed f plain t) (seen f a) (seen f c) (i (and_left (within any_type true (expr_view [] a)) (within any_type true (expr_view [] c)) v) f plain) (j (and_right (within any_type true (expr_view [] a)) (within any_type true (expr_view [] c)) v) f plain) r)

      pub less_runs : (o : Op) (u t : TypeId) (a c : CoreExpr) → x ≡ node.Less o u t a c → ExprRuns b m a → ExprRuns m n c → Runs n q (λ s. less_done o (held_type u s) s) → ExprRuns b q e
      less_runs o u t a c h i j r w f plain =
          let v = form_within _ (form.of_less [] e x p o u t a c h) w in
          as_form f plain _ (form.of_less (types f) e x p o u t a c h)
          (less_tree f plain b m n q o u (typed f plain t) (seen f a) (seen f c) (i (and_left (within any_type true (expr_view [] a)) (within any_type true (expr_view [] c)) v) f plain) (j (and_right (within any_type true (expr_view [] a)) (within any_type true (expr_view [] c)) v) f plain) r)

      pub and_runs : (z : Body) (l : Logic) (t : TypeId) (a c : CoreExpr) → x ≡ node.AndThen t a c → ExprRuns b m a → BeginsLogic m n l true → ExprRuns n z c → EndsLogic z q l → ExprRuns b q e
      and_runs z l t a c h i d j r w f plain =
          let v = form_within _ (form.of_and [] e x p t a c h) w in
          let in_a = within any_type true (expr_view [] a) in
          let in_c = within any_type true (expr_view [] c) in
          as_form f plain _ (form.of_and (types f) e x p t a c h) (logic_tree f plain b m n z q l true (seen f a) (seen f c) (i (and_left in_a in_c v) f plain) d (j (and_right in_a in_c v) f plain) r)

      pub or_runs : (z : Body) (l : Logic) (t : TypeId) (a c : CoreExpr) → x ≡ node.OrElse t a c → ExprRuns b m a → BeginsLogic m n l false → ExprRuns n z c → EndsLogic z q l → ExprRuns b q e
      or_runs z l t a c h i d j r w f plain =
          let v = form_within _ (form.of_or [] e x p t a c h) w in
          let in_a = within any_type true (expr_view [] a) in
          let in_c = within any_type true (expr_view [] c) in
          as_form f plain _ (form.of_or (types f) e x p t a c h) (logic_tree f plain b m n z q l false (seen f a) (seen f c) (i (and_left in_a in_c v) f plain) d (j (and_right in_a in_c v) f plain) r)
