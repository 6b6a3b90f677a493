-- What each part of a statement changes of what is known.
use Rattle.std.proofs.Common.{◌≡◌, ℕ, suc, List, [], ◌∷◌, ◌++◌, append_assoc, append-nil, refl, sym, subst, ap, ◌∙◌, arith, Bool, true, false, Option, Some, None, if◌then◌else◌}
use Rattle.gj_base.specs.declared.place.Place.{Place}
use Rattle.gj_base.specs.declared.kind.Op.{Op}
use Rattle.go_syntax.specs.Tree as t
use Rattle.go_syntax.specs.declared.tree.Name.{Name}
use Rattle.go_type.specs.Tree.{Ty, Tys, no_tys, more_tys}
use Rattle.go_type.specs.Named.{NamedTy}
use Rattle.go_core.specs.CoreTree.{Var}
use Rattle.go_typing.specs.Env.{Decl, Bind, is_blank}
use Rattle.go_typing.specs.Answer.{Flaw, Part}
use Rattle.go_typing.specs.Scopes.{last_changed, without_last}
use Rattle.go_typing.specs.Uses.{names_in}
use Rattle.go_typing.specs.Walk.{Walk, Did, and_then, pushed, within, with_name, is_there, fresh, noted, with_variable, with_unknown, with_lost, with_uses, uses, uses_all}
use Rattle.go_typing.specs.Assign.{Left, left_blank, left_place, left_wrong, left_use, left_uses, is_name, is_bare, fresh_use, fresh_uses, call_assigned, several_right, first_right, same_number, count_of, assign_by, assign, update_left, update, step, Fresh, new_name, old_name, blank_name, no_name, Defined, with_new, define_new, define_one, fresh_of, define_each, define_flaws, define_type_new, define_type, define_types, with_unknown_new, with_fresh, unknown_names, define_call, define_by, define}
use Rattle.go_sound.specs.GoesOn.{AreNumbered, GoesOn}

-- ---- on and on

pub one_after : (k m n : ℕ) (vs us : List Var) → AreNumbered k vs m → AreNumbered m us n → AreNumbered k (vs ++ us) n
one_after k m n [] us h l = subst (λ (j : ℕ). AreNumbered j us n) (sym h) l
one_after k m n (v ∷ vs) us h l = (h.0, one_after (suc k) m n vs us h.1 l)

pub stays : (w : Walk) → GoesOn w w
stays w = record {
  variables = [];
  variables_added = sym (append-nil w.vars);
  numbered = refl;
  types = [];
  types_added = sym (append-nil w.names);
  labels = omega arith;
  outer_kept = refl;
}

pub then_on : (w v u : Walk) → GoesOn w v → GoesOn v u → GoesOn w u
then_on w v u h k = record {
  variables = h.variables ++ k.variables;
  variables_added = k.variables_added ∙ ap (λ (vs : List Var). vs ++ k.variables) h.variables_added ∙ append_assoc w.vars h.variables k.variables;
  numbered = one_after w.next v.next u.next h.variables k.variables h.numbered k.numbered;
  types = h.types ++ k.types;
  types_added = k.types_added ∙ ap (λ (ns : List NamedTy). ns ++ k.types) h.types_added ∙ append_assoc w.names h.types k.types;
  labels = let a = h.labels in let b = k.labels in omega arith;
  outer_kept = k.outer_kept ∙ h.outer_kept;
}

-- nothing but what isn't looked at changes, or the innermost scope
pub scopes_changed : (w v : Walk) → v.vars ≡ w.vars → v.next ≡ w.next → v.names ≡ w.names → v.next_label ≡ w.next_label → without_last v.scopes ≡ without_last w.scopes → GoesOn w v
scopes_changed w v a b c d e = record {
  variables = [];
  variables_added = a ∙ sym (append-nil w.vars);
  numbered = sym b;
  types = [];
  types_added = c ∙ sym (append-nil w.names);
  labels = omega arith;
  outer_kept = e;
}

pub outer_changed : (f : List Bind → List Bind) (ss : List (List Bind)) → without_last (last_changed f ss) ≡ without_last ss
outer_changed f [] = refl
outer_changed f (s ∷ []) = refl
outer_changed f (s ∷ r ∷ []) = refl
outer_changed f (s ∷ r ∷ q ∷ ss) = ap (λ (ts : List (List Bind)). s ∷ ts) (outer_changed f (r ∷ q ∷ ss))

pub walk_if : (w : Walk) (b : Bool) (x y : Walk) → GoesOn w x → GoesOn w y → GoesOn w (if b then x else y)
walk_if w true x y h k = h
walk_if w false x y h k = k

pub did_if : (w : Walk) (b : Bool) (x y : Did) → GoesOn w x.walk → GoesOn w y.walk → GoesOn w (if b then x else y).walk
did_if w true x y h k = h
did_if w false x y h k = k

pub named_on : (n : Name) (d : Decl) (w : Walk) → GoesOn w (with_name n d w)
named_on n d w = walk_if w (is_blank n.text) w _ (stays w) (scopes_changed w _ refl refl refl refl (outer_changed _ w.scopes))

pub fresh_on : (u : Ty) (w : Walk) → GoesOn w (fresh u w)
fresh_on u w = record {
  variables = record { id = w.next; type_ = u } ∷ [];
  variables_added = refl;
  numbered = (refl, refl);
  types = [];
  types_added = sym (append-nil w.names);
  labels = omega arith;
  outer_kept = refl;
}

pub noted_on : (n : Name) (w : Walk) → GoesOn w (noted n w)
noted_on n w = walk_if w (is_blank n.text) w _ (stays w) (scopes_changed w _ refl refl refl refl refl)

pub variable_on : (n : Name) (u : Ty) (w : Walk) → GoesOn w (with_variable n u w)
variable_on n u w = then_on w (noted n (fresh u w)) _ (then_on w (fresh u w) (noted n (fresh u w)) (fresh_on u w) (noted_on n (fresh u w))) (named_on n _ (noted n (fresh u w)))

pub unknown_on : (n : Name) (w : Walk) → GoesOn w (with_unknown n w)
unknown_on n w = then_on w (noted n w) _ (noted_on n w) (named_on n _ (noted n w))

pub used_on : (xs : List (List ℕ)) (w : Walk) → GoesOn w (with_uses xs w)
used_on xs w = scopes_changed w (with_uses xs w) refl refl refl refl refl

pub uses_on : (e : t.Expr) (w : Walk) → GoesOn w (uses e w)
uses_on e w = scopes_changed w (uses e w) refl refl refl refl refl

pub uses_all_on : (es : t.Exprs) (w : Walk) → GoesOn w (uses_all es w)
uses_all_on es w = scopes_changed w (uses_all es w) refl refl refl refl refl

pub and_on : (w : Walk) (d : Did) (f : Walk → Did) → GoesOn w d.walk → ((v : Walk) → GoesOn v (f v).walk) → GoesOn w (and_then d f).walk
and_on w d f h k = then_on w d.walk (f d.walk).walk h (k d.walk)

-- ---- blocks

pub without_append : (ss : List (List Bind)) (s : List Bind) → without_last (ss ++ s ∷ []) ≡ ss
without_append [] s = refl
without_append (r ∷ []) s = refl
without_append (r ∷ q ∷ qs) s = ap (λ (ts : List (List Bind)). r ∷ ts) (without_append (q ∷ qs) s)

-- a scope that was opened is closed, and the others are as they were
pub scopes_left : (f : Walk → Did) (w : Walk) → GoesOn (pushed w) (f (pushed w)).walk → (within f w).walk.scopes ≡ w.scopes
scopes_left f w h = h.outer_kept ∙ without_append w.scopes []

pub within_on : (f : Walk → Did) (w : Walk) → GoesOn (pushed w) (f (pushed w)).walk → GoesOn w (within f w).walk
within_on f w h = record {
  variables = h.variables;
  variables_added = h.variables_added;
  numbered = h.numbered;
  types = h.types;
  types_added = h.types_added;
  labels = h.labels;
  outer_kept = ap without_last (scopes_left f w h);
}

-- ---- assignments

pub lost_on : (xs : List (List ℕ)) (w : Walk) → GoesOn w (with_lost xs w)
lost_on xs w = scopes_changed w (with_lost xs w) refl refl refl refl refl

pub side_on : (e : t.Expr) (w : Walk) → GoesOn w (left_use e w)
side_on e w = walk_if w (is_name e) (with_lost (names_in e) w) (uses e w) (lost_on (names_in e) w) (uses_on e w)

pub left_on : (es : t.Exprs) (w : Walk) → GoesOn w (left_uses es w)
left_on t.NoExprs w = stays w
left_on (t.MoreExprs e es) w = then_on w (left_use e w) _ (side_on e w) (left_on es (left_use e w))

pub call_assigned_on : (at : Place) (w : Walk) (xs : t.Exprs) (y : t.Expr) (us : Tys) (v u : Walk) → GoesOn v u → GoesOn v (call_assigned at w xs y us u).walk
call_assigned_on at w xs y us v u h = did_if v (same_number xs us) _ _ h h

pub assign_by_on : (at : Place) (w : Walk) (xs ys : t.Exprs) (o : Option Tys) (v u : Walk) → GoesOn v u → GoesOn v (assign_by at w xs ys o u).walk
assign_by_on at w xs ys None v u h = did_if v (count_of xs ys) _ _ h h
assign_by_on at w xs ys (Some us) v u h = call_assigned_on at w xs (first_right ys (t.NameExpr at [])) us v u h

pub assign_on : (at : Place) (xs ys : t.Exprs) (w : Walk) → GoesOn w (assign at xs ys w).walk
assign_on at xs ys w = assign_by_on at w xs ys (several_right w ys) w (uses_all ys (left_uses xs w)) (then_on w (left_uses xs w) _ (left_on xs w) (uses_all_on ys (left_uses xs w)))

pub update_left_on : (w : Walk) (at : Place) (op : Op) (x : t.Expr) (y : Part) (fs : List Flaw) (l : Left) (v u : Walk) → GoesOn v u → GoesOn v (update_left w at op x y fs l u).walk
update_left_on w at op x y fs left_blank v u h = h
update_left_on w at op x y fs (left_wrong gs) v u h = h
update_left_on w at op x y fs (left_place q r) v u h = h

pub update_on : (at : Place) (op : Op) (xs ys : t.Exprs) (w : Walk) → GoesOn w (update at op xs ys w).walk
update_on at op (t.MoreExprs x t.NoExprs) (t.MoreExprs y t.NoExprs) w = update_left_on w at op x _ _ _ w (uses x (uses y w)) (then_on w (uses y w) (uses x (uses y w)) (uses_on y w) (uses_on x (uses y w)))
update_on at op xs ys w = then_on w (uses_all ys w) (uses_all xs (uses_all ys w)) (uses_all_on ys w) (uses_all_on xs (uses_all ys w))

pub step_on : (at : Place) (xs : t.Exprs) (up : Bool) (w : Walk) → GoesOn w (step at xs up w).walk
step_on at (t.MoreExprs x t.NoExprs) up w = update_left_on w at _ x _ [] _ w (uses x w) (uses_on x w)
step_on at t.NoExprs up w = uses_all_on t.NoExprs w
step_on at (t.MoreExprs x (t.MoreExprs y ys)) up w = uses_all_on (t.MoreExprs x (t.MoreExprs y ys)) w

-- ---- short declarations

pub fresh_side_on : (e : t.Expr) (w : Walk) → GoesOn w (fresh_use e w)
fresh_side_on e w = walk_if w (is_bare e) w (left_use e w) (stays w) (side_on e w)

pub fresh_sides_on : (es : t.Exprs) (w : Walk) → GoesOn w (fresh_uses es w)
fresh_sides_on t.NoExprs w = stays w
fresh_sides_on (t.MoreExprs e es) w = then_on w (fresh_use e w) _ (fresh_side_on e w) (fresh_sides_on es (fresh_use e w))

pub new_on : (n : Name) (o : Option Ty) (w : Walk) → GoesOn w (with_new n o w)
new_on n None w = unknown_on n w
new_on n (Some u) w = variable_on n u w

pub define_new_on : (w u : Walk) (n : Name) (o : Option Place) (y : t.Expr) (f : Walk → Defined) → ((v : Walk) → GoesOn v (f v).walk) → GoesOn u (define_new w u n o y f).walk
define_new_on w u n None y f h = then_on u _ _ (new_on n _ u) (h (with_new n _ u))
define_new_on w u n (Some at) y f h = h u

pub define_one_on : (w u : Walk) (x : Fresh) (y : t.Expr) (f : Walk → Defined) → ((v : Walk) → GoesOn v (f v).walk) → GoesOn u (define_one w u x y f).walk
define_one_on w u (new_name n) y f h = define_new_on w u n (is_there n u) y f h
define_one_on w u (old_name e) y f h = h u
define_one_on w u blank_name y f h = h u
define_one_on w u (no_name q) y f h = h u

pub define_each_on : (w : Walk) (xs ys : t.Exprs) (u : Walk) → GoesOn u (define_each w xs ys u).walk
define_each_on w (t.MoreExprs x xs) (t.MoreExprs y ys) u = define_one_on w u (fresh_of w x) y (define_each w xs ys) (λ v. define_each_on w xs ys v)
define_each_on w t.NoExprs ys u = stays u
define_each_on w (t.MoreExprs x xs) t.NoExprs u = stays u

pub define_type_new_on : (u : Walk) (n : Name) (o : Option Place) (ty : Ty) (f : Walk → Defined) → ((v : Walk) → GoesOn v (f v).walk) → GoesOn u (define_type_new u n o ty f).walk
define_type_new_on u n None ty f h = then_on u (with_variable n ty u) _ (variable_on n ty u) (h (with_variable n ty u))
define_type_new_on u n (Some at) ty f h = h u

pub define_type_on : (w u : Walk) (y : t.Expr) (x : Fresh) (ty : Ty) (f : Walk → Defined) → ((v : Walk) → GoesOn v (f v).walk) → GoesOn u (define_type w u y x ty f).walk
define_type_on w u y (new_name n) ty f h = define_type_new_on u n (is_there n u) ty f h
define_type_on w u y (old_name e) ty f h = h u
define_type_on w u y blank_name ty f h = h u
define_type_on w u y (no_name q) ty f h = h u

pub define_types_on : (w : Walk) (y : t.Expr) (xs : t.Exprs) (us : Tys) (u : Walk) → GoesOn u (define_types w y xs us u).walk
define_types_on w y (t.MoreExprs x xs) (more_tys ty us) u = define_type_on w u y (fresh_of w x) ty (define_types w y xs us) (λ v. define_types_on w y xs us v)
define_types_on w y t.NoExprs us u = stays u
define_types_on w y (t.MoreExprs x xs) no_tys u = stays u

pub unknown_new_on : (n : Name) (o : Option Place) (u : Walk) → GoesOn u (with_unknown_new n o u)
unknown_new_on n None u = unknown_on n u
unknown_new_on n (Some at) u = stays u

pub with_fresh_on : (x : Fresh) (u : Walk) → GoesOn u (with_fresh x u)
with_fresh_on (new_name n) u = unknown_new_on n (is_there n u) u
with_fresh_on (old_name e) u = stays u
with_fresh_on blank_name u = stays u
with_fresh_on (no_name q) u = stays u

pub unknown_names_on : (w : Walk) (xs : t.Exprs) (u : Walk) → GoesOn u (unknown_names w xs u)
unknown_names_on w t.NoExprs u = stays u
unknown_names_on w (t.MoreExprs x xs) u = then_on u (with_fresh (fresh_of w x) u) _ (with_fresh_on (fresh_of w x) u) (unknown_names_on w xs (with_fresh (fresh_of w x) u))

pub define_call_on : (at : Place) (w : Walk) (fs : List Flaw) (xs : t.Exprs) (y : t.Expr) (us : Tys) (u : Walk) → GoesOn u (define_call at w fs xs y us u).walk
define_call_on at w fs xs y us u = did_if u (same_number xs us) _ _ (define_types_on w y xs us u) (unknown_names_on w xs u)

pub define_by_on : (at : Place) (w : Walk) (fs : List Flaw) (xs ys : t.Exprs) (o : Option Tys) (u : Walk) → GoesOn u (define_by at w fs xs ys o u).walk
define_by_on at w fs xs ys None u = did_if u (count_of xs ys) _ _ (define_each_on w xs ys u) (unknown_names_on w xs u)
define_by_on at w fs xs ys (Some us) u = define_call_on at w fs xs (first_right ys (t.NameExpr at [])) us u

pub define_on : (at : Place) (xs ys : t.Exprs) (w : Walk) → GoesOn w (define at xs ys w).walk
define_on at xs ys w = then_on w (uses_all ys (fresh_uses xs w)) _ (then_on w (fresh_uses xs w) _ (fresh_sides_on xs w) (uses_all_on ys (fresh_uses xs w))) (define_by_on at w (define_flaws at w xs ys) xs ys (several_right w ys) (uses_all ys (fresh_uses xs w)))
