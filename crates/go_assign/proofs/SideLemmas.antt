-- What comes of left sides and values, as the definitions say it of the expressions.
use Rattle.std.proofs.Common.{◌≡◌, ℕ, ◌∙◌, refl, sym, ap, List, [], ◌∷◌, ◌++◌, Option, Some, None, Bool, true, false, ◌&&◌}
use Rattle.std.specs.Prelude.{if◌then◌else◌}
use Rattle.gj_base.specs.declared.place.Place.{Place}
use Rattle.go_syntax.specs.Tree as t
use Rattle.go_syntax.specs.Tree.{Expr, NameExpr, IntExpr, RuneExpr, StrExpr, ParenExpr, UnaryExpr, BinaryExpr, SelectExpr, IndexExpr, SliceExpr, AssertExpr, CallExpr, LiteralExpr, FuncExpr, ArrayType, SliceType, StructType, FuncType, InterfaceType, MapType, ChanType}
use Rattle.go_syntax.specs.View as view
use Rattle.go_syntax.specs.declared.tree.Name.{Name}
use Rattle.go_type.specs.Tree.{Tys, no_tys, more_tys}
use Rattle.go_type.specs.Named.{NamedTy}
use Rattle.go_core.specs.CoreTree as core
use Rattle.go_core.specs.CoreTree.{Var, Target}
use Rattle.go_core.specs.CoreView.{exprs_of}
use Rattle.go_typing.specs.Env.{Bind, Decl, variable, global, constant, type_name, function, imported, built_in, nil_value, refused, unknown, lookup, is_blank}
use Rattle.go_typing.specs.Answer.{Flaw, flaw}
use Rattle.go_typing.specs.Typing.{place_of}
use Rattle.go_typing.specs.Walk.{Walk, Did}
use Rattle.go_typing.specs.Expressions.{Valued, answer_in, several_types, core_of}
use Rattle.go_typing.specs.Assign.{Left, left_blank, left_place, left_wrong, left_flaws, left_declared, left_of, is_left, value_for, target_of, takes, Assigned, one_more, assigned_each, count_of, all_take, same_number, lefts_typed, lefts_flaws, targets_of, all_typed, where_typed, miscounted, assign_by, assign_did}
use Rattle.go_expr.specs.Raw.{raw_of, raws_of}
use Rattle.go_assign.specs.Settled.{all_known, all_told}
use Rattle.go_assign.proofs.RawLemmas.{typed_all, told_all}
use Rattle.go_assign.proofs.OutcomeLemmas.{made}
use Rattle.go_assign.specs.LeftView.{lefts_of, fitted}
use Rattle.go_assign.specs.Assigning.{paired, pair_targets, pair_values, pair_flaws, all_flaws, all_left, all_targets, each_takes, as_many, as_many_values, Gives, not_as_many, each_gives, call_gives, assigned_by, assigned}

-- ---- of the walk only names and scopes are asked

abbrev walk_at : List NamedTy → List (List Bind) → ℕ → ℕ → List Var → List Name → List Place → ℕ → Walk
walk_at ns ss n l vs ds us z = record { names = ns; scopes = ss; next = n; next_label = l; vars = vs; declared = ds; used = us; lost = z }

module _ (ns : List NamedTy) (ss : List (List Bind)) (n l : ℕ) (vs : List Var) (ds : List Name) (us : List Place) (z : ℕ) where
  abbrev some_walk : Walk
  some_walk = walk_at ns ss n l vs ds us z

  abbrev no_walk : Walk
  no_walk = walk_at ns ss 0 0 [] [] [] 0

  declared_same : (e : Expr) (d : Option Decl) → left_declared some_walk e d ≡ left_declared no_walk e d
  declared_same e (Some (variable id u)) = refl
  declared_same e (Some (global number u)) = refl
  declared_same e (Some (constant k u)) = refl
  declared_same e (Some (type_name u)) = refl
  declared_same e (Some (function id ps rs v)) = refl
  declared_same e (Some (imported p)) = refl
  declared_same e (Some (built_in b)) = refl
  declared_same e (Some nil_value) = refl
  declared_same e (Some (refused c)) = refl
  declared_same e (Some unknown) = refl
  declared_same e None = refl

  pub left_same : (e : Expr) → left_of some_walk e ≡ left_of no_walk e
  left_same (NameExpr at x) = ap (λ (m : Left). if is_blank x then left_blank else m) (declared_same (NameExpr at x) (lookup x ss))
  left_same (ParenExpr at x) = left_same x
  left_same (IntExpr at x) = refl
  left_same (RuneExpr at x) = refl
  left_same (StrExpr at x) = refl
  left_same (UnaryExpr at op x) = refl
  left_same (BinaryExpr at x op y) = refl
  left_same (SelectExpr at x name) = refl
  left_same (IndexExpr at x i) = refl
  left_same (SliceExpr at x low high most) = refl
  left_same (AssertExpr at x u) = refl
  left_same (CallExpr at f xs spread) = refl
  left_same (LiteralExpr at u es) = refl
  left_same (FuncExpr at sig b) = refl
  left_same (ArrayType at m u) = refl
  left_same (SliceType at u) = refl
  left_same (StructType at fs) = refl
  left_same (FuncType at sig) = refl
  left_same (InterfaceType at ms) = refl
  left_same (MapType at k u) = refl
  left_same (ChanType at d u) = refl

  pub lefts_same : (es : List Expr) → lefts_of some_walk es ≡ lefts_of no_walk es
  lefts_same [] = refl
  lefts_same (e ∷ es) = ap (λ (m : Left). m ∷ lefts_of some_walk es) (left_same e) ∙ ap (λ (ms : List Left). left_of no_walk e ∷ ms) (lefts_same es)

-- ---- as many

pub many_types : (w : Walk) (xs : List Expr) (us : Tys) → as_many (lefts_of w xs) us ≡ same_number (view.exprs_of xs) us
many_types w [] no_tys = refl
many_types w [] (more_tys u us) = refl
many_types w (x ∷ xs) no_tys = refl
many_types w (x ∷ xs) (more_tys u us) = many_types w xs us

pub many_values : (w : Walk) (xs ys : List Expr) → as_many_values (lefts_of w xs) (raws_of w.names w.scopes ys) ≡ count_of (view.exprs_of xs) (view.exprs_of ys)
many_values w [] [] = refl
many_values w [] (y ∷ ys) = refl
many_values w (x ∷ xs) [] = refl
many_values w (x ∷ xs) (y ∷ ys) = many_values w xs ys

-- ---- what is told and stored

pub flaws_all : (w : Walk) (xs : List Expr) → all_flaws (lefts_of w xs) ≡ lefts_flaws w (view.exprs_of xs)
flaws_all w [] = refl
flaws_all w (x ∷ xs) = ap (λ (fs : List Flaw). left_flaws (left_of w x) ++ fs) (flaws_all w xs)

pub left_all : (w : Walk) (xs : List Expr) → all_left (lefts_of w xs) ≡ lefts_typed w (view.exprs_of xs)
left_all w [] = refl
left_all w (x ∷ xs) = ap (λ (b : Bool). is_left (left_of w x) && b) (left_all w xs)

pub targets_all : (w : Walk) (xs : List Expr) → all_targets (lefts_of w xs) ≡ targets_of w (view.exprs_of xs)
targets_all w [] = refl
targets_all w (x ∷ xs) = ap (λ (gs : List Target). target_of (left_of w x) ∷ gs) (targets_all w xs)

pub takes_all : (w : Walk) (xs : List Expr) (us : Tys) → each_takes (lefts_of w xs) us ≡ all_take w (view.exprs_of xs) us
takes_all w [] us = refl
takes_all w (x ∷ xs) no_tys = refl
takes_all w (x ∷ xs) (more_tys u us) = ap (λ (b : Bool). takes (left_of w x) u && b) (takes_all w xs us)

pub fit_for : (w : Walk) (l : Left) (y : Expr) → fitted w.names l (raw_of w.names w.scopes y) ≡ value_for w l y
fit_for w left_blank y = refl
fit_for w (left_place p u) y = refl
fit_for w (left_wrong fs) y = refl

abbrev as_assigned : List (Left × Valued) → Assigned
as_assigned ps = record { targets = pair_targets ps; values = exprs_of (pair_values ps); flaws = pair_flaws ps }

pub each_all : (w : Walk) (xs ys : List Expr) → as_assigned (paired w.names (lefts_of w xs) (raws_of w.names w.scopes ys)) ≡ assigned_each w (view.exprs_of xs) (view.exprs_of ys)
each_all w [] ys = refl
each_all w (x ∷ xs) [] = refl
each_all w (x ∷ xs) (y ∷ ys) =
    ap (λ (v : Valued). one_more (left_of w x) v (as_assigned (paired w.names (lefts_of w xs) (raws_of w.names w.scopes ys)))) (fit_for w (left_of w x) y)
    ∙ ap (one_more (left_of w x) (value_for w (left_of w x) y)) (each_all w xs ys)

-- ---- both sides

abbrev pub gives_did : Gives → Walk → Did
gives_did g u = made g.core g.flaws u

if_did : (b c : Bool) (g h : Gives) (d e : Did) (u : Walk) → b ≡ c → gives_did g u ≡ d → gives_did h u ≡ e → gives_did (if b then g else h) u ≡ (if c then d else e)
if_did true true g h d e u p q r = q
if_did false false g h d e u p q r = r
if_did true false g h d e u p q r = absurd (cc)
if_did false true g h d e u p q r = absurd (cc)

counted : (at : Place) (w : Walk) (xs ys : List Expr) (u : Walk) → gives_did (not_as_many at (lefts_of w xs) (raws_of w.names w.scopes ys)) u ≡ miscounted at w (view.exprs_of xs) (view.exprs_of ys) u
counted at w xs ys u =
    let known = lefts_typed w (view.exprs_of xs) && all_typed w (view.exprs_of ys) in
    ap (λ (b : Bool). made [] (where_typed (b && all_known (raws_of w.names w.scopes ys)) (all_flaws (lefts_of w xs) ++ all_told (raws_of w.names w.scopes ys)) (flaw at 84 ∷ [])) u) (left_all w xs)
    ∙ ap (λ (b : Bool). made [] (where_typed (lefts_typed w (view.exprs_of xs) && b) (all_flaws (lefts_of w xs) ++ all_told (raws_of w.names w.scopes ys)) (flaw at 84 ∷ [])) u) (sym (typed_all w ys))
    ∙ ap (λ (fs : List Flaw). made [] (where_typed known (fs ++ all_told (raws_of w.names w.scopes ys)) (flaw at 84 ∷ [])) u) (flaws_all w xs)
    ∙ ap (λ (fs : List Flaw). made [] (where_typed known (lefts_flaws w (view.exprs_of xs) ++ fs) (flaw at 84 ∷ [])) u) (sym (told_all w ys))

each_did : (w : Walk) (xs ys : List Expr) (u : Walk)
    → gives_did (each_gives (paired w.names (lefts_of w xs) (raws_of w.names w.scopes ys))) u
    ≡ made (core.store (assigned_each w (view.exprs_of xs) (view.exprs_of ys)).targets (assigned_each w (view.exprs_of xs) (view.exprs_of ys)).values ∷ []) (assigned_each w (view.exprs_of xs) (view.exprs_of ys)).flaws u
each_did w xs ys u = ap (λ (s : Assigned). made (core.store s.targets s.values ∷ []) s.flaws u) (each_all w xs ys)

abbrev store_one : core.Expr → List Target → core.Stmt
store_one e gs = core.store gs (core.expr e core.no_exprs)

call_did : (w : Walk) (xs : List Expr) (y : Expr) (us : Tys) (u : Walk)
    → gives_did (call_gives (lefts_of w xs) (raw_of w.names w.scopes y) us) u
    ≡ made (core.store (targets_of w (view.exprs_of xs)) (core.expr (core_of (answer_in w y)) core.no_exprs) ∷ []) (lefts_flaws w (view.exprs_of xs) ++ (if all_take w (view.exprs_of xs) us then [] else flaw (place_of y) 61 ∷ [])) u
call_did w xs y us u =
    ap (λ (gs : List Target). made (store_one (core_of (answer_in w y)) gs ∷ []) (all_flaws (lefts_of w xs) ++ (if each_takes (lefts_of w xs) us then [] else flaw (place_of y) 61 ∷ [])) u) (targets_all w xs)
    ∙ ap (λ (fs : List Flaw). made (store_one (core_of (answer_in w y)) (targets_of w (view.exprs_of xs)) ∷ []) (fs ++ (if each_takes (lefts_of w xs) us then [] else flaw (place_of y) 61 ∷ [])) u) (flaws_all w xs)
    ∙ ap (λ (b : Bool). made (store_one (core_of (answer_in w y)) (targets_of w (view.exprs_of xs)) ∷ []) (lefts_flaws w (view.exprs_of xs) ++ (if b then [] else flaw (place_of y) 61 ∷ [])) u) (takes_all w xs us)

by_each : (at : Place) (w : Walk) (xs ys : List Expr) (u : Walk) → gives_did (assigned_by w.names at (lefts_of w xs) (raws_of w.names w.scopes ys) None) u ≡ assign_by at w (view.exprs_of xs) (view.exprs_of ys) None u
by_each at w xs ys u =
    if_did (as_many_values (lefts_of w xs) (raws_of w.names w.scopes ys)) (count_of (view.exprs_of xs) (view.exprs_of ys)) (each_gives (paired w.names (lefts_of w xs) (raws_of w.names w.scopes ys)))
    (not_as_many at (lefts_of w xs) (raws_of w.names w.scopes ys)) _ _ u (many_values w xs ys) (each_did w xs ys u) (counted at w xs ys u)

by_one : (at : Place) (w : Walk) (xs : List Expr) (y : Expr) (o : Option Tys) (u : Walk)
    → gives_did (assigned_by w.names at (lefts_of w xs) (raws_of w.names w.scopes (y ∷ [])) o) u ≡ assign_by at w (view.exprs_of xs) (t.MoreExprs y t.NoExprs) o u
by_one at w xs y None u = by_each at w xs (y ∷ []) u
by_one at w xs y (Some us) u =
    if_did (as_many (lefts_of w xs) us) (same_number (view.exprs_of xs) us) (call_gives (lefts_of w xs) (raw_of w.names w.scopes y) us)
    (not_as_many at (lefts_of w xs) (raws_of w.names w.scopes (y ∷ []))) _ _ u (many_types w xs us) (call_did w xs y us u) (counted at w xs (y ∷ []) u)

pub assigned_did : (at : Place) (w : Walk) (xs ys : List Expr) (u : Walk) → gives_did (assigned w.names at (lefts_of w xs) (raws_of w.names w.scopes ys)) u ≡ assign_did at w (view.exprs_of xs) (view.exprs_of ys) u
assigned_did at w xs [] u = by_each at w xs [] u
assigned_did at w xs (y ∷ []) u = by_one at w xs y (several_types (answer_in w y)) u
assigned_did at w xs (y ∷ z ∷ ys) u = by_each at w xs (y ∷ z ∷ ys) u
