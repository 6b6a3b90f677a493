-- What comes of names and values, as the definitions say it of the expressions.
use Rattle.std.proofs.Common.{◌≡◌, ℕ, ◌∙◌, refl, sym, ap, List, [], ◌∷◌, ◌++◌, Option, Some, None, Bool, true, false, ◌&&◌}
use Rattle.std.specs.Prelude.{if◌then◌else◌}
use Rattle.gj_base.specs.declared.place.Place.{Place}
use Rattle.go_syntax.specs.Tree as t
use Rattle.go_syntax.specs.Tree.{Expr, NameExpr, IntExpr, RuneExpr, StrExpr, ParenExpr, UnaryExpr, BinaryExpr, SelectExpr, IndexExpr, SliceExpr, AssertExpr, CallExpr, LiteralExpr, FuncExpr, ArrayType, SliceType, StructType, FuncType, InterfaceType, MapType, ChanType}
use Rattle.go_syntax.specs.View as view
use Rattle.go_syntax.specs.declared.tree.Name.{Name}
use Rattle.go_type.specs.Tree.{Ty, Tys, no_tys, more_tys}
use Rattle.go_type.specs.Named.{NamedTy}
use Rattle.go_core.specs.CoreTree as core
use Rattle.go_core.specs.CoreTree.{Var, Target, blank}
use Rattle.go_core.specs.CoreView.{exprs_of}
use Rattle.go_typing.specs.Env.{Bind, is_blank}
use Rattle.go_typing.specs.Answer.{Flaw, flaw}
use Rattle.go_typing.specs.Typing.{place_of}
use Rattle.go_typing.specs.Walk as go
use Rattle.go_typing.specs.Walk.{Walk, Did, is_there}
use Rattle.go_typing.specs.Expressions.{Valued, answer_in, several_types, core_of, type_of}
use Rattle.go_typing.specs.Assign.{left_flaws, left_of, target_of, takes, count_of, same_number, all_typed, all_in_flaws, where_typed, where_right, several_right, side_typed, sides_typed, sides_told, fresh_flaws, old_flaws, Fresh, new_name, old_name, blank_name, no_name, fresh_of, fresh_by, name_of, names_flaws, is_new, any_new, first_place, define_flaws, Defined, no_more, defined_more, define_new, define_one, define_each, defined_did, define_type_new, define_type, define_types, with_unknown_new, with_fresh, unknown_names, define_miscounted, define_call, define_by}
use Rattle.go_typing.specs.Declare.{declare_one, declare_stmts, declare_target}
use Rattle.go_expr.specs.Raw.{Raw, raw_of, raws_of}
use Rattle.go_assign.specs.Settled.{all_known, all_told, several_in}
use Rattle.go_assign.proofs.RawLemmas.{typed_all, told_all, several_all}
use Rattle.go_assign.proofs.OutcomeLemmas.{made}
use Rattle.go_assign.proofs.SideLemmas.{left_same, fit_for}
use Rattle.go_define.specs.FreshView.{Spot, new_spot, old_spot, blank_spot, other_spot, spot_by, spot_of, spots_of, plain_name, is_new_spot, any_new_spot, spot_typed, spots_typed}
use Rattle.go_define.specs.DefineTold.{all_fine, names_told}
use Rattle.go_define.specs.Defining.{Take, Done, done, take_flaws, spot_stmts, spot_target, spot_walk, spot_valued, value_takes, value_cores, type_flaws, type_takes, defined, unknowns, spot_flaws, spots_flaws, parts_flaws, not_defined, as_many_values, as_many_types, defined_by}
use Rattle.go_define.proofs.NameLemmas.{seen_after, told_by, flaws_step}
use Rattle.go_define.proofs.FineLemmas.{fine_right, right_and}

-- ---- of the walk only names and scopes are asked

abbrev walk_at : List NamedTy → List (List Bind) → ℕ → ℕ → List Var → List Name → List Place → ℕ → Walk
walk_at ns ss n l vs ds us z = record { names = ns; scopes = ss; next = n; next_label = l; vars = vs; declared = ds; used = us; lost = z }

module _ (ns : List NamedTy) (ss : List (List Bind)) (n l : ℕ) (vs : List Var) (ds : List Name) (us : List Place) (z : ℕ) where
  abbrev some_walk : Walk
  some_walk = walk_at ns ss n l vs ds us z

  abbrev no_walk : Walk
  no_walk = walk_at ns ss 0 0 [] [] [] 0

  by_same : (at : Place) (x : List ℕ) (b : Bool) (o : Option Place) → spot_by some_walk (if b then blank_name else fresh_by at x o) ≡ spot_by no_walk (if b then blank_name else fresh_by at x o)
  by_same at x true o = refl
  by_same at x false None = refl
  by_same at x false (Some p) = ap old_spot (left_same ns ss n l vs ds us z (NameExpr at x))

  pub spot_same : (e : Expr) → spot_of some_walk e ≡ spot_of no_walk e
  spot_same (NameExpr at x) = by_same at x (is_blank x) (is_there (name_of at x) no_walk)
  spot_same (ParenExpr at x) = refl
  spot_same (IntExpr at x) = refl
  spot_same (RuneExpr at x) = refl
  spot_same (StrExpr at x) = refl
  spot_same (UnaryExpr at op x) = refl
  spot_same (BinaryExpr at x op y) = refl
  spot_same (SelectExpr at x name) = refl
  spot_same (IndexExpr at x i) = refl
  spot_same (SliceExpr at x low high most) = refl
  spot_same (AssertExpr at x u) = refl
  spot_same (CallExpr at f xs spread) = refl
  spot_same (LiteralExpr at u es) = refl
  spot_same (FuncExpr at sig b) = refl
  spot_same (ArrayType at m u) = refl
  spot_same (SliceType at u) = refl
  spot_same (StructType at fs) = refl
  spot_same (FuncType at sig) = refl
  spot_same (InterfaceType at ms) = refl
  spot_same (MapType at k u) = refl
  spot_same (ChanType at d u) = refl

  pub spots_same : (es : List Expr) → spots_of some_walk es ≡ spots_of no_walk es
  spots_same [] = refl
  spots_same (e ∷ es) = ap (λ (s : Spot). s ∷ spots_of some_walk es) (spot_same e) ∙ ap (λ (ss : List Spot). spot_of no_walk e ∷ ss) (spots_same es)

  by_told : (seen : List (List ℕ)) (e : Expr) (o : Option (List ℕ)) → told_by some_walk seen e o ≡ told_by no_walk seen e o
  by_told seen e None = refl
  by_told seen e (Some x) = refl

  pub names_same : (seen : List (List ℕ)) (es : List Expr) → names_flaws some_walk seen (view.exprs_of es) ≡ names_flaws no_walk seen (view.exprs_of es)
  names_same seen [] = refl
  names_same seen (e ∷ es) =
      let o = plain_name e in
      let more = seen_after seen o in
      flaws_step some_walk seen e (view.exprs_of es)
      ∙ ap (λ (fs : List Flaw). fs ++ names_flaws some_walk more (view.exprs_of es)) (by_told seen e o)
      ∙ ap (λ (fs : List Flaw). told_by no_walk seen e o ++ fs) (names_same more es)
      ∙ sym (flaws_step no_walk seen e (view.exprs_of es))

-- ---- what is told of the names

new_by : (w : Walk) (f : Fresh) → is_new_spot (spot_by w f) ≡ is_new f
new_by w (new_name n) = refl
new_by w (old_name e) = refl
new_by w blank_name = refl
new_by w (no_name p) = refl

any_all : (w : Walk) (xs : List Expr) → any_new_spot (spots_of w xs) ≡ any_new w (view.exprs_of xs)
any_all w [] = refl
any_all w (x ∷ xs) = ap (λ (b : Bool). if b then true else any_new_spot (spots_of w xs)) (new_by w (fresh_of w x)) ∙ ap (λ (b : Bool). if is_new (fresh_of w x) then true else b) (any_all w xs)

typed_by : (w : Walk) (f : Fresh) → spot_typed (spot_by w f) ≡ side_typed w f
typed_by w (new_name n) = refl
typed_by w (old_name e) = refl
typed_by w blank_name = refl
typed_by w (no_name p) = refl

sides_all : (w : Walk) (xs : List Expr) → spots_typed (spots_of w xs) ≡ sides_typed w (view.exprs_of xs)
sides_all w [] = refl
sides_all w (x ∷ xs) = ap (λ (b : Bool). b && spots_typed (spots_of w xs)) (typed_by w (fresh_of w x)) ∙ ap (λ (b : Bool). side_typed w (fresh_of w x) && b) (sides_all w xs)

fine_all : (w : Walk) (ys : List Expr) (fs : List Flaw) → (if all_fine (raws_of w.names w.scopes ys) then fs else []) ≡ where_right (all_typed w (view.exprs_of ys)) (all_in_flaws w (view.exprs_of ys)) fs
fine_all w ys fs =
    let rs = raws_of w.names w.scopes ys in
    fine_right rs fs
    ∙ ap (λ (b : Bool). where_right b (all_told rs) fs) (sym (typed_all w ys))
    ∙ ap (λ (gs : List Flaw). where_right (all_typed w (view.exprs_of ys)) gs fs) (sym (told_all w ys))

flaws_all : (at : Place) (w : Walk) (xs ys : List Expr) → names_told w at xs (spots_of w xs) (raws_of w.names w.scopes ys) ≡ define_flaws at w (view.exprs_of xs) (view.exprs_of ys)
flaws_all at w xs ys =
    let told = names_flaws w [] (view.exprs_of xs) in
    let last = flaw (first_place (view.exprs_of xs) at) 83 ∷ [] in
    let fine = all_fine (raws_of w.names w.scopes ys) in
    ap (λ (b : Bool). told ++ (if b then [] else (if spots_typed (spots_of w xs) && fine then last else []))) (any_all w xs)
    ∙ ap (λ (b : Bool). told ++ (if any_new w (view.exprs_of xs) then [] else (if b && fine then last else []))) (sides_all w xs)
    ∙ ap (λ (fs : List Flaw). told ++ (if any_new w (view.exprs_of xs) then [] else fs)) (right_and (sides_typed w (view.exprs_of xs)) fine (all_typed w (view.exprs_of ys)) (all_in_flaws w (view.exprs_of ys)) last (fine_all w ys last))

-- ---- as many

many_types : (w : Walk) (xs : List Expr) (us : Tys) → as_many_types (spots_of w xs) us ≡ same_number (view.exprs_of xs) us
many_types w [] no_tys = refl
many_types w [] (more_tys u us) = refl
many_types w (x ∷ xs) no_tys = refl
many_types w (x ∷ xs) (more_tys u us) = many_types w xs us

many_values : (w : Walk) (xs ys : List Expr) → as_many_values (spots_of w xs) (raws_of w.names w.scopes ys) ≡ count_of (view.exprs_of xs) (view.exprs_of ys)
many_values w [] [] = refl
many_values w [] (y ∷ ys) = refl
many_values w (x ∷ xs) [] = refl
many_values w (x ∷ xs) (y ∷ ys) = many_values w xs ys

-- ---- as many values as names

abbrev as_defined : List Take → core.Exprs → Walk → Defined
as_defined ks es u = record { before = (done ks u).before; targets = (done ks u).targets; values = es; flaws = take_flaws ks; walk = (done ks u).walk }

new_one : (w u : Walk) (n : Name) (p : Option Place) (y : Expr) (v : Valued) (others : Walk → Defined) → v ≡ spot_valued w.names (new_spot n) (raw_of w.names w.scopes y)
    → defined_more (declare_stmts p u (type_of v.answer)) (declare_target p u (type_of v.answer)) v (others (declare_one n p (type_of v.answer) u)) ≡ define_new w u n p y others
new_one w u n None y v others h = ap (λ (x : Valued). defined_more (declare_stmts None u (type_of x.answer)) (declare_target None u (type_of x.answer)) x (others (declare_one n None (type_of x.answer) u))) h
new_one w u n (Some at) y v others h = ap (λ (x : Valued). defined_more [] blank x (others u)) h

abbrev one_defined : Walk → Walk → Spot → Valued → (Walk → Defined) → Defined
one_defined w u s v others = defined_more (spot_stmts u s (type_of v.answer)) (spot_target u s (type_of v.answer)) v (others (spot_walk s (type_of v.answer) u))

one_all : (w u : Walk) (f : Fresh) (y : Expr) (others : Walk → Defined) → one_defined w u (spot_by w f) (spot_valued w.names (spot_by w f) (raw_of w.names w.scopes y)) others ≡ define_one w u f y others
one_all w u (new_name n) y others = new_one w u n (is_there n u) y (spot_valued w.names (new_spot n) (raw_of w.names w.scopes y)) others refl
one_all w u (old_name e) y others = ap (λ (x : Valued). defined_more [] (target_of (left_of w e)) x (others u)) (fit_for w (left_of w e) y)
one_all w u blank_name y others = refl
one_all w u (no_name p) y others = refl

abbrev each_defined : Walk → List Expr → List Expr → Walk → Defined
each_defined w xs ys u = as_defined (value_takes w.names (spots_of w xs) (raws_of w.names w.scopes ys)) (exprs_of (value_cores w.names (spots_of w xs) (raws_of w.names w.scopes ys))) u

each_all : (w : Walk) (xs ys : List Expr) (u : Walk) → each_defined w xs ys u ≡ define_each w (view.exprs_of xs) (view.exprs_of ys) u
each_all w [] ys u = refl
each_all w (x ∷ xs) [] u = refl
each_all w (x ∷ xs) (y ∷ ys) u =
    let s = spot_of w x in
    let v = spot_valued w.names s (raw_of w.names w.scopes y) in
    ap (λ (d : Defined). defined_more (spot_stmts u s (type_of v.answer)) (spot_target u s (type_of v.answer)) v d) (each_all w xs ys (spot_walk s (type_of v.answer) u))
    ∙ one_all w u (fresh_of w x) y (define_each w (view.exprs_of xs) (view.exprs_of ys))

-- ---- the several values of a call

abbrev type_defined : List core.Stmt → Target → List Flaw → Defined → Defined
type_defined ss g fs d = record { before = ss ++ d.before; targets = g ∷ d.targets; values = d.values; flaws = fs ++ d.flaws; walk = d.walk }

new_type : (u : Walk) (n : Name) (p : Option Place) (ty : Ty) (others : Walk → Defined)
    → type_defined (declare_stmts p u (Some ty)) (declare_target p u (Some ty)) [] (others (declare_one n p (Some ty) u)) ≡ define_type_new u n p ty others
new_type u n None ty others = refl
new_type u n (Some at) ty others = refl

one_type : (w u : Walk) (y : Expr) (f : Fresh) (ty : Ty) (others : Walk → Defined)
    → type_defined (spot_stmts u (spot_by w f) (Some ty)) (spot_target u (spot_by w f) (Some ty)) (type_flaws (place_of y) (spot_by w f) ty) (others (spot_walk (spot_by w f) (Some ty) u)) ≡ define_type w u y f ty others
one_type w u y (new_name n) ty others = new_type u n (is_there n u) ty others
one_type w u y (old_name e) ty others = refl
one_type w u y blank_name ty others = refl
one_type w u y (no_name p) ty others = refl

types_all : (w : Walk) (y : Expr) (xs : List Expr) (us : Tys) (u : Walk) → as_defined (type_takes (place_of y) (spots_of w xs) us) core.no_exprs u ≡ define_types w y (view.exprs_of xs) us u
types_all w y [] us u = refl
types_all w y (x ∷ xs) no_tys u = refl
types_all w y (x ∷ xs) (more_tys ty us) u =
    let s = spot_of w x in
    ap (λ (d : Defined). type_defined (spot_stmts u s (Some ty)) (spot_target u s (Some ty)) (type_flaws (place_of y) s ty) d) (types_all w y xs us (spot_walk s (Some ty) u))
    ∙ one_type w u y (fresh_of w x) ty (define_types w y (view.exprs_of xs) us)

-- ---- a wrong count

new_unknown : (n : Name) (p : Option Place) (u : Walk) → declare_one n p None u ≡ with_unknown_new n p u
new_unknown n None u = refl
new_unknown n (Some at) u = refl

one_unknown : (w : Walk) (f : Fresh) (u : Walk) → spot_walk (spot_by w f) None u ≡ with_fresh f u
one_unknown w (new_name n) u = new_unknown n (is_there n u) u
one_unknown w (old_name e) u = refl
one_unknown w blank_name u = refl
one_unknown w (no_name p) u = refl

unknowns_all : (w : Walk) (xs : List Expr) (u : Walk) → unknowns (spots_of w xs) u ≡ unknown_names w (view.exprs_of xs) u
unknowns_all w [] u = refl
unknowns_all w (x ∷ xs) u = ap (unknowns (spots_of w xs)) (one_unknown w (fresh_of w x) u) ∙ unknowns_all w xs (with_fresh (fresh_of w x) u)

old_by : (w : Walk) (f : Fresh) → spot_flaws (spot_by w f) ≡ fresh_flaws w f
old_by w (new_name n) = refl
old_by w (old_name e) = refl
old_by w blank_name = refl
old_by w (no_name p) = refl

olds_all : (w : Walk) (xs : List Expr) → spots_flaws (spots_of w xs) ≡ old_flaws w (view.exprs_of xs)
olds_all w [] = refl
olds_all w (x ∷ xs) = ap (λ (fs : List Flaw). fs ++ spots_flaws (spots_of w xs)) (old_by w (fresh_of w x)) ∙ ap (λ (fs : List Flaw). fresh_flaws w (fresh_of w x) ++ fs) (olds_all w xs)

pub parts_all : (f : Flaw) (w : Walk) (fs : List Flaw) (xs ys : List Expr) → parts_flaws f fs (spots_of w xs) (raws_of w.names w.scopes ys) ≡ sides_told f w fs (view.exprs_of xs) (view.exprs_of ys)
parts_all f w fs xs ys =
    let X = view.exprs_of xs in
    let Y = view.exprs_of ys in
    let rs = raws_of w.names w.scopes ys in
    let ss = spots_of w xs in
    ap (λ (b : Bool). where_typed (b && all_known rs) (all_told rs ++ fs) (f ∷ []) ++ spots_flaws ss) (sides_all w xs)
    ∙ ap (λ (b : Bool). where_typed (sides_typed w X && b) (all_told rs ++ fs) (f ∷ []) ++ spots_flaws ss) (sym (typed_all w ys))
    ∙ ap (λ (gs : List Flaw). where_typed (sides_typed w X && all_typed w Y) (gs ++ fs) (f ∷ []) ++ spots_flaws ss) (sym (told_all w ys))
    ∙ ap (λ (gs : List Flaw). where_typed (sides_typed w X && all_typed w Y) (all_in_flaws w Y ++ fs) (f ∷ []) ++ gs) (olds_all w xs)

counted : (at : Place) (w : Walk) (fs : List Flaw) (xs ys : List Expr) (u : Walk) → not_defined at fs (spots_of w xs) (raws_of w.names w.scopes ys) u ≡ define_miscounted at w fs (view.exprs_of xs) (view.exprs_of ys) u
counted at w fs xs ys u =
    ap (λ (gs : List Flaw). made [] gs (unknowns (spots_of w xs) u)) (parts_all (flaw at 84) w fs xs ys)
    ∙ ap (λ (v : Walk). made [] (sides_told (flaw at 84) w fs (view.exprs_of xs) (view.exprs_of ys)) v) (unknowns_all w xs u)

-- ---- the statement

if_did : (b c : Bool) (g h d e : Did) → b ≡ c → g ≡ d → h ≡ e → (if b then g else h) ≡ (if c then d else e)
if_did true true g h d e p q r = q
if_did false false g h d e p q r = r
if_did true false g h d e p q r = absurd (cc)
if_did false true g h d e p q r = absurd (cc)

abbrev call_did : List Flaw → core.Expr → Defined → Did
call_did fs c d = made (d.before ++ core.store d.targets (core.expr c core.no_exprs) ∷ []) (d.flaws ++ fs) d.walk

by_each : (at : Place) (w : Walk) (fs : List Flaw) (xs ys : List Expr) (u : Walk)
    → defined_by w.names at fs (spots_of w xs) (raws_of w.names w.scopes ys) None u ≡ define_by at w fs (view.exprs_of xs) (view.exprs_of ys) None u
by_each at w fs xs ys u =
    let ss = spots_of w xs in
    let rs = raws_of w.names w.scopes ys in
    if_did (as_many_values ss rs) (count_of (view.exprs_of xs) (view.exprs_of ys)) (defined fs (value_takes w.names ss rs) (exprs_of (value_cores w.names ss rs)) u) (not_defined at fs ss rs u) _ _
    (many_values w xs ys) (ap (defined_did fs) (each_all w xs ys u)) (counted at w fs xs ys u)

by_one : (at : Place) (w : Walk) (fs : List Flaw) (xs : List Expr) (y : Expr) (o : Option Tys) (u : Walk)
    → defined_by w.names at fs (spots_of w xs) (raws_of w.names w.scopes (y ∷ [])) o u ≡ define_by at w fs (view.exprs_of xs) (t.MoreExprs y t.NoExprs) o u
by_one at w fs xs y None u = by_each at w fs xs (y ∷ []) u
by_one at w fs xs y (Some us) u =
    let ss = spots_of w xs in
    if_did (as_many_types ss us) (same_number (view.exprs_of xs) us) (defined fs (type_takes (place_of y) ss us) (core.expr (core_of (answer_in w y)) core.no_exprs) u) (not_defined at fs ss (raws_of w.names w.scopes (y ∷ [])) u) _ _
    (many_types w xs us) (ap (call_did fs (core_of (answer_in w y))) (types_all w y xs us u)) (counted at w fs xs (y ∷ []) u)

by_all : (at : Place) (w : Walk) (fs : List Flaw) (xs ys : List Expr) (u : Walk)
    → defined_by w.names at fs (spots_of w xs) (raws_of w.names w.scopes ys) (several_in (raws_of w.names w.scopes ys)) u ≡ define_by at w fs (view.exprs_of xs) (view.exprs_of ys) (several_right w (view.exprs_of ys)) u
by_all at w fs xs [] u = by_each at w fs xs [] u
by_all at w fs xs (y ∷ []) u = by_one at w fs xs y (several_types (answer_in w y)) u
by_all at w fs xs (y ∷ z ∷ ys) u = by_each at w fs xs (y ∷ z ∷ ys) u

pub define_all : (at : Place) (w : Walk) (xs ys : List Expr) (u : Walk)
    → defined_by w.names at (names_told w at xs (spots_of w xs) (raws_of w.names w.scopes ys)) (spots_of w xs) (raws_of w.names w.scopes ys) (several_in (raws_of w.names w.scopes ys)) u
    ≡ define_by at w (define_flaws at w (view.exprs_of xs) (view.exprs_of ys)) (view.exprs_of xs) (view.exprs_of ys) (several_right w (view.exprs_of ys)) u
define_all at w xs ys u =
    ap (λ (fs : List Flaw). defined_by w.names at fs (spots_of w xs) (raws_of w.names w.scopes ys) (several_in (raws_of w.names w.scopes ys)) u) (flaws_all at w xs ys)
    ∙ by_all at w (define_flaws at w (view.exprs_of xs) (view.exprs_of ys)) xs ys u
