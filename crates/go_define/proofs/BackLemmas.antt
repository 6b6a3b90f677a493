-- Values that are given back.
use Rattle.std.proofs.Common.{arith, ◌≡◌, ◌≢◌, ◌∙◌, ℕ, zero, suc, refl, sym, ap, subst, List, [], ◌∷◌, ◌++◌, append_assoc, map, length, drop, get_or, Bool, true, false, ◌==◌, ◌+◌, ◌<◌, ◌≤◌}
use Rattle.std.specs.Prelude.{Option, Some, None, if◌then◌else◌}
use Rattle.std.proofs.lemmas.List.{append-nil, map-append}
use Rattle.std.proofs.Math.Seq.{drop-cons}
use Rattle.gj_base.specs.declared.place.Place.{Place}
use Rattle.go_type.specs.Tree.{Ty, Tys, no_tys, more_tys}
use Rattle.go_type.specs.Named.{NamedTy}
use Rattle.go_type.specs.Levels.{tree_of, trees_of}
use Rattle.go_type.specs.declared.types.TypeId.{TypeId}
use Rattle.go_type.specs.declared.table.TypeTable.{TypeTable}
use Rattle.go_core.specs.CoreTree as core
use Rattle.go_core.specs.SameType.{same_types}
use Rattle.go_core.specs.CoreView.{expr_view, exprs_view, exprs_of, stmt_view}
use Rattle.go_core.specs.declared.node.CoreExpr.{CoreExpr}
use Rattle.go_core.specs.declared.node.CoreExprs.{CoreExprs}
use Rattle.go_core.specs.declared.statement.CoreStmt.{CoreStmt}
use Rattle.go_typing.specs.Answer as typing
use Rattle.go_typing.specs.Answer.{flaw}
use Rattle.go_operands.specs.AnswerView.{flaw_view}
use Rattle.go_operands.specs.declared.answers.answer.Flaw.{Flaw}
use Rattle.go_typing.specs.Expressions.{Valued, core_of}
use Rattle.go_typing.specs.Statements.{count_types}
use Rattle.go_walk.specs.WalkView.{Keeps}
use Rattle.go_expr.specs.declared.typed.raw.Raw as code
use Rattle.go_expr.specs.Raw.{Raw, raws_after}
use Rattle.go_assign.specs.Settled.{at_type, several_in}
use Rattle.go_assign.specs.Taken.{StandsFor}
use Rattle.go_assign.specs.Outcome.{Adds}
use Rattle.go_define.specs.SimpleTold.{Told, told, fault, unless_told, same_count, back, back_by, back_each, back_several, back_flaws, back_cores, whole_told, first_told}
use Rattle.go_define.proofs.ToldLemmas.{adds_same, adds_nothing, adds_flaws, adds_stmts, one_more}
use Rattle.go_define.proofs.CountLemmas.{types_equal, types_unequal, same_raws, other_raws}

pub gives_back : (old new : List CoreStmt) (s : CoreStmt) (vs : CoreExprs) (es : List CoreExpr) → new ≡ old ++ s ∷ [] → ((ts : List Ty) → stmt_view ts s ≡ core.return_ (exprs_view ts vs)) → ((ts : List Ty) → exprs_view ts vs ≡ exprs_of (map (expr_view ts) es))
    → (ts : List Ty) → map (stmt_view ts) new ≡ map (stmt_view ts) old ++ core.return_ (exprs_of (map (expr_view ts) es)) ∷ []
gives_back old new s vs es p h k ts = one_more old new s (λ us. core.return_ (exprs_of (map (expr_view us) es))) p (λ us. h us ∙ ap core.return_ (k us)) ts

-- ---- a value for each result

pub valued_more : (t : TypeTable) (old new : List CoreExpr) (x : CoreExpr) (c : core.Expr) → new ≡ old ++ x ∷ [] → StandsFor t c x → (ts : List Ty) → Keeps t ts → map (expr_view ts) new ≡ map (expr_view ts) old ++ c ∷ []
valued_more t old new x c p h ts k = ap (map (expr_view ts)) p ∙ map-append (expr_view ts) old (x ∷ []) ∙ ap (λ (e : core.Expr). map (expr_view ts) old ++ e ∷ []) (h.stands ts k)

pub told_fit : (f0 f1 : List Flaw) (v w : Valued) → v ≡ w → map flaw_view f1 ≡ map flaw_view f0 ++ v.flaws → map flaw_view f1 ≡ map flaw_view f0 ++ w.flaws
told_fit f0 f1 v w p h = h ∙ ap (λ (x : Valued). map flaw_view f0 ++ x.flaws) p

pub valued_fit : (t : TypeTable) (old new : List CoreExpr) (v w : Valued) → v ≡ w → ((ts : List Ty) → Keeps t ts → map (expr_view ts) new ≡ map (expr_view ts) old ++ core_of v.answer ∷ [])
    → (ts : List Ty) → Keeps t ts → map (expr_view ts) new ≡ map (expr_view ts) old ++ core_of w.answer ∷ []
valued_fit t old new v w p h ts k = h ts k ∙ ap (λ (x : Valued). map (expr_view ts) old ++ core_of x.answer ∷ []) p

pub adds_back : (t : TypeTable) (fs : List typing.Flaw) (cs : core.Exprs) (f0 f1 : List Flaw) (o0 o1 : List CoreStmt) (es : List CoreExpr) → map flaw_view f1 ≡ map flaw_view f0 ++ fs
    → ((ts : List Ty) → map (stmt_view ts) o1 ≡ map (stmt_view ts) o0 ++ core.return_ (exprs_of (map (expr_view ts) es)) ∷ []) → ((ts : List Ty) → Keeps t ts → exprs_of (map (expr_view ts) es) ≡ cs) → Adds t fs (core.return_ cs ∷ []) f0 f1 o0 o1
adds_back t fs cs f0 f1 o0 o1 es p h k = record { told = p; core = λ ts l. h ts ∙ ap (λ (x : core.Exprs). map (stmt_view ts) o0 ++ core.return_ x ∷ []) (k ts l) }

pub adds_one : (t : TypeTable) (c : core.Expr) (f : List Flaw) (o0 o1 : List CoreStmt) (es : List CoreExpr) → ((ts : List Ty) → map (stmt_view ts) o1 ≡ map (stmt_view ts) o0 ++ core.return_ (exprs_of (map (expr_view ts) es)) ∷ [])
    → ((ts : List Ty) → Keeps t ts → map (expr_view ts) es ≡ [] ++ c ∷ []) → Adds t [] (core.return_ (core.expr c core.no_exprs) ∷ []) f f o0 o1
adds_one t c f o0 o1 es h k = record { told = sym (append-nil (map flaw_view f)); core = λ ts l. h ts ∙ ap (λ (x : List core.Expr). map (stmt_view ts) o0 ++ core.return_ (exprs_of x) ∷ []) (k ts l) }

-- ---- the loop

-- these, before others
abbrev pub cores_before : List core.Expr → core.Exprs → core.Exprs
cores_before [] after = after
cores_before (c ∷ cs) after = core.expr c (cores_before cs after)

cores_none : (cs : List core.Expr) → cores_before cs core.no_exprs ≡ exprs_of cs
cores_none [] = refl
cores_none (c ∷ cs) = ap (core.expr c) (cores_none cs)

cores_more : (cs : List core.Expr) (c : core.Expr) (after : core.Exprs) → cores_before (cs ++ c ∷ []) after ≡ cores_before cs (core.expr c after)
cores_more [] c after = refl
cores_more (d ∷ cs) c after = ap (core.expr d) (cores_more cs c after)

pub flaws_none : (ns : List NamedTy) (us : Tys) → back_flaws ns us [] ≡ []
flaws_none ns no_tys = refl
flaws_none ns (more_tys u us) = refl

pub no_cores : (ns : List NamedTy) (us : Tys) → back_cores ns us [] ≡ core.no_exprs
no_cores ns no_tys = refl
no_cores ns (more_tys u us) = refl

-- with one more, what is told and what is left are the same
pub told_step : (ns : List NamedTy) (u : Ty) (us vs : Tys) (r : Raw) (rs qs : List Raw) (f0 f1 : List Flaw) (all : List typing.Flaw) → vs ≡ more_tys u us → qs ≡ r ∷ rs → map flaw_view f1 ≡ map flaw_view f0 ++ (at_type ns u r).flaws
    → map flaw_view f0 ++ back_flaws ns vs qs ≡ all → map flaw_view f1 ++ back_flaws ns us rs ≡ all
told_step ns u us vs r rs qs f0 f1 all p q h k =
    ap (λ (fs : List typing.Flaw). fs ++ back_flaws ns us rs) h ∙ append_assoc (map flaw_view f0) (at_type ns u r).flaws (back_flaws ns us rs)
    ∙ ap (λ (x : Tys). map flaw_view f0 ++ back_flaws ns x (r ∷ rs)) (sym p) ∙ ap (λ (x : List Raw). map flaw_view f0 ++ back_flaws ns vs x) (sym q) ∙ k

pub core_step : (ns : List NamedTy) (u : Ty) (us vs : Tys) (r : Raw) (rs qs : List Raw) (cs ds : List core.Expr) (all : core.Exprs) → vs ≡ more_tys u us → qs ≡ r ∷ rs → ds ≡ cs ++ core_of (at_type ns u r).answer ∷ []
    → cores_before cs (back_cores ns vs qs) ≡ all → cores_before ds (back_cores ns us rs) ≡ all
core_step ns u us vs r rs qs cs ds all p q h k =
    ap (λ (x : List core.Expr). cores_before x (back_cores ns us rs)) h ∙ cores_more cs (core_of (at_type ns u r).answer) (back_cores ns us rs)
    ∙ ap (λ (x : Tys). cores_before cs (back_cores ns x (r ∷ rs))) (sym p) ∙ ap (λ (x : List Raw). cores_before cs (back_cores ns vs x)) (sym q) ∙ k

-- where nothing is left
pub told_done : (now rest all : List typing.Flaw) → rest ≡ [] → now ++ rest ≡ all → now ≡ all
told_done now rest all p h = sym (append-nil now) ∙ ap (λ (x : List typing.Flaw). now ++ x) (sym p) ∙ h

pub cores_done : (cs : List core.Expr) (rest all : core.Exprs) → rest ≡ core.no_exprs → cores_before cs rest ≡ all → exprs_of cs ≡ all
cores_done cs rest all p h = sym (cores_none cs) ∙ ap (cores_before cs) (sym p) ∙ h

next_in : {X : Type 0} (xs : List X) (i : ℕ) (d : X) → i < length xs → drop i xs ≡ get_or xs i d ∷ drop (i + 1) xs
next_in {X} xs i d h =
    let one : suc i ≡ i + 1 = omega arith in
    drop-cons xs i d h ∙ ap (λ (n : ℕ). get_or xs i d ∷ drop n xs) one

past : {X : Type 0} (xs : List X) (i : ℕ) → length xs ≤ i → drop i xs ≡ []
past [] zero h = refl
past [] (suc i) h = refl
past (x ∷ xs) zero h = absurd (omega arith)
past (x ∷ xs) (suc i) h = past xs i (omega arith)

left : (ts : List Ty) (is : List TypeId) (i : ℕ) (d : TypeId) → i < length is → trees_of ts (drop i is) ≡ more_tys (tree_of ts (get_or is i d)) (trees_of ts (drop (i + 1) is))
left ts is i d h = ap (trees_of ts) (next_in is i d h)

none_left : (ts : List Ty) (is : List TypeId) (i : ℕ) → length is ≤ i → trees_of ts (drop i is) ≡ no_tys
none_left ts is i h = ap (trees_of ts) (past is i h)

pub back_told : (ns : List NamedTy) (ts : List Ty) (is : List TypeId) (i : ℕ) (d : TypeId) (r : Raw) (rs qs : List Raw) (f0 f1 : List Flaw) (all : List typing.Flaw) → i < length is → qs ≡ r ∷ rs
    → map flaw_view f1 ≡ map flaw_view f0 ++ (at_type ns (tree_of ts (get_or is i d)) r).flaws → map flaw_view f0 ++ back_flaws ns (trees_of ts (drop i is)) qs ≡ all → map flaw_view f1 ++ back_flaws ns (trees_of ts (drop (i + 1) is)) rs ≡ all
back_told ns ts is i d r rs qs f0 f1 all l q h k = told_step ns (tree_of ts (get_or is i d)) (trees_of ts (drop (i + 1) is)) (trees_of ts (drop i is)) r rs qs f0 f1 all (left ts is i d l) q h k

pub back_values : (ns : List NamedTy) (ts vs : List Ty) (is : List TypeId) (i : ℕ) (d : TypeId) (r : Raw) (rs qs : List Raw) (e0 e1 : List CoreExpr) (all : core.Exprs) → i < length is → qs ≡ r ∷ rs
    → map (expr_view vs) e1 ≡ map (expr_view vs) e0 ++ core_of (at_type ns (tree_of ts (get_or is i d)) r).answer ∷ [] → cores_before (map (expr_view vs) e0) (back_cores ns (trees_of ts (drop i is)) qs) ≡ all
    → cores_before (map (expr_view vs) e1) (back_cores ns (trees_of ts (drop (i + 1) is)) rs) ≡ all
back_values ns ts vs is i d r rs qs e0 e1 all l q h k =
    core_step ns (tree_of ts (get_or is i d)) (trees_of ts (drop (i + 1) is)) (trees_of ts (drop i is)) r rs qs (map (expr_view vs) e0) (map (expr_view vs) e1) all (left ts is i d l) q h k

pub back_told_none : (ns : List NamedTy) (us : Tys) (qs : List Raw) (f : List Flaw) (all : List typing.Flaw) → qs ≡ [] → map flaw_view f ++ back_flaws ns us qs ≡ all → map flaw_view f ≡ all
back_told_none ns us qs f all q h = told_done (map flaw_view f) (back_flaws ns us qs) all (ap (back_flaws ns us) q ∙ flaws_none ns us) h

pub back_values_none : (ns : List NamedTy) (us : Tys) (vs : List Ty) (qs : List Raw) (es : List CoreExpr) (all : core.Exprs) → qs ≡ [] → cores_before (map (expr_view vs) es) (back_cores ns us qs) ≡ all → exprs_of (map (expr_view vs) es) ≡ all
back_values_none ns us vs qs es all q h = cores_done (map (expr_view vs) es) (back_cores ns us qs) all (ap (back_cores ns us) q ∙ no_cores ns us) h

pub back_told_end : (ns : List NamedTy) (ts : List Ty) (is : List TypeId) (i : ℕ) (qs : List Raw) (f : List Flaw) (all : List typing.Flaw) → length is ≤ i → map flaw_view f ++ back_flaws ns (trees_of ts (drop i is)) qs ≡ all → map flaw_view f ≡ all
back_told_end ns ts is i qs f all l h = told_done (map flaw_view f) (back_flaws ns (trees_of ts (drop i is)) qs) all (ap (λ (us : Tys). back_flaws ns us qs) (none_left ts is i l)) h

pub back_values_end : (ns : List NamedTy) (ts vs : List Ty) (is : List TypeId) (i : ℕ) (qs : List Raw) (es : List CoreExpr) (all : core.Exprs) → length is ≤ i → cores_before (map (expr_view vs) es) (back_cores ns (trees_of ts (drop i is)) qs) ≡ all
    → exprs_of (map (expr_view vs) es) ≡ all
back_values_end ns ts vs is i qs es all l h = cores_done (map (expr_view vs) es) (back_cores ns (trees_of ts (drop i is)) qs) all (ap (λ (us : Tys). back_cores ns us qs) (none_left ts is i l)) h

pub values_begin : (vs : List Ty) (es : List CoreExpr) (all : core.Exprs) → es ≡ [] → cores_before (map (expr_view vs) es) all ≡ all
values_begin vs es all h = ap (λ (x : List CoreExpr). cores_before (map (expr_view vs) x) all) h

-- ---- the choices

chosen : (t : TypeTable) (b : Bool) (x y : Told) (f0 f1 : List Flaw) (o0 o1 : List CoreStmt) → b ≡ true → Adds t x.flaws x.core f0 f1 o0 o1 → Adds t (if b then x else y).flaws (if b then x else y).core f0 f1 o0 o1
chosen t b x y f0 f1 o0 o1 p h = adds_same t x (if b then x else y) f0 f1 o0 o1 (ap (λ (c : Bool). if c then x else y) (sym p)) h

passed_over : (t : TypeTable) (b : Bool) (x y : Told) (f0 f1 : List Flaw) (o0 o1 : List CoreStmt) → b ≡ false → Adds t y.flaws y.core f0 f1 o0 o1 → Adds t (if b then x else y).flaws (if b then x else y).core f0 f1 o0 o1
passed_over t b x y f0 f1 o0 o1 p h = adds_same t y (if b then x else y) f0 f1 o0 o1 (ap (λ (c : Bool). if c then x else y) (sym p)) h

pub each_same : (t : TypeTable) (ns : List NamedTy) (at : Place) (ts : List Ty) (is : List TypeId) (rs : List code.Raw) (f0 f1 : List Flaw) (o0 o1 : List CoreStmt) → length rs ≡ length is
    → Adds t (back_flaws ns (trees_of ts is) (raws_after ts rs [])) (core.return_ (back_cores ns (trees_of ts is) (raws_after ts rs [])) ∷ []) f0 f1 o0 o1
    → Adds t (back_each ns at (trees_of ts is) (raws_after ts rs [])).flaws (back_each ns at (trees_of ts is) (raws_after ts rs [])).core f0 f1 o0 o1
each_same t ns at ts is rs f0 f1 o0 o1 l h =
    let us = trees_of ts is in
    let qs = raws_after ts rs [] in
    chosen t (same_count qs us) (record { core = core.return_ (back_cores ns us qs) ∷ []; flaws = back_flaws ns us qs }) (unless_told at 88 qs) f0 f1 o0 o1 (same_raws ts is rs l) h

pub each_other : (t : TypeTable) (ns : List NamedTy) (at : Place) (ts : List Ty) (is : List TypeId) (rs : List code.Raw) (f0 f1 : List Flaw) (o : List CoreStmt) → length rs ≢ length is
    → Adds t (unless_told at 88 (raws_after ts rs [])).flaws [] f0 f1 o o → Adds t (back_each ns at (trees_of ts is) (raws_after ts rs [])).flaws (back_each ns at (trees_of ts is) (raws_after ts rs [])).core f0 f1 o o
each_other t ns at ts is rs f0 f1 o l h =
    let us = trees_of ts is in
    let qs = raws_after ts rs [] in
    passed_over t (same_count qs us) (record { core = core.return_ (back_cores ns us qs) ∷ []; flaws = back_flaws ns us qs }) (unless_told at 88 qs) f0 f1 o o (other_raws ts is rs l) h

pub types_same : (t : TypeTable) (us vs : Tys) (r : Raw) (b : Bool) (f0 f1 : List Flaw) (o0 o1 : List CoreStmt) → b ≡ same_types us vs → b ≡ true → Adds t [] (core.return_ (core.expr (core_of r.part.answer) core.no_exprs) ∷ []) f0 f1 o0 o1
    → Adds t (whole_told us vs r).flaws (whole_told us vs r).core f0 f1 o0 o1
types_same t us vs r b f0 f1 o0 o1 p q h = chosen t (same_types us vs) (told (core.return_ (core.expr (core_of r.part.answer) core.no_exprs) ∷ [])) (fault r.part.place 61) f0 f1 o0 o1 (sym p ∙ q) h

pub types_other : (t : TypeTable) (us vs : Tys) (r : Raw) (b : Bool) (f0 f1 : List Flaw) (o0 o1 : List CoreStmt) → b ≡ same_types us vs → b ≡ false → Adds t (flaw r.part.place 61 ∷ []) [] f0 f1 o0 o1
    → Adds t (whole_told us vs r).flaws (whole_told us vs r).core f0 f1 o0 o1
types_other t us vs r b f0 f1 o0 o1 p q h = passed_over t (same_types us vs) (told (core.return_ (core.expr (core_of r.part.answer) core.no_exprs) ∷ [])) (fault r.part.place 61) f0 f1 o0 o1 (sym p ∙ q) h

pub first_back : (t : TypeTable) (us vs : Tys) (r : Raw) (rs qs : List Raw) (f0 f1 : List Flaw) (o0 o1 : List CoreStmt) → qs ≡ r ∷ rs → Adds t (whole_told us vs r).flaws (whole_told us vs r).core f0 f1 o0 o1 → Adds t (first_told us vs qs).flaws (first_told us vs qs).core f0 f1 o0 o1
first_back t us vs r rs qs f0 f1 o0 o1 p h = adds_same t (whole_told us vs r) (first_told us vs qs) f0 f1 o0 o1 (ap (first_told us vs) (sym p)) h

pub none_back : (t : TypeTable) (us vs : Tys) (qs : List Raw) (f : List Flaw) (o : List CoreStmt) → qs ≡ [] → Adds t (first_told us vs qs).flaws (first_told us vs qs).core f f o o
none_back t us vs qs f o p = adds_same t (told []) (first_told us vs qs) f f o o (ap (first_told us vs) (sym p)) (adds_nothing t f o)

pub several_same : (t : TypeTable) (at : Place) (ts : List Ty) (is js : List TypeId) (rs : List Raw) (f0 f1 : List Flaw) (o0 o1 : List CoreStmt) → length is ≡ length js
    → Adds t (first_told (trees_of ts is) (trees_of ts js) rs).flaws (first_told (trees_of ts is) (trees_of ts js) rs).core f0 f1 o0 o1 → Adds t (back_several at (trees_of ts is) rs (trees_of ts js)).flaws (back_several at (trees_of ts is) rs (trees_of ts js)).core f0 f1 o0 o1
several_same t at ts is js rs f0 f1 o0 o1 l h = chosen t (count_types (trees_of ts is) == count_types (trees_of ts js)) (first_told (trees_of ts is) (trees_of ts js) rs) (unless_told at 88 rs) f0 f1 o0 o1 (types_equal ts is js l) h

pub several_other : (t : TypeTable) (at : Place) (ts : List Ty) (is js : List TypeId) (rs : List Raw) (f0 f1 : List Flaw) (o : List CoreStmt) → length js ≢ length is → Adds t (unless_told at 88 rs).flaws [] f0 f1 o o
    → Adds t (back_several at (trees_of ts is) rs (trees_of ts js)).flaws (back_several at (trees_of ts is) rs (trees_of ts js)).core f0 f1 o o
several_other t at ts is js rs f0 f1 o l h = passed_over t (count_types (trees_of ts is) == count_types (trees_of ts js)) (first_told (trees_of ts is) (trees_of ts js) rs) (unless_told at 88 rs) f0 f1 o o (types_unequal ts is js l) h

pub by_several : (t : TypeTable) (ns : List NamedTy) (at : Place) (us vs : Tys) (rs : List Raw) (f0 f1 : List Flaw) (o0 o1 : List CoreStmt) → Some vs ≡ several_in rs → Adds t (back_several at us rs vs).flaws (back_several at us rs vs).core f0 f1 o0 o1
    → Adds t (back ns at us rs).flaws (back ns at us rs).core f0 f1 o0 o1
by_several t ns at us vs rs f0 f1 o0 o1 p h = adds_same t (back_several at us rs vs) (back ns at us rs) f0 f1 o0 o1 (ap (back_by ns at us rs) p) h

pub by_each : (t : TypeTable) (ns : List NamedTy) (at : Place) (us : Tys) (rs : List Raw) (f0 f1 : List Flaw) (o0 o1 : List CoreStmt) → None ≡ several_in rs → Adds t (back_each ns at us rs).flaws (back_each ns at us rs).core f0 f1 o0 o1
    → Adds t (back ns at us rs).flaws (back ns at us rs).core f0 f1 o0 o1
by_each t ns at us rs f0 f1 o0 o1 p h = adds_same t (back_each ns at us rs) (back ns at us rs) f0 f1 o0 o1 (ap (back_by ns at us rs) p) h
