-- The definitions of variables, by what was typed of their specifications.
use Rattle.std.proofs.Common.{arith, rules, ◌≡◌, ◌<◌, ◌≤◌, ◌+◌, ◌∙◌, ℕ, refl, sym, ap, subst, List, [], ◌∷◌, ◌++◌, append_assoc, map, length, drop, get_or, Bool, ◌&&◌}
use Rattle.std.specs.Prelude.{Option, Some, None, option_map, if◌then◌else◌}
use Rattle.gj_base.specs.declared.place.Place.{Place}
use Rattle.go_syntax.specs.Tree as t
use Rattle.go_syntax.specs.View.{expr_view, exprs_of, maybe_expr, value_spec_view, joined}
use Rattle.go_syntax.specs.declared.tree.Expr.{Expr}
use Rattle.go_syntax.specs.declared.tree.Name.{Name}
use Rattle.go_syntax.specs.declared.tree.ValueSpec.{ValueSpec, out-ValueSpec, fold_out-ValueSpec}
use Rattle.go_type.specs.Tree.{Ty, Tys, no_tys, more_tys}
use Rattle.go_type.specs.Table.{places, size, KeepsTrees}
use Rattle.go_type.specs.declared.types.TypeId.{TypeId}
use Rattle.go_type.specs.declared.table.TypeTable.{TypeTable}
use Rattle.go_core.specs.CoreTree as core
use Rattle.go_core.specs.CoreView.{stmt_view}
use Rattle.go_core.specs.declared.statement.CoreStmt.{CoreStmt}
use Rattle.go_typing.specs.Answer as typing
use Rattle.go_typing.specs.Scopes as scopes
use Rattle.go_typing.specs.Scopes.{visible}
use Rattle.go_typing.specs.Typing.{place_of}
use Rattle.go_operands.specs.EnvView.{table_of, env_of}
use Rattle.go_operands.specs.declared.scopes.env.Env.{Env}
use Rattle.go_calls.specs.Words.{types_of, names_of, scopes_of}
use Rattle.go_operands.specs.AnswerView.{flaw_view}
use Rattle.go_operands.specs.declared.answers.answer.Flaw.{Flaw}
use Rattle.go_typing.specs.Walk as go
use Rattle.go_typing.specs.Walk.{Did, did, also, is_there, redeclared, uses_all}
use Rattle.go_typing.specs.Expressions.{Valued, answer_in, core_of, several_types}
use Rattle.go_typing.specs.Assign.{Defined, all_typed, all_in_flaws}
use Rattle.go_typing.specs.Declare as declare
use Rattle.go_typing.specs.Declare.{SpecType, no_type, of_type, lost_type, spec_type, spec_type_flaws, type_uses, spec_value, spec_var_type, spec_or, declare_one, declare_stmts, declare_target, var_zero, var_each, var_types, var_values, var_spec, var_specs, names_count, names_number, spec_place, count_told}
use Rattle.go_walk.specs.WalkView.{walk_of, depth, Keeps}
use Rattle.go_walk.specs.declared.walk.walk.Walk.{Walk}
use Rattle.go_expr.specs.Raw.{Raw, raw_of, raws_of}
use Rattle.go_assign.specs.Settled.{all_known, all_told}
use Rattle.go_assign.specs.Outcome.{Does}
use Rattle.go_assign.specs.Passed.{Passes}
use Rattle.go_assign.specs.Moves.{Moves, Stays}
use Rattle.go_assign.specs.declared.constants.types.SpecType as kinds
use Rattle.go_assign.specs.SpecView.{spec_view, SpecBelow}
use Rattle.go_assign.specs.declared.constants.types.SpecType.TheVariants as kind
use Rattle.go_body.specs.LocalVarsSpecs.{raw_value, with_value, unfit, var_raws, stored, same_count, var_miscounted, var_takes, var_several, var_all, var_by, var_given}
use Rattle.go_body.specs.LocalVarsLeft.{DoesLeft}
use Rattle.go_body.proofs.LeftLemmas.{keeps_back, next_at, past, left_step, left_as, left_end}

-- ---- one by one

value_of : (w : go.Walk) (s : SpecType) (y : t.Expr) → spec_value w s y ≡ raw_value w.names s (raw_of w.names w.scopes y)
value_of w no_type y = refl
value_of w (of_type u) y = refl
value_of w lost_type y = refl

abbrev put : Name → Option Ty → List typing.Flaw → core.Expr → go.Walk → Defined → Defined
put n u fs c w d = record {
  before = declare_stmts (is_there n w) w u ++ d.before;
  targets = declare_target (is_there n w) w u ∷ d.targets;
  values = core.expr c d.values;
  flaws = redeclared n (is_there n w) ++ fs ++ d.flaws;
  walk = d.walk;
}

each_var : (w : go.Walk) (s : SpecType) (ns : List Name) (ys : List t.Expr) (u : go.Walk) → var_each w s ns (exprs_of ys) u ≡ var_raws w.names s ns (raws_of w.names w.scopes ys) u
each_var w s [] ys u = refl
each_var w s (n ∷ ns) [] u = refl
each_var w s (n ∷ ns) (y ∷ ys) u =
    let v = raw_value w.names s (raw_of w.names w.scopes y) in
    ap (λ (x : Valued). with_value s n x (var_each w s ns (exprs_of ys)) u) (value_of w s y)
    ∙ ap (put n (spec_var_type s v.answer) v.flaws (core_of v.answer) u) (each_var w s ns ys (declare_one n (is_there n u) (spec_var_type s v.answer) u))

abbrev take : Name → Option Ty → List typing.Flaw → go.Walk → Defined → Defined
take n u fs w d = record {
  before = declare_stmts (is_there n w) w u ++ d.before;
  targets = declare_target (is_there n w) w u ∷ d.targets;
  values = d.values;
  flaws = redeclared n (is_there n w) ++ fs ++ d.flaws;
  walk = d.walk;
}

taken : (s : SpecType) (y : t.Expr) (ns : List Name) (vs : Tys) (u : go.Walk) → var_types s y ns vs u ≡ var_takes (place_of y) s ns vs u
taken s y [] vs u = refl
taken s y (n ∷ ns) no_tys u = refl
taken s y (n ∷ ns) (more_tys v vs) u = ap (take n (spec_or s v) (unfit (place_of y) s v) u) (taken s y ns vs (declare_one n (is_there n u) (spec_or s v) u))

as_many : (w : go.Walk) (ns : List Name) (ys : List t.Expr) → names_count ns (exprs_of ys) ≡ same_count ns (raws_of w.names w.scopes ys)
as_many w [] [] = refl
as_many w [] (y ∷ ys) = refl
as_many w (n ∷ ns) [] = refl
as_many w (n ∷ ns) (y ∷ ys) = as_many w ns ys

typed_all : (w : go.Walk) (ys : List t.Expr) → all_typed w (exprs_of ys) ≡ all_known (raws_of w.names w.scopes ys)
typed_all w [] = refl
typed_all w (y ∷ ys) = ap (λ (b : Bool). typing.is_known (answer_in w y) && b) (typed_all w ys)

told_all : (w : go.Walk) (ys : List t.Expr) → all_in_flaws w (exprs_of ys) ≡ all_told (raws_of w.names w.scopes ys)
told_all w [] = refl
told_all w (y ∷ ys) = ap (λ (fs : List typing.Flaw). (raw_of w.names w.scopes y).flaws ++ fs) (told_all w ys)

-- ---- the choices

miscounts : (at : Place) (w : go.Walk) (s : SpecType) (ns : List Name) (ys : List t.Expr) (u : go.Walk) → declare.var_miscounted at w s ns (exprs_of ys) u ≡ var_miscounted at s ns (raws_of w.names w.scopes ys) u
miscounts at w s ns ys u = λ j. also (count_told s (spec_place ns at) (typed_all w ys j) (told_all w ys j)) (record (var_zero lost_type ns u) { core = [] })

abbrev by_count : Bool → Defined → Did → Did
by_count b d e = if b then stored d d.values else e

without_call : (at : Place) (w : go.Walk) (s : SpecType) (ns : List Name) (ys : List t.Expr) (u : go.Walk) → declare.var_by at w s ns (exprs_of ys) None u ≡ var_all w.names at s ns (raws_of w.names w.scopes ys) u
without_call at w s ns ys u = λ j. by_count (as_many w ns ys j) (each_var w s ns ys u j) (miscounts at w s ns ys u j)

abbrev by_number : Bool → Defined → core.Expr → Did → Did
by_number b d c e = if b then stored d (core.expr c core.no_exprs) else e

with_call : (at : Place) (w : go.Walk) (s : SpecType) (ns : List Name) (y : t.Expr) (vs : Tys) (u : go.Walk) → declare.var_call at w s ns y vs u ≡ var_several at s ns (raw_of w.names w.scopes y ∷ []) vs u
with_call at w s ns y vs u = λ j. by_number (names_number ns vs) (taken s y ns vs u j) (core_of (answer_in w y)) (miscounts at w s ns (y ∷ []) u j)

with_one : (at : Place) (w : go.Walk) (s : SpecType) (ns : List Name) (y : t.Expr) (o : Option Tys) (u : go.Walk) → declare.var_by at w s ns (t.MoreExprs y t.NoExprs) o u ≡ var_by w.names at s ns (raw_of w.names w.scopes y ∷ []) o u
with_one at w s ns y None u = without_call at w s ns (y ∷ []) u
with_one at w s ns y (Some vs) u = with_call at w s ns y vs u

given_is : (at : Place) (w : go.Walk) (s : SpecType) (ns : List Name) (ys : List t.Expr) (u : go.Walk) → var_values at w s ns (exprs_of ys) u ≡ var_given w.names at s ns (raws_of w.names w.scopes ys) u
given_is at w s ns [] u = refl
given_is at w s ns (y ∷ []) u = with_one at w s ns y (several_types (answer_in w y)) u
given_is at w s ns (y ∷ z ∷ ys) u = without_call at w s ns (y ∷ z ∷ ys) u

-- ---- a specification

spec_still : (a b : TypeTable) (s : kinds.SpecType) → KeepsTrees a b → SpecBelow (size a) s → spec_view (places b) s ≡ spec_view (places a) s
spec_still a b kind.Missing k h = refl
spec_still a b (kind.Of i) k h = ap of_type (k i h)
spec_still a b kind.Lost k h = refl

abbrev given_at : Env → Place → kinds.SpecType → List Name → List Raw → go.Walk → Did
given_at e at s names rs = var_given (names_of e) at (spec_view (types_of e) s) names rs

spec_at : (at : Place) (names : List Name) (ty : t.MaybeExpr) (ys : List t.Expr) (s : kinds.SpecType) (rs : List Raw) (a b c d e : Walk) (f0 f1 f2 : List Flaw) (o0 o1 : List CoreStmt) → ((us : List Ty) → spec_view (types_of b.env) s ≡ spec_type (walk_of us a) ty)
    → SpecBelow (size (table_of b.env)) s → ((us : List Ty) → map flaw_view f1 ≡ map flaw_view f0 ++ spec_type_flaws (walk_of us a) ty) → Stays a b → Moves (type_uses ty) b c → c.env ≡ b.env → rs ≡ raws_of (names_of c.env) (scopes_of c.env) ys
    → Passes (uses_all (exprs_of ys)) c d → Does (given_at d.env at s names rs) d e f1 f2 o0 o1 → Does (var_spec at names ty (exprs_of ys)) a e f0 f2 o0 o1
spec_at at names ty ys s rs a b c d e f0 f1 f2 o0 o1 view below told stays moves same raws passes k = record {
  told = λ ts l.
      k.told ts l ∙ ap (λ (fs : List typing.Flaw). fs ++ (given_at d.env at s names rs (walk_of ts d)).flaws) (told ts) ∙ append_assoc (map flaw_view f0) (spec_type_flaws (walk_of ts a) ty) (given_at d.env at s names rs (walk_of ts d)).flaws
      ∙ ap (λ (x : Did). map flaw_view f0 ++ (spec_type_flaws (walk_of ts a) ty ++ x.flaws)) (is ts l);
  core = λ ts l. k.core ts l ∙ ap (λ (x : Did). map (stmt_view ts) o0 ++ x.core) (is ts l);
  walk = λ ts l. k.walk ts l ∙ ap (λ (x : Did). x.walk) (is ts l);
  depth = k.depth ∙ ap (λ (x : scopes.Env). length x.blocks) passes.env ∙ moves.depth ∙ ap (λ (x : scopes.Env). length x.blocks) stays.grows.env;
  kept = λ i l. k.kept i (in_d i (in_c i (in_b i l))) ∙ passes.kept i (in_c i (in_b i l)) ∙ moves.kept i (in_b i l) ∙ stays.grows.kept i l;
  counts = let p = k.counts in let q = passes.counts in let r = moves.counts in let m = stays.grows.counts in omega (arith, p, q, r, m);
}
  where
    in_b : (i : TypeId) → i.0 < size (table_of a.env) → i.0 < size (table_of b.env)
    in_b i l = let m = stays.grows.counts in omega (arith, m, l)

    in_c : (i : TypeId) → i.0 < size (table_of b.env) → i.0 < size (table_of c.env)
    in_c i l = let m = moves.counts in omega (arith, m, l)

    in_d : (i : TypeId) → i.0 < size (table_of c.env) → i.0 < size (table_of d.env)
    in_d i l = let m = passes.counts in omega (arith, m, l)

    env : env_of d.env ≡ env_of a.env
    env = passes.env ∙ ap env_of same ∙ stays.grows.env

    spec : (us : List Ty) → spec_view (types_of d.env) s ≡ spec_type (walk_of us a) ty
    spec us = spec_still (table_of b.env) (table_of d.env) s (λ i l. passes.kept i (in_c i l) ∙ moves.kept i l) below ∙ view us

    values : rs ≡ raws_of (names_of a.env) (scopes_of a.env) ys
    values = raws ∙ ap (λ (x : scopes.Env). raws_of x.named_types (visible x) ys) (ap env_of same ∙ stays.grows.env)

    to_d : (ts : List Ty) → Keeps (table_of e.env) ts → Keeps (table_of d.env) ts
    to_d ts l = keeps_back (table_of d.env) (table_of e.env) k.kept k.counts ts l

    to_c : (ts : List Ty) → Keeps (table_of e.env) ts → Keeps (table_of c.env) ts
    to_c ts l = keeps_back (table_of c.env) (table_of d.env) passes.kept passes.counts ts (to_d ts l)

    walk : (ts : List Ty) → Keeps (table_of e.env) ts → walk_of ts d ≡ uses_all (exprs_of ys) (type_uses ty (walk_of ts a))
    walk ts l = passes.walk ts ∙ ap (uses_all (exprs_of ys)) (moves.walk ts (to_c ts l)) ∙ ap (λ (w : go.Walk). uses_all (exprs_of ys) (type_uses ty w)) (stays.walk ts)

    is : (ts : List Ty) → Keeps (table_of e.env) ts → given_at d.env at s names rs (walk_of ts d) ≡ var_values at (walk_of ts a) (spec_type (walk_of ts a) ty) names (exprs_of ys) (uses_all (exprs_of ys) (type_uses ty (walk_of ts a)))
    is ts l =
        let w = walk_of ts a in
        let u = uses_all (exprs_of ys) (type_uses ty w) in
        let p : given_at d.env at s names rs (walk_of ts d) ≡ var_given (names_of a.env) at (spec_type w ty) names (raws_of (names_of a.env) (scopes_of a.env) ys) u = λ j. var_given (env j).named_types at (spec ts j) names (values j) (walk ts l j) in
        p ∙ sym (given_is at w (spec_type w ty) names ys u)

-- after the type and its uses, where the values are used and typed
pub spec_does : (at : Place) (names : List Name) (o : Option Expr) (xs : List Expr) (s : kinds.SpecType) (rs : List Raw) (a b c d e : Walk) (f0 f1 f2 : List Flaw) (o0 o1 : List CoreStmt)
    → ((us : List Ty) → spec_view (types_of b.env) s ≡ spec_type (walk_of us a) (maybe_expr (option_map expr_view o))) → SpecBelow (size (table_of b.env)) s
    → ((us : List Ty) → map flaw_view f1 ≡ map flaw_view f0 ++ spec_type_flaws (walk_of us a) (maybe_expr (option_map expr_view o))) → Stays a b → Moves (type_uses (maybe_expr (option_map expr_view o))) b c → c.env ≡ b.env
    → rs ≡ raws_of (names_of c.env) (scopes_of c.env) (map expr_view xs) → Passes (uses_all (exprs_of (map expr_view xs))) c d → Does (var_given (names_of d.env) at (spec_view (types_of d.env) s) names rs) d e f1 f2 o0 o1
    → Does (var_spec at names (maybe_expr (option_map expr_view o)) (exprs_of (map expr_view xs))) a e f0 f2 o0 o1
spec_does at names o xs s rs a b c d e f0 f1 f2 o0 o1 view below told stays moves same raws passes k =
    spec_at at names (maybe_expr (option_map expr_view o)) (map expr_view xs) s rs a b c d e f0 f1 f2 o0 o1 view below told stays moves same raws passes k

abbrev DoesSpec : Place → Option Expr → Walk → Walk → List Flaw → List Flaw → List CoreStmt → List CoreStmt → List Name → List Expr → Type 0
DoesSpec at o a e f0 f2 o0 o1 ms zs = Does (var_spec at ms (maybe_expr (option_map expr_view o)) (exprs_of (map expr_view zs))) a e f0 f2 o0 o1

-- the same, of its names and values as slices
pub spec_given : (at : Place) (ms names : List Name) (o : Option Expr) (zs xs : List Expr) (s : kinds.SpecType) (rs : List Raw) (a b c d e : Walk) (f0 f1 f2 : List Flaw) (o0 o1 : List CoreStmt) → ms ≡ names → zs ≡ xs
    → ((us : List Ty) → spec_view (types_of b.env) s ≡ spec_type (walk_of us a) (maybe_expr (option_map expr_view o))) → SpecBelow (size (table_of b.env)) s
    → ((us : List Ty) → map flaw_view f1 ≡ map flaw_view f0 ++ spec_type_flaws (walk_of us a) (maybe_expr (option_map expr_view o))) → Stays a b → Moves (type_uses (maybe_expr (option_map expr_view o))) b c → c.env ≡ b.env
    → rs ≡ raws_of (names_of c.env) (scopes_of c.env) (map expr_view zs) → Passes (uses_all (exprs_of (map expr_view zs))) c d → Does (var_given (names_of d.env) at (spec_view (types_of d.env) s) ms rs) d e f1 f2 o0 o1
    → Does (var_spec at names (maybe_expr (option_map expr_view o)) (exprs_of (map expr_view xs))) a e f0 f2 o0 o1
spec_given at ms names o zs xs s rs a b c d e f0 f1 f2 o0 o1 p q view below told stays moves same raws passes k =
    subst (λ (ns : List Name). DoesSpec at o a e f0 f2 o0 o1 ns xs) p
    (subst (DoesSpec at o a e f0 f2 o0 o1 ms) q (spec_does at ms o zs s rs a b c d e f0 f1 f2 o0 o1 view below told stays moves same raws passes k))

-- ---- the walk before its values

pub depth_after : (f g : go.Walk → go.Walk) (a b c d : Walk) → Stays a b → Moves f b c → Passes g c d → 0 < depth a → 0 < depth d
depth_after f g a b c d s m p h =
    let x : depth d ≡ depth c = ap (λ (v : scopes.Env). length v.blocks) p.env in
    let y = m.depth in
    let z : depth b ≡ depth a = ap (λ (v : scopes.Env). length v.blocks) s.grows.env in
    omega (arith, x, y, z, h)

below_more : (s : kinds.SpecType) (m n : ℕ) → m ≤ n → SpecBelow m s → SpecBelow n s
below_more kind.Missing m n l h = tt
below_more (kind.Of i) m n l h = omega (arith, l, h)
below_more kind.Lost m n l h = tt

pub spec_after : (f g : go.Walk → go.Walk) (b c d : Walk) (s : kinds.SpecType) → Moves f b c → Passes g c d → SpecBelow (size (table_of b.env)) s → SpecBelow (size (table_of d.env)) s
spec_after f g b c d s m p h = below_more s (size (table_of b.env)) (size (table_of d.env)) (let x = m.counts in let y = p.counts in omega (arith, x, y)) h

-- ---- specification by specification

abbrev rest_of : List ValueSpec → t.ValueSpecs
rest_of vs = joined (map value_spec_view vs) t.NoValues

abbrev one_of : Place → ValueSpec → go.Walk → Did
one_of at v = var_spec at (out-ValueSpec v).names.items (maybe_expr (option_map expr_view (out-ValueSpec v).ty)) (exprs_of (map expr_view (out-ValueSpec v).values.items))

whole : (v : ValueSpec) (rest : t.ValueSpecs) → value_spec_view v rest ≡ t.MoreValues (out-ValueSpec v).names.items (maybe_expr (option_map expr_view (out-ValueSpec v).ty)) (exprs_of (map expr_view (out-ValueSpec v).values.items)) rest
whole v rest = search (rules, fold_out-ValueSpec)

pub specs_step : (at : Place) (vs : List ValueSpec) (i : ℕ) (v : ValueSpec) (a b c : Walk) (f0 f1 f2 : List Flaw) (o0 o1 o2 : List CoreStmt) → i < length vs → v ≡ get_or vs i v
    → DoesLeft (var_specs at (joined (map value_spec_view vs) t.NoValues)) (var_specs at (joined (map value_spec_view (drop i vs)) t.NoValues)) a b f0 f1 o0 o1
    → Does (var_spec at (out-ValueSpec v).names.items (maybe_expr (option_map expr_view (out-ValueSpec v).ty)) (exprs_of (map expr_view (out-ValueSpec v).values.items))) b c f1 f2 o1 o2
    → DoesLeft (var_specs at (joined (map value_spec_view vs) t.NoValues)) (var_specs at (joined (map value_spec_view (drop (i + 1) vs)) t.NoValues)) a c f0 f2 o0 o2
specs_step at vs i v a b c f0 f1 f2 o0 o1 o2 l q h k =
    let all = var_specs at (rest_of vs) in
    let rest = rest_of (drop (i + 1) vs) in
    let split : rest_of (drop i vs) ≡ t.MoreValues (out-ValueSpec v).names.items (maybe_expr (option_map expr_view (out-ValueSpec v).ty)) (exprs_of (map expr_view (out-ValueSpec v).values.items)) rest = ap rest_of (next_at vs i v l q) ∙ whole v rest in
    left_step all (one_of at v) (var_specs at rest) a b c f0 f1 f2 o0 o1 o2
    (left_as all (var_specs at (rest_of (drop i vs))) (var_specs at (t.MoreValues (out-ValueSpec v).names.items (maybe_expr (option_map expr_view (out-ValueSpec v).ty)) (exprs_of (map expr_view (out-ValueSpec v).values.items)) rest)) a b f0 f1 o0 o1 (ap (var_specs at) split) h) k

pub specs_end : (at : Place) (vs : List ValueSpec) (i : ℕ) (a b : Walk) (f0 f1 : List Flaw) (o0 o1 : List CoreStmt) → length vs ≤ i → DoesLeft (var_specs at (joined (map value_spec_view vs) t.NoValues)) (var_specs at (joined (map value_spec_view (drop i vs)) t.NoValues)) a b f0 f1 o0 o1
    → Does (var_specs at (joined (map value_spec_view vs) t.NoValues)) a b f0 f1 o0 o1
specs_end at vs i a b f0 f1 o0 o1 l h =
    left_end (var_specs at (rest_of vs)) a b f0 f1 o0 o1 (left_as (var_specs at (rest_of vs)) (var_specs at (rest_of (drop i vs))) (did []) a b f0 f1 o0 o1 (ap (λ (xs : List ValueSpec). var_specs at (rest_of xs)) (past vs i l)) h)
