-- A specification of constants, by what was typed of it where `iota` is its number.
use Rattle.std.proofs.Common.{arith, rules, ◌≡◌, ◌<◌, ◌≤◌, ◌+◌, ◌∙◌, ℕ, suc, refl, sym, ap, subst, List, [], ◌∷◌, ◌++◌, append_assoc, map, length, drop, get_or, Bool, ◌&&◌}
use Rattle.std.specs.Prelude.{Option, Some, None, option_map, if◌then◌else◌, Vec}
use Rattle.std.specs.declared.alloc.Global.{Global}
use Rattle.gj_base.specs.declared.place.Place.{Place}
use Rattle.go_syntax.specs.Tree as t
use Rattle.go_syntax.specs.View.{expr_view, exprs_of, maybe_expr, value_spec_view, joined}
use Rattle.go_syntax.specs.declared.tree.Expr.{Expr}
use Rattle.go_syntax.specs.declared.tree.Name.{Name}
use Rattle.go_syntax.specs.declared.tree.ValueSpec.{ValueSpec, out-ValueSpec, fold_out-ValueSpec}
use Rattle.go_type.specs.Tree.{Ty}
use Rattle.go_type.specs.Levels.{tree_of}
use Rattle.go_type.specs.Table.{places, size, KeepsTrees}
use Rattle.go_type.specs.declared.types.TypeId.{TypeId}
use Rattle.go_type.specs.declared.table.TypeTable.{TypeTable}
use Rattle.go_core.specs.CoreTree as core
use Rattle.go_core.specs.CoreView.{stmt_view, var_of}
use Rattle.go_core.specs.declared.node.Var.{Var}
use Rattle.go_core.specs.declared.statement.CoreStmt.{CoreStmt}
use Rattle.go_typing.specs.Answer as typing
use Rattle.go_typing.specs.Scopes as scopes
use Rattle.go_typing.specs.Scopes.{visible}
use Rattle.go_operands.specs.EnvView.{table_of, env_of}
use Rattle.go_operands.specs.declared.scopes.env.Env.{Env}
use Rattle.go_calls.specs.Words.{types_of, names_of, scopes_of}
use Rattle.go_operands.specs.AnswerView.{flaw_view}
use Rattle.go_operands.specs.declared.answers.answer.Flaw.{Flaw}
use Rattle.go_typing.specs.Walk as go
use Rattle.go_typing.specs.Walk.{Did, did, and_then, after, also, uses_all}
use Rattle.go_typing.specs.Expressions.{Valued, answer_in}
use Rattle.go_typing.specs.Assign.{all_typed, all_in_flaws}
use Rattle.go_typing.specs.Declare.{SpecType, no_type, of_type, lost_type, counting, spec_type, spec_type_flaws, type_uses, constant_value, const_each, const_unknown, const_spec, const_specs, names_count, spec_place, count_told}
use Rattle.go_walk.specs.WalkView.{walk_of, depth, Keeps}
use Rattle.go_walk.specs.declared.walk.walk.Walk.{Walk}
use Rattle.go_expr.specs.Raw.{Raw, raw_of, raws_of}
use Rattle.go_assign.specs.Settled.{all_known, all_told}
use Rattle.go_assign.specs.Outcome.{Does}
use Rattle.go_assign.specs.Moves.{Moves, Stays}
use Rattle.go_assign.specs.declared.constants.types.SpecType as kinds
use Rattle.go_assign.specs.declared.constants.types.SpecType.TheVariants as kind
use Rattle.go_assign.specs.SpecView.{spec_view, SpecBelow, constant_raw}
use Rattle.go_body.specs.LocalVarsSpecs.{same_count}
use Rattle.go_body.specs.LocalVarsLeft.{DoesLeft}
use Rattle.go_body.proofs.LeftLemmas.{keeps_back, next_at, past, left_step, left_as, left_end}
use Rattle.go_body.specs.LocalConstsSpecs.{one_constant, const_raws, const_given}

-- ---- the definitions

value_of : (w : go.Walk) (s : SpecType) (y : t.Expr) → constant_value w s y ≡ constant_raw w.names s (raw_of w.names w.scopes y)
value_of w no_type y = refl
value_of w (of_type u) y = refl
value_of w lost_type y = refl

each_of : (w : go.Walk) (s : SpecType) (ns : List Name) (ys : List t.Expr) (u : go.Walk) → const_each w s ns (exprs_of ys) u ≡ const_raws w.names s ns (raws_of w.names w.scopes ys) u
each_of w s [] ys u = refl
each_of w s (n ∷ ns) [] u = refl
each_of w s (n ∷ ns) (y ∷ ys) u =
    let d = one_constant n (constant_raw w.names s (raw_of w.names w.scopes y)) u in
    ap (λ (v : Valued). and_then (one_constant n v u) (const_each w s ns (exprs_of ys))) (value_of w s y) ∙ ap (after d) (each_of w s ns ys d.walk)

as_many : (w : go.Walk) (ns : List Name) (ys : List t.Expr) → names_count ns (exprs_of ys) ≡ same_count ns (raws_of w.names w.scopes ys)
as_many w [] [] = refl
as_many w [] (y ∷ ys) = refl
as_many w (n ∷ ns) [] = refl
as_many w (n ∷ ns) (y ∷ ys) = as_many w ns ys

typed_all : (w : go.Walk) (ys : List t.Expr) → all_typed w (exprs_of ys) ≡ all_known (raws_of w.names w.scopes ys)
typed_all w [] = refl
typed_all w (y ∷ ys) = ap (λ (b : Bool). typing.is_known (answer_in w y) && b) (typed_all w ys)

told_all : (w : go.Walk) (ys : List t.Expr) → all_in_flaws w (exprs_of ys) ≡ all_told (raws_of w.names w.scopes ys)
told_all w [] = refl
told_all w (y ∷ ys) = ap (λ (fs : List typing.Flaw). (raw_of w.names w.scopes y).flaws ++ fs) (told_all w ys)

abbrev miscount : Place → SpecType → List Name → Bool → List typing.Flaw → go.Walk → Did
miscount at s ns b fs u = also (count_told s (spec_place ns at) b fs) (const_unknown ns u)

abbrev by_count : Bool → Did → Did → Did
by_count b d e = if b then d else e

given_is : (at : Place) (w : go.Walk) (s : SpecType) (ns : List Name) (ys : List t.Expr) (u : go.Walk)
    → by_count (names_count ns (exprs_of ys)) (const_each w s ns (exprs_of ys) u) (miscount at s ns (all_typed w (exprs_of ys)) (all_in_flaws w (exprs_of ys)) u) ≡ const_given w.names at s ns (raws_of w.names w.scopes ys) u
given_is at w s ns ys u = λ j. by_count (as_many w ns ys j) (each_of w s ns ys u j) (miscount at s ns (typed_all w ys j) (told_all w ys j) u)

-- ---- the walk while `iota` is a number, and after it

spec_still : (a b : TypeTable) (s : kinds.SpecType) → KeepsTrees a b → SpecBelow (size a) s → spec_view (places b) s ≡ spec_view (places a) s
spec_still a b kind.Missing k h = refl
spec_still a b (kind.Of i) k h = ap of_type (k i h)
spec_still a b kind.Lost k h = refl

abbrev with_iota : scopes.Env → Option ℕ → scopes.Env
with_iota e i = record e { iota = i }

-- the environment is as it was
counted_back : (n : ℕ) (a b d e : scopes.Env) → a.iota ≡ None → b ≡ scopes.counting (Some n) a → d ≡ b → e ≡ scopes.counting None d → e ≡ a
counted_back n a b d e p q r s = s ∙ ap (scopes.counting None) (r ∙ q) ∙ ap (with_iota a) (sym p)

abbrev made : scopes.Env → ℕ → ℕ → List core.Var → List Name → List Place → ℕ → go.Walk
made e n l vs ds us k = record { names = e.named_types; scopes = visible e; next = n; next_label = l; vars = vs; declared = ds; used = us; lost = k }

walk_back : (ts : List Ty) (n : ℕ) (a d e : Walk) → walk_of ts d ≡ counting n (walk_of ts a) → env_of e.env ≡ env_of a.env → (e.vars ≡ d.vars) × (e.declared ≡ d.declared) × (e.used ≡ d.used) → e.lost ≡ d.lost → (e.next ≡ d.next) × (e.next_label ≡ d.next_label) → walk_of ts e ≡ walk_of ts a
walk_back ts n a d e p q k g m =
    let vs : map (var_of ts) e.vars.items ≡ map (var_of ts) a.vars.items = ap (λ (x : Vec Var Global). map (var_of ts) x.items) k.0 ∙ ap (λ (w : go.Walk). w.vars) p in
    let ds : e.declared.items ≡ a.declared.items = ap (λ (x : Vec Name Global). x.items) k.1 ∙ ap (λ (w : go.Walk). w.declared) p in
    let us : e.used.items ≡ a.used.items = ap (λ (x : Vec Place Global). x.items) k.2 ∙ ap (λ (w : go.Walk). w.used) p in
    let nx : e.next ≡ a.next = m.0 ∙ ap (λ (w : go.Walk). w.next) p in
    let nl : e.next_label ≡ a.next_label = m.1 ∙ ap (λ (w : go.Walk). w.next_label) p in
    let lo : e.lost ≡ a.lost = g ∙ ap (λ (w : go.Walk). w.lost) p in
    λ j. made (q j) (nx j) (nl j) (vs j) (ds j) (us j) (lo j)

abbrev tree_at : TypeId → TypeTable → Ty
tree_at i x = tree_of (places x) i

abbrev given_at : Env → Place → kinds.SpecType → List Name → List Raw → go.Walk → Did
given_at e at s names rs = const_given (names_of e) at (spec_view (types_of e) s) names rs

pub spec_does : (at : Place) (n : ℕ) (names : List Name) (ty : t.MaybeExpr) (ys : List t.Expr) (s : kinds.SpecType) (rs : List Raw) (a b c d e f g h : Walk) (f0 f1 f2 : List Flaw) (out : List CoreStmt) → (env_of a.env).iota ≡ None
    → ((ts : List Ty) → walk_of ts b ≡ counting n (walk_of ts a)) → env_of b.env ≡ scopes.counting (Some n) (env_of a.env) → table_of b.env ≡ table_of a.env
    → ((us : List Ty) → spec_view (types_of c.env) s ≡ spec_type (walk_of us b) ty) → SpecBelow (size (table_of c.env)) s → ((us : List Ty) → map flaw_view f1 ≡ map flaw_view f0 ++ spec_type_flaws (walk_of us b) ty) → Stays b c
    → rs ≡ raws_of (names_of c.env) (scopes_of c.env) ys → Stays c d
    → env_of e.env ≡ scopes.counting None (env_of d.env) → table_of e.env ≡ table_of d.env → (e.vars ≡ d.vars) × (e.declared ≡ d.declared) × (e.used ≡ d.used) → e.lost ≡ d.lost → (e.next ≡ d.next) × (e.next_label ≡ d.next_label)
    → Moves (type_uses ty) e f → f.env ≡ e.env → Moves (uses_all (exprs_of ys)) f g → g.env ≡ f.env
    → Does (const_given (names_of g.env) at (spec_view (types_of g.env) s) names rs) g h f1 f2 out out
    → Does (λ w. const_spec at (counting n w) names ty (exprs_of ys) w) a h f0 f2 out out
spec_does at n names ty ys s rs a b c d e f g h f0 f1 f2 out none bw be bt view below told sc raws sd ee et kept lost numbers mf fe mg ge k = record {
  told = λ ts l.
      k.told ts l ∙ ap (λ (fs : List typing.Flaw). fs ++ (given_at g.env at s names rs (walk_of ts g)).flaws) (told ts ∙ ap (λ (w : go.Walk). map flaw_view f0 ++ spec_type_flaws w ty) (bw ts))
      ∙ append_assoc (map flaw_view f0) (spec_type_flaws (counting n (walk_of ts a)) ty) (given_at g.env at s names rs (walk_of ts g)).flaws
      ∙ ap (λ (x : Did). map flaw_view f0 ++ (spec_type_flaws (counting n (walk_of ts a)) ty ++ x.flaws)) (is ts l);
  core = λ ts l. k.core ts l ∙ ap (λ (x : Did). map (stmt_view ts) out ++ x.core) (is ts l);
  walk = λ ts l. k.walk ts l ∙ ap (λ (x : Did). x.walk) (is ts l);
  depth = k.depth ∙ ap (λ (x : scopes.Env). length x.blocks) env;
  kept = λ i l. k.kept i (in_g i (in_c i l)) ∙ to_g i (in_c i l) ∙ sc.grows.kept i (in_b i l) ∙ ap (tree_at i) bt;
  counts = let p = k.counts in let q = sizes in let r = sc.grows.counts in let m : size (table_of b.env) ≡ size (table_of a.env) = ap size bt in omega (arith, p, q, r, m);
}
  where
    env_e : env_of e.env ≡ env_of a.env
    env_e = counted_back n (env_of a.env) (env_of b.env) (env_of d.env) (env_of e.env) none be (sd.grows.env ∙ sc.grows.env) ee

    env : env_of g.env ≡ env_of a.env
    env = ap env_of (ge ∙ fe) ∙ env_e

    in_b : (i : TypeId) → i.0 < size (table_of a.env) → i.0 < size (table_of b.env)
    in_b i l = let m : size (table_of b.env) ≡ size (table_of a.env) = ap size bt in omega (arith, m, l)

    in_c : (i : TypeId) → i.0 < size (table_of a.env) → i.0 < size (table_of c.env)
    in_c i l = let m = sc.grows.counts in let p = in_b i l in omega (arith, m, p)

    table : table_of g.env ≡ table_of d.env
    table = ap table_of (ge ∙ fe) ∙ et

    sizes : size (table_of c.env) ≤ size (table_of g.env)
    sizes = let m = sd.grows.counts in let p : size (table_of g.env) ≡ size (table_of d.env) = ap size table in omega (arith, m, p)

    in_g : (i : TypeId) → i.0 < size (table_of c.env) → i.0 < size (table_of g.env)
    in_g i l = let m = sizes in omega (arith, m, l)

    to_g : KeepsTrees (table_of c.env) (table_of g.env)
    to_g i l = ap (tree_at i) table ∙ sd.grows.kept i l

    spec : (ts : List Ty) → spec_view (types_of g.env) s ≡ spec_type (counting n (walk_of ts a)) ty
    spec ts = spec_still (table_of c.env) (table_of g.env) s to_g below ∙ view ts ∙ ap (λ (w : go.Walk). spec_type w ty) (bw ts)

    values : (ts : List Ty) → rs ≡ raws_of (counting n (walk_of ts a)).names (counting n (walk_of ts a)).scopes ys
    values ts = raws ∙ ap (λ (x : scopes.Env). raws_of x.named_types (visible x) ys) sc.grows.env ∙ ap (λ (w : go.Walk). raws_of w.names w.scopes ys) (bw ts)

    to_ts : (ts : List Ty) → Keeps (table_of h.env) ts → Keeps (table_of g.env) ts
    to_ts ts l = keeps_back (table_of g.env) (table_of h.env) k.kept k.counts ts l

    to_f : (ts : List Ty) → Keeps (table_of h.env) ts → Keeps (table_of f.env) ts
    to_f ts l = subst (λ (x : Env). Keeps (table_of x) ts) ge (to_ts ts l)

    walk : (ts : List Ty) → Keeps (table_of h.env) ts → walk_of ts g ≡ uses_all (exprs_of ys) (type_uses ty (walk_of ts a))
    walk ts l =
        mg.walk ts (to_ts ts l) ∙ ap (uses_all (exprs_of ys)) (mf.walk ts (to_f ts l))
        ∙ ap (λ (w : go.Walk). uses_all (exprs_of ys) (type_uses ty w)) (walk_back ts n a d e (sd.walk ts ∙ sc.walk ts ∙ bw ts) env_e kept lost numbers)

    is : (ts : List Ty) → Keeps (table_of h.env) ts
        → given_at g.env at s names rs (walk_of ts g)
        ≡ by_count (names_count names (exprs_of ys)) (const_each (counting n (walk_of ts a)) (spec_type (counting n (walk_of ts a)) ty) names (exprs_of ys) (uses_all (exprs_of ys) (type_uses ty (walk_of ts a))))
        (miscount at (spec_type (counting n (walk_of ts a)) ty) names (all_typed (counting n (walk_of ts a)) (exprs_of ys)) (all_in_flaws (counting n (walk_of ts a)) (exprs_of ys)) (uses_all (exprs_of ys) (type_uses ty (walk_of ts a))))
    is ts l =
        let w = counting n (walk_of ts a) in
        let u = uses_all (exprs_of ys) (type_uses ty (walk_of ts a)) in
        let p : given_at g.env at s names rs (walk_of ts g) ≡ const_given w.names at (spec_type w ty) names (raws_of w.names w.scopes ys) u = λ j. const_given (env j).named_types at (spec ts j) names (values ts j) (walk ts l j) in
        p ∙ sym (given_is at w (spec_type w ty) names ys u)

-- ---- specification by specification

whole : (v : ValueSpec) (rest : t.ValueSpecs) → value_spec_view v rest ≡ t.MoreValues (out-ValueSpec v).names.items (maybe_expr (option_map expr_view (out-ValueSpec v).ty)) (exprs_of (map expr_view (out-ValueSpec v).values.items)) rest
whole v rest = search (rules, fold_out-ValueSpec)

abbrev one_of : Place → ℕ → List Name → t.MaybeExpr → t.Exprs → go.Walk → Did
one_of at k ns u ys w = const_spec at (counting k w) ns u ys w

abbrev one_then : Place → ℕ → List Name → t.MaybeExpr → t.Exprs → t.ValueSpecs → go.Walk → Did
one_then at k ns u ys rest w = and_then (one_of at k ns u ys w) (const_specs at (suc k) u ys rest)

pub list_missing : (at : Place) (k : ℕ) (u : t.MaybeExpr) (ys : t.Exprs) (v : ValueSpec) (rest : t.ValueSpecs) → (out-ValueSpec v).values.items ≡ []
    → const_specs at k u ys (value_spec_view v rest) ≡ (λ w. and_then (const_spec at (counting k w) (out-ValueSpec v).names.items u ys w) (const_specs at (suc k) u ys rest))
list_missing at k u ys v rest h =
    ap (const_specs at k u ys) (whole v rest ∙ ap (λ (es : List Expr). t.MoreValues (out-ValueSpec v).names.items (maybe_expr (option_map expr_view (out-ValueSpec v).ty)) (exprs_of (map expr_view es)) rest) h)

given : (at : Place) (k : ℕ) (u : t.MaybeExpr) (ys : t.Exprs) (ns : List Name) (v : t.MaybeExpr) (es : List Expr) (rest : t.ValueSpecs) → 0 < length es
    → const_specs at k u ys (t.MoreValues ns v (exprs_of (map expr_view es)) rest) ≡ one_then at k ns v (exprs_of (map expr_view es)) rest
given at k u ys ns v [] rest h = absurd (omega arith)
given at k u ys ns v (e ∷ es) rest h = refl

pub list_given : (at : Place) (k : ℕ) (u : t.MaybeExpr) (ys : t.Exprs) (v : ValueSpec) (rest : t.ValueSpecs) → 0 < length (out-ValueSpec v).values.items
    → const_specs at k u ys (value_spec_view v rest)
    ≡ (λ w. and_then (const_spec at (counting k w) (out-ValueSpec v).names.items (maybe_expr (option_map expr_view (out-ValueSpec v).ty)) (exprs_of (map expr_view (out-ValueSpec v).values.items)) w) (const_specs at (suc k) (maybe_expr (option_map expr_view (out-ValueSpec v).ty)) (exprs_of (map expr_view (out-ValueSpec v).values.items)) rest))
list_given at k u ys v rest h = ap (const_specs at k u ys) (whole v rest) ∙ given at k u ys (out-ValueSpec v).names.items (maybe_expr (option_map expr_view (out-ValueSpec v).ty)) (out-ValueSpec v).values.items rest h

abbrev rest_of : List ValueSpec → t.ValueSpecs
rest_of vs = joined (map value_spec_view vs) t.NoValues

-- one more, whose list stands by its source
pub specs_step : (at : Place) (vs : List ValueSpec) (i k m : ℕ) (v : ValueSpec) (u0 u1 : t.MaybeExpr) (ys0 ys1 : t.Exprs) (a b c : Walk) (f0 f1 f2 : List Flaw) (out : List CoreStmt) → i < length vs → v ≡ get_or vs i v → m ≡ suc k
    → ((rest : t.ValueSpecs) → const_specs at k u0 ys0 (value_spec_view v rest) ≡ (λ w. and_then (const_spec at (counting k w) (out-ValueSpec v).names.items u1 ys1 w) (const_specs at (suc k) u1 ys1 rest)))
    → DoesLeft (const_specs at 0 t.NoExpr t.NoExprs (joined (map value_spec_view vs) t.NoValues)) (const_specs at k u0 ys0 (joined (map value_spec_view (drop i vs)) t.NoValues)) a b f0 f1 out out
    → Does (λ w. const_spec at (counting k w) (out-ValueSpec v).names.items u1 ys1 w) b c f1 f2 out out
    → DoesLeft (const_specs at 0 t.NoExpr t.NoExprs (joined (map value_spec_view vs) t.NoValues)) (const_specs at m u1 ys1 (joined (map value_spec_view (drop (i + 1) vs)) t.NoValues)) a c f0 f2 out out
specs_step at vs i k m v u0 u1 ys0 ys1 a b c f0 f1 f2 out l q p source h d =
    let all = const_specs at 0 t.NoExpr t.NoExprs (rest_of vs) in
    let rest = rest_of (drop (i + 1) vs) in
    let ns = (out-ValueSpec v).names.items in
    let split : const_specs at k u0 ys0 (rest_of (drop i vs)) ≡ one_then at k ns u1 ys1 rest = ap (λ (xs : List ValueSpec). const_specs at k u0 ys0 (rest_of xs)) (next_at vs i v l q) ∙ source rest in
    left_as all (const_specs at (suc k) u1 ys1 rest) (const_specs at m u1 ys1 rest) a c f0 f2 out out (ap (λ (x : ℕ). const_specs at x u1 ys1 rest) (sym p))
    (left_step all (one_of at k ns u1 ys1) (const_specs at (suc k) u1 ys1 rest) a b c f0 f1 f2 out out out (left_as all (const_specs at k u0 ys0 (rest_of (drop i vs))) (one_then at k ns u1 ys1 rest) a b f0 f1 out out split h) d)

pub specs_end : (at : Place) (vs : List ValueSpec) (i k : ℕ) (u : t.MaybeExpr) (ys : t.Exprs) (a b : Walk) (f0 f1 : List Flaw) (out : List CoreStmt) → length vs ≤ i
    → DoesLeft (const_specs at 0 t.NoExpr t.NoExprs (joined (map value_spec_view vs) t.NoValues)) (const_specs at k u ys (joined (map value_spec_view (drop i vs)) t.NoValues)) a b f0 f1 out out
    → Does (const_specs at 0 t.NoExpr t.NoExprs (joined (map value_spec_view vs) t.NoValues)) a b f0 f1 out out
specs_end at vs i k u ys a b f0 f1 out l h =
    let all = const_specs at 0 t.NoExpr t.NoExprs (rest_of vs) in
    left_end all a b f0 f1 out out (left_as all (const_specs at k u ys (rest_of (drop i vs))) (did []) a b f0 f1 out out (ap (λ (xs : List ValueSpec). const_specs at k u ys (rest_of xs)) (past vs i l)) h)
