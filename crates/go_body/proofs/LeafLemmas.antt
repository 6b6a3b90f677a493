-- What stands before or after statements, and statements without statements in them.
use Rattle.std.proofs.Common.{arith, ◌≡◌, ◌≢◌, ◌<◌, ◌≤◌, ◌+◌, ◌∙◌, ℕ, zero, suc, refl, sym, ap, subst, List, [], ◌∷◌, ◌++◌, append_assoc, map, length, drop, get_or, Bool, true, false, ◌&&◌, not}
use Rattle.std.specs.Prelude.{Option, Some, None, option_map, IfSome, ◌==◌, nat_lt, if◌then◌else◌}
use Rattle.std.proofs.lemmas.List.{append-nil, map-append}
use Rattle.std.proofs.lemmas.Bool.Decides.{nat_tests}
use Rattle.gj_base.specs.declared.place.Place.{Place}
use Rattle.go_const.specs.declared.constant.Const.{Const}
use Rattle.go_syntax.specs.Tree as t
use Rattle.go_syntax.specs.View.{expr_view, exprs_of, maybe_expr, stmt_view, clause_view, joined}
use Rattle.go_syntax.specs.declared.tree.Expr.{Expr}
use Rattle.go_syntax.specs.declared.tree.Stmt.{Stmt}
use Rattle.go_syntax.specs.declared.tree.Clause.{Clause, out-Clause}
use Rattle.go_type.specs.Tree as ty
use Rattle.go_type.specs.Tree.{Ty}
use Rattle.go_type.specs.Levels.{tree_of}
use Rattle.go_type.specs.Table.{places, size, KeepsTrees}
use Rattle.go_type.specs.declared.types.TypeId.{TypeId}
use Rattle.go_type.specs.declared.table.TypeTable.{TypeTable}
use Rattle.go_core.specs.CoreTree as core
use Rattle.go_core.specs.CoreView as views
use Rattle.go_core.specs.declared.node.CoreExpr.{CoreExpr}
use Rattle.go_core.specs.declared.statement.CoreStmt.{CoreStmt}
use Rattle.go_core.specs.declared.statement.CoreTest.{CoreTest}
use Rattle.go_core.specs.declared.statement.CoreClause.{CoreClause}
use Rattle.go_walk.specs.ClauseView as nodes
use Rattle.go_typing.specs.Answer as typing
use Rattle.go_typing.specs.Answer.{flaw, is_known}
use Rattle.go_typing.specs.Typing.{place_of}
use Rattle.go_typing.specs.Scopes as scopes
use Rattle.go_typing.specs.Scopes.{visible}
use Rattle.go_operands.specs.EnvView.{table_of, env_of}
use Rattle.go_operands.specs.declared.scopes.env.Env.{Env}
use Rattle.go_calls.specs.Words.{types_of, names_of, scopes_of}
use Rattle.go_operands.specs.AnswerView.{flaw_view}
use Rattle.go_operands.specs.declared.answers.answer.Flaw.{Flaw}
use Rattle.go_typing.specs.Walk as go
use Rattle.go_typing.specs.Walk.{Did, did, faulty, fresh, uses, uses_all, all_used, any_among}
use Rattle.go_typing.specs.Expressions as expressions
use Rattle.go_typing.specs.Expressions.{Valued, answer_in, flaws_in, core_of, condition}
use Rattle.go_typing.specs.Assign.{where_typed, all_typed, all_in_flaws, first_place, left_uses}
use Rattle.go_typing.specs.Statements as statements
use Rattle.go_typing.specs.Statements.{post_did, default_flaws, is_default, tag_of, condition_uses, condition_core, condition_told, limited, many_told, name_places, parts_typed, where_clean, count_clauses, clauses_limit, next_label}
use Rattle.go_typing.specs.Labels.{labels_in}
use Rattle.go_walk.specs.WalkView.{walk_of, walk_outside, Keeps, depth}
use Rattle.go_walk.specs.declared.walk.parts.Before.{Before}
use Rattle.go_walk.specs.declared.walk.walk.Walk.{Walk}
use Rattle.go_walk.specs.Parts.{parts_since}
use Rattle.go_expr.specs.Raw.{Raw, raws_of, Grows}
use Rattle.go_assign.specs.Settled.{all_known, all_told}
use Rattle.go_assign.specs.Taken.{StandsFor}
use Rattle.go_assign.specs.Outcome.{Does}
use Rattle.go_assign.specs.Passed.{Passes, stays}
use Rattle.go_assign.specs.Moves.{Moves}
use Rattle.go_assign.specs.Apart.{unless_told}
use Rattle.go_assign.specs.TagView.{IsTag}
use Rattle.go_assign.specs.declared.branch.tag.Tag as code
use Rattle.go_walk.specs.declared.cases.seen.ConstSet.{ConstSet}
use Rattle.go_define.specs.CaseView.{Cases, HasAll, tests_before}
use Rattle.go_body.specs.Forms.{is_define}
use Rattle.go_body.specs.Made.{clauses_before}
use Rattle.go_body.specs.Tags.{tag_type, tag_stmts, IsTagged, Tested}
use Rattle.go_body.specs.declared.leaf.tagged.Tagged.{Tagged}
use Rattle.go_body.proofs.ViewLemmas.{clause_whole}

-- ---- a walk that goes on

pub passes_env : (f : go.Walk → go.Walk) (a b : Walk) → b.env ≡ a.env → ((ts : List Ty) → walk_of ts b ≡ f (walk_of ts a)) → Passes f a b
passes_env f a b p h = record {
  walk = h;
  env = ap env_of p;
  kept = subst (λ (e : Env). KeepsTrees (table_of a.env) (table_of e)) (sym p) (λ i l. refl);
  counts = subst (λ (e : Env). size (table_of a.env) ≤ size (table_of e)) (sym p) (omega arith);
}

pub passes_on : (f g : go.Walk → go.Walk) (a b c : Walk) → Passes f a b → Passes g b c → Passes (λ w. g (f w)) a c
passes_on f g a b c h k = record {
  walk = λ ts. k.walk ts ∙ ap g (h.walk ts);
  env = k.env ∙ h.env;
  kept = λ i l. k.kept i (below i l) ∙ h.kept i l;
  counts = let p = h.counts in let q = k.counts in omega (arith, p, q);
}
  where
    below : (i : TypeId) → i.0 < size (table_of a.env) → i.0 < size (table_of b.env)
    below i l = let p = h.counts in omega (arith, p, l)

-- types are added alone
grown : (ts : List Ty) (a b : Walk) → Grows a.env b.env → b.next ≡ a.next → b.next_label ≡ a.next_label → b.vars ≡ a.vars → b.declared ≡ a.declared → b.used ≡ a.used → b.lost ≡ a.lost → walk_of ts b ≡ walk_of ts a
grown ts a b g n l v d u m = λ j. record { names = (g.env j).named_types; scopes = visible (g.env j); next = n j; next_label = l j; vars = map (views.var_of ts) (v j).items; declared = (d j).items; used = (u j).items; lost = m j }

pub passes_grown : (f : go.Walk → go.Walk) (a m b : Walk) → m.env ≡ a.env → ((ts : List Ty) → walk_of ts m ≡ f (walk_of ts a)) → Grows m.env b.env → b.next ≡ m.next → b.next_label ≡ m.next_label → b.vars ≡ m.vars → b.declared ≡ m.declared → b.used ≡ m.used → b.lost ≡ m.lost → Passes f a b
passes_grown f a m b p h g n l v d u lost = record {
  walk = λ ts. grown ts m b g n l v d u lost ∙ h ts;
  env = g.env ∙ ap env_of p;
  kept = subst (λ (e : Env). KeepsTrees (table_of e) (table_of b.env)) p g.kept;
  counts = subst (λ (e : Env). size (table_of e) ≤ size (table_of b.env)) p g.counts;
}

-- ---- conditions

abbrev condition_at : scopes.Env → t.Expr → Valued
condition_at v e = condition (record { names = v.named_types; scopes = visible v; next = 0; next_label = 0; vars = []; declared = []; used = []; lost = 0 }) e

pub condition_before : (us : List Ty) (a m : Walk) (b : Env) (e : t.Expr) → m.env ≡ a.env → Grows m.env b → condition (walk_outside b) e ≡ condition (walk_of us a) e
condition_before us a m b e p g = ap (λ (v : scopes.Env). condition_at v e) (g.env ∙ ap env_of p)

pub decided_core : (us : List Ty) (a m : Walk) (b : Env) (e : t.Expr) (v : Valued) (c : CoreExpr) → m.env ≡ a.env → Grows m.env b → v ≡ condition (walk_outside b) e → StandsFor (table_of b) (core_of v.answer) c → StandsFor (table_of b) (core_of (condition (walk_of us a) e).answer) c
decided_core us a m b e v c p g q h = subst (λ (x : Valued). StandsFor (table_of b) (core_of x.answer) c) (q ∙ condition_before us a m b e p g) h

pub decided_told : (us : List Ty) (a m : Walk) (b : Env) (e : t.Expr) (v : Valued) (f0 f1 : List Flaw) → m.env ≡ a.env → Grows m.env b → v ≡ condition (walk_outside b) e → map flaw_view f1 ≡ map flaw_view f0 ++ v.flaws → map flaw_view f1 ≡ map flaw_view f0 ++ (condition (walk_of us a) e).flaws
decided_told us a m b e v f0 f1 p g q h = h ∙ ap (λ (x : Valued). map flaw_view f0 ++ x.flaws) (q ∙ condition_before us a m b e p g)

-- one that there may be
pub some_core : (table : TypeTable) (w : go.Walk) (o : Option Expr) (y : Expr) (c : CoreExpr) (ts : List Ty) → o ≡ Some y → StandsFor table (core_of (condition w (expr_view y)).answer) c → Keeps table ts
    → views.bound_of (option_map (views.expr_view ts) (Some c)) ≡ condition_core w (maybe_expr (option_map expr_view o))
some_core table w o y c ts p h k = ap core.bound (h.stands ts k) ∙ ap (λ (x : Option Expr). condition_core w (maybe_expr (option_map expr_view x))) (sym p)

pub some_told : (w : go.Walk) (o : Option Expr) (y : Expr) (f0 f1 : List Flaw) → o ≡ Some y → map flaw_view f1 ≡ map flaw_view f0 ++ (condition w (expr_view y)).flaws → map flaw_view f1 ≡ map flaw_view f0 ++ condition_told w (maybe_expr (option_map expr_view o))
some_told w o y f0 f1 p h = h ∙ ap (λ (x : Option Expr). map flaw_view f0 ++ condition_told w (maybe_expr (option_map expr_view x))) (sym p)

pub some_passes : (o : Option Expr) (y : Expr) (a b : Walk) → o ≡ Some y → Passes (uses (expr_view y)) a b → Passes (condition_uses (maybe_expr (option_map expr_view o))) a b
some_passes o y a b p h = subst (λ (x : Option Expr). Passes (condition_uses (maybe_expr (option_map expr_view x))) a b) (sym p) h

pub no_core : (w : go.Walk) (o : Option Expr) → o ≡ None → core.no_bound ≡ condition_core w (maybe_expr (option_map expr_view o))
no_core w o p = ap (λ (x : Option Expr). condition_core w (maybe_expr (option_map expr_view x))) (sym p)

pub no_told : (w : go.Walk) (o : Option Expr) (f : List Flaw) → o ≡ None → map flaw_view f ≡ map flaw_view f ++ condition_told w (maybe_expr (option_map expr_view o))
no_told w o f p = sym (append-nil (map flaw_view f)) ∙ ap (λ (x : Option Expr). map flaw_view f ++ condition_told w (maybe_expr (option_map expr_view x))) (sym p)

pub no_passes : (o : Option Expr) (a : Walk) → o ≡ None → Passes (condition_uses (maybe_expr (option_map expr_view o))) a a
no_passes o a p = subst (λ (x : Option Expr). Passes (condition_uses (maybe_expr (option_map expr_view x))) a a) (sym p) (record { walk = λ ts. refl; env = refl; kept = λ i l. refl; counts = omega arith })

-- ---- a second `default`

pub both_told : (at : Place) (isd had : Bool) (f0 f1 : List Flaw) → isd ≡ true → had ≡ true → map flaw_view f1 ≡ map flaw_view f0 ++ flaw at 92 ∷ [] → map flaw_view f1 ≡ map flaw_view f0 ++ default_flaws at isd had
both_told at isd had f0 f1 p q h = h ∙ (λ j. map flaw_view f0 ++ default_flaws at (sym p j) (sym q j))

pub one_told : (at : Place) (isd had : Bool) (f : List Flaw) → isd ≡ true → had ≡ false → map flaw_view f ≡ map flaw_view f ++ default_flaws at isd had
one_told at isd had f p q = sym (append-nil (map flaw_view f)) ∙ (λ j. map flaw_view f ++ default_flaws at (sym p j) (sym q j))

pub neither_told : (at : Place) (isd had : Bool) (f : List Flaw) → isd ≡ false → map flaw_view f ≡ map flaw_view f ++ default_flaws at isd had
neither_told at isd had f p = sym (append-nil (map flaw_view f)) ∙ ap (λ (b : Bool). map flaw_view f ++ default_flaws at b had) (sym p)

pub none_told : (f : List Flaw) → map flaw_view f ≡ map flaw_view f ++ []
none_told f = sym (append-nil (map flaw_view f))

pub passes_none : (a : Walk) → Passes (λ w. w) a a
passes_none a = record { walk = λ ts. refl; env = refl; kept = λ i l. refl; counts = omega arith }

-- ---- a short declaration after a turn

pub define_whole : (s : t.Stmt) (at : Place) (xs ys us vs : List Expr) (post : go.Walk → Did) (a b : Walk) (f0 f1 : List Flaw) (o : List CoreStmt) → s ≡ t.DefineStmt at (exprs_of (map expr_view us)) (exprs_of (map expr_view vs)) → xs ≡ us → ys ≡ vs
    → Does (post_did (t.AStmt (t.DefineStmt at (exprs_of (map expr_view xs)) (exprs_of (map expr_view ys)))) post) a b f0 f1 o o → Does (post_did (t.AStmt s) post) a b f0 f1 o o
define_whole s at xs ys us vs post a b f0 f1 o p q r h =
    subst (λ (x : t.Stmt). Does (post_did (t.AStmt x) post) a b f0 f1 o o) (sym p)
    (subst (λ (zs : List Expr). Does (post_did (t.AStmt (t.DefineStmt at (exprs_of (map expr_view zs)) (exprs_of (map expr_view vs)))) post) a b f0 f1 o o) q
    (subst (λ (zs : List Expr). Does (post_did (t.AStmt (t.DefineStmt at (exprs_of (map expr_view xs)) (exprs_of (map expr_view zs)))) post) a b f0 f1 o o) r h))

post_other : (s : t.Stmt) (post : go.Walk → Did) → is_define s ≡ false → post ≡ post_did (t.AStmt s) post
post_other (t.DefineStmt at xs ys) post h = absurd (cc)
post_other _ post h = refl

pub other_does : (s : t.Stmt) (post : go.Walk → Did) (a b : Walk) (f0 f1 : List Flaw) (o0 o1 : List CoreStmt) → is_define s ≡ false → Does post a b f0 f1 o0 o1 → Does (post_did (t.AStmt s) post) a b f0 f1 o0 o1
other_does s post a b f0 f1 o0 o1 p h = subst (λ (d : go.Walk → Did). Does d a b f0 f1 o0 o1) (post_other s post p) h

pub nothing_does : (a : Walk) (f : List Flaw) (o : List CoreStmt) → Does (did []) a a f f o o
nothing_does a f o = record {
  told = λ ts l. sym (append-nil (map flaw_view f));
  core = λ ts l. sym (append-nil (map (views.stmt_view ts) o));
  walk = λ ts l. refl;
  depth = refl;
  kept = λ i l. refl;
  counts = omega arith;
}

-- ---- the tag

pub default_none : (xs : List Expr) → length xs ≡ 0 → true ≡ is_default (exprs_of (map expr_view xs))
default_none [] h = refl
default_none (x ∷ xs) h = absurd (omega (arith, h))

pub default_some : (xs : List Expr) → (length xs ≡ 0 → ⊥) → false ≡ is_default (exprs_of (map expr_view xs))
default_some [] h = absurd (h refl)
default_some (x ∷ xs) h = refl

pub one_more : (ts : List Ty) (old new : List CoreStmt) (s : CoreStmt) (c : core.Stmt) → new ≡ old ++ s ∷ [] → views.stmt_view ts s ≡ c → map (views.stmt_view ts) new ≡ map (views.stmt_view ts) old ++ c ∷ []
one_more ts old new s c p q = ap (map (views.stmt_view ts)) p ∙ map-append (views.stmt_view ts) old (s ∷ []) ∙ ap (λ (x : core.Stmt). map (views.stmt_view ts) old ++ x ∷ []) q

pub clauses_more : (ts : List Ty) (cs : List CoreClause) (c : CoreClause) (rest : core.Clauses) → clauses_before ts (cs ++ c ∷ []) rest ≡ clauses_before ts cs (nodes.clause_view ts c rest)
clauses_more ts [] c rest = refl
clauses_more ts (d ∷ cs) c rest = ap (nodes.clause_view ts d) (clauses_more ts cs c rest)

uses_next : (x : t.MaybeExpr) (w : go.Walk) → (condition_uses x w).next ≡ w.next
uses_next t.NoExpr w = refl
uses_next (t.AnExpr e) w = refl

pub tagged_does : (x : t.MaybeExpr) (a b c : Walk) (f0 f1 : List Flaw) (o0 o1 : List CoreStmt) (g : code.Tag) (u : TypeId) (id : Tagged) → ((ts : List Ty) → IsTag (tag_of (walk_of ts a) x) (table_of b.env) g) → ((ts : List Ty) → map flaw_view f1 ≡ map flaw_view f0 ++ (tag_of (walk_of ts a) x).flaws)
    → Passes (condition_uses x) a b → tree_of (types_of b.env) u ≡ tag_type (option_map (tree_of (types_of b.env)) g.ty) → u.0 < size (table_of b.env) → id.id.0 ≡ b.next → ((ts : List Ty) → walk_of ts c ≡ fresh (tree_of ts u) (walk_of ts b)) → c.env ≡ b.env → id.ty ≡ g.ty
    → ((ts : List Ty) → map (views.stmt_view ts) o1 ≡ map (views.stmt_view ts) o0 ++ tag_stmts id.id.0 (tree_of ts u) (views.expr_view ts g.core)) → IsTagged x a c f0 f1 o0 o1 id
tagged_does x a b c f0 f1 o0 o1 g u id h told p v below n w e same out = record {
  told = told;
  core = λ ts l. out ts ∙ (λ j. map (views.stmt_view ts) o0 ++ tag_stmts ((n ∙ next_is) j) (tree_is ts (to_b ts l) j) ((h ts).core.stands ts (to_b ts l) j));
  walk = λ ts l. w ts ∙ (λ j. fresh (tree_is ts (to_b ts l) j) (p.walk ts j));
  type_ = λ ts. (λ j. option_map (tree_of (types_of (e j))) (same j)) ∙ (h ts).type_;
  number = n ∙ next_is;
  below = subst (λ (q : Env). IfSome id.ty (λ i. i.0 < size (table_of q))) (sym e) (subst (λ (o : Option TypeId). IfSome o (λ i. i.0 < size (table_of b.env))) (sym same) (h []).below);
  env = ap env_of e ∙ p.env;
  kept = subst (λ (q : Env). KeepsTrees (table_of a.env) (table_of q)) (sym e) p.kept;
  counts = subst (λ (q : Env). size (table_of a.env) ≤ size (table_of q)) (sym e) p.counts;
}
  where
    to_b : (ts : List Ty) → Keeps (table_of c.env) ts → Keeps (table_of b.env) ts
    to_b ts l = subst (λ (q : Env). Keeps (table_of q) ts) e l

    tree_is : (ts : List Ty) → Keeps (table_of b.env) ts → tree_of ts u ≡ tag_type (tag_of (walk_of ts a) x).type_
    tree_is ts k = k u below ∙ v ∙ ap tag_type (h ts).type_

    next_is : b.next ≡ a.next
    next_is = ap (λ (q : go.Walk). q.next) (p.walk []) ∙ uses_next x (walk_of [] a)

-- the cases of a clause, after what is told of a second `default`
pub tested_told : (at : Place) (r : statements.Tests) (isd had : Bool) (t : TypeTable) (f0 f1 f2 : List Flaw) (t0 t1 : List CoreTest) (s : ConstSet) → map flaw_view f1 ≡ map flaw_view f0 ++ default_flaws at isd had → Cases r t f1 f2 t0 t1 s → Tested at r isd had t f0 f2 t0 t1 s
tested_told at r isd had t f0 f1 f2 t0 t1 s p h = record {
  told = h.told ∙ ap (λ (fs : List typing.Flaw). fs ++ r.flaws) p ∙ append_assoc (map flaw_view f0) (default_flaws at isd had) r.flaws;
  tests = h.tests;
  seen = h.seen;
}

pub tested_all : (at : Place) (isd had given : Bool) (us : List Ty) (a m n : Walk) (tag : ℕ) (u : Option Ty) (number : ℕ) (xs ys : List Expr) (ks : List Const) (f0 f1 f2 : List Flaw) (t0 t1 : List CoreTest) (s : ConstSet) → given ≡ isd → ys ≡ xs → n.env ≡ m.env → map flaw_view f1 ≡ map flaw_view f0 ++ default_flaws at given had
    → Cases (statements.case_tests (walk_of us a) tag u number (exprs_of (map expr_view ys)) ks) (table_of m.env) f1 f2 t0 t1 s → Tested at (statements.case_tests (walk_of us a) tag u number (exprs_of (map expr_view xs)) ks) isd had (table_of n.env) f0 f2 t0 t1 s
tested_all at isd had given us a m n tag u number xs ys ks f0 f1 f2 t0 t1 s p q e h k =
    tested_told at (statements.case_tests (walk_of us a) tag u number (exprs_of (map expr_view xs)) ks) isd had (table_of n.env) f0 f1 f2 t0 t1 s (h ∙ ap (λ (b : Bool). map flaw_view f0 ++ default_flaws at b had) p)
    (subst (λ (x : Env). Cases (statements.case_tests (walk_of us a) tag u number (exprs_of (map expr_view xs)) ks) (table_of x) f1 f2 t0 t1 s) (sym e)
    (subst (λ (zs : List Expr). Cases (statements.case_tests (walk_of us a) tag u number (exprs_of (map expr_view zs)) ks) (table_of m.env) f1 f2 t0 t1 s) q k))

pub tested_passes : (a m n : Walk) (xs zs : List Expr) → Passes stays a m → n.env ≡ m.env → ((ts : List Ty) → walk_of ts n ≡ uses_all (exprs_of (map expr_view zs)) (walk_of ts m)) → zs ≡ xs → Passes (uses_all (exprs_of (map expr_view xs))) a n
tested_passes a m n xs zs p e w q =
    subst (λ (ys : List Expr). Passes (uses_all (exprs_of (map expr_view ys))) a n) q (passes_on stays (uses_all (exprs_of (map expr_view zs))) a m n p (passes_env (uses_all (exprs_of (map expr_view zs))) m n e w))

-- ---- a `switch` of too many clauses

count_is : (cs : List Clause) → length cs ≡ count_clauses (joined (map clause_view cs) t.NoClauses)
count_is [] = refl
count_is (c ∷ cs) = ap suc (count_is cs) ∙ ap count_clauses (sym (clause_whole c (joined (map clause_view cs) t.NoClauses)))

abbrev if_clean : Bool → List typing.Flaw → List typing.Flaw
if_clean b fs = if b then fs else []

pub clean_is : (n : ℕ) (fs gs : List typing.Flaw) → if_clean (n + length fs == n) gs ≡ where_clean fs gs
clean_is n [] gs = ap (λ (b : Bool). if_clean b gs) (equal (n + 0) n (omega arith))
  where
    equal : (p q : ℕ) → p ≡ q → (p == q) ≡ true
    equal p q h = grind (arith, nat_tests)
clean_is n (f ∷ fs) gs = ap (λ (b : Bool). if_clean b gs) (unequal (n + length (f ∷ fs)) n (omega arith))
  where
    unequal : (p q : ℕ) → q < p → (p == q) ≡ false
    unequal p q h = grind (arith, nat_tests)

pub length_view : (fs : List Flaw) → length (map flaw_view fs) ≡ length fs
length_view [] = refl
length_view (f ∷ fs) = ap suc (length_view fs)

pub length_more : (f0 f1 : List Flaw) (fs : List typing.Flaw) → map flaw_view f1 ≡ map flaw_view f0 ++ fs → length f1 ≡ length f0 + length fs
length_more f0 f1 fs h =
    sym (length_view f1) ∙ ap (λ (x : List typing.Flaw). length x) h ∙ length_join (map flaw_view f0) fs ∙ ap (λ (n : ℕ). n + length fs) (length_view f0)
  where
    length_join : (xs ys : List typing.Flaw) → length (xs ++ ys) ≡ length xs + length ys
    length_join [] ys = omega arith
    length_join (x ∷ xs) ys = let k = length_join xs ys in omega (arith, k)

-- whether there are too many, of what is typed
pub many_over : (u v : Bool) (count : ℕ) → 1000 < count → u ≡ v → u ≡ (v && nat_lt clauses_limit count)
many_over u v count l h = h ∙ sym (by v) ∙ ap (λ (x : Bool). v && x) (sym (over count l))
  where
    by : (b : Bool) → (b && true) ≡ b
    by true = refl
    by false = refl

    over : (m : ℕ) → 1000 < m → nat_lt 1000 m ≡ true
    over m k = grind (arith, nat_tests)

pub many_under : (u : Bool) (count : ℕ) → count ≤ 1000 → false ≡ (u && nat_lt clauses_limit count)
many_under u count l = sym (by u) ∙ ap (λ (x : Bool). u && x) (sym (under count l))
  where
    by : (b : Bool) → (b && false) ≡ false
    by true = refl
    by false = refl

    under : (m : ℕ) → m ≤ 1000 → nat_lt 1000 m ≡ false
    under m k = grind (arith, nat_tests)

-- what is told where a test holds, and where it doesn't
pub told_so : (b test : Bool) (fs : List typing.Flaw) (f0 f1 : List Flaw) → b ≡ test → b ≡ true → map flaw_view f1 ≡ map flaw_view f0 ++ fs → map flaw_view f1 ≡ map flaw_view f0 ++ (if test then fs else [])
told_so b test fs f0 f1 p q h = h ∙ ap (λ (x : Bool). map flaw_view f0 ++ if_clean x fs) (sym q ∙ p)

pub not_told_so : (b test : Bool) (fs : List typing.Flaw) (f : List Flaw) → b ≡ test → b ≡ false → map flaw_view f ≡ map flaw_view f ++ (if test then fs else [])
not_told_so b test fs f p q = sym (append-nil (map flaw_view f)) ∙ ap (λ (x : Bool). map flaw_view f ++ if_clean x fs) (sym q ∙ p)

abbrev pub many_since : Before → List Place → t.Stmt → Walk → ℕ → Place → ℕ → List typing.Flaw
many_since p wrong s w count at n = if n == p.flaws then (if parts_since p wrong s w && nat_lt clauses_limit count then flaw at 76 ∷ [] else []) else []

-- whether its parts are typed, by the walk after it
typed_is : (s : t.Stmt) (v : go.Around) (p : Before) (a b : Walk) (w : go.Walk) (ts : List Ty) → p.declared ≡ length a.declared.items → p.lost ≡ a.lost → walk_of ts b ≡ w → parts_since p v.wrong_labels s b ≡ parts_typed v s (walk_of ts a) w
typed_is s v p a b w ts e2 e3 h = λ j. all_used (drop (e2 j) (h j).declared) (h j).used && not (any_among (name_places (labels_in s)) v.wrong_labels) && ((h j).lost == e3 j)

pub many_does : (at : Place) (s : t.Stmt) (cs : List Clause) (d : go.Walk → Did) (v : go.Around) (p : Before) (count : ℕ) (a b : Walk) (f0 f1 f2 : List Flaw) (o0 o1 : List CoreStmt) → p.flaws ≡ length f0 → p.declared ≡ length a.declared.items → p.lost ≡ a.lost → count ≡ length cs → Does d a b f0 f1 o0 o1
    → map flaw_view f2 ≡ map flaw_view f1 ++ many_since p v.wrong_labels s b count at (length f1) → Does (λ w. limited at (joined (map clause_view cs) t.NoClauses) (parts_typed v s w) (d w)) a b f0 f2 o0 o1
many_does at s cs d v p count a b f0 f1 f2 o0 o1 e1 e2 e3 q h k = record {
  told = λ ts l.
      let fs = (d (walk_of ts a)).flaws in
      let gs = many_told at (joined (map clause_view cs) t.NoClauses) (parts_typed v s (walk_of ts a) (d (walk_of ts a)).walk) in
      let typed : parts_since p v.wrong_labels s b ≡ parts_typed v s (walk_of ts a) (d (walk_of ts a)).walk = typed_is s v p a b (d (walk_of ts a)).walk ts e2 e3 (h.walk ts l) in
      k ∙ (λ j. map flaw_view f1 ++ if_clean ((length_more f0 f1 fs (h.told ts l)) j == e1 j) (if_clean (typed j && nat_lt clauses_limit ((q ∙ count_is cs) j)) (flaw at 76 ∷ [])))
      ∙ ap (λ (x : List typing.Flaw). map flaw_view f1 ++ x) (clean_is (length f0) fs gs) ∙ ap (λ (x : List typing.Flaw). x ++ where_clean fs gs) (h.told ts l) ∙ append_assoc (map flaw_view f0) fs (where_clean fs gs);
  core = h.core;
  walk = h.walk;
  depth = h.depth;
  kept = h.kept;
  counts = h.counts;
}
