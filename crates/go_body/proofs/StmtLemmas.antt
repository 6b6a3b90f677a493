-- Statements by their forms, each from what its parts do.
use Rattle.std.proofs.Common.{arith, ◌≡◌, ◌<◌, ◌≤◌, ◌+◌, ◌-◌, ◌∙◌, ℕ, get_or, refl, sym, ap, subst, List, [], ◌∷◌, ◌++◌, map, length, Bool, true, false, ◌&&◌}
use Rattle.std.specs.Prelude.{Option, Some, None, option_map, IfSome, is_some, not, ◌==◌, nat_lt, if◌then◌else◌}
use Rattle.std.specs.Prelude.{Vec, vec_len}
use Rattle.std.specs.declared.alloc.Global.{Global}
use Rattle.gj_base.specs.declared.place.Place.{Place}
use Rattle.go_syntax.specs.Tree as t
use Rattle.go_syntax.specs.View.{expr_view, maybe_expr, maybe_stmt, stmt_view, stmts_of, block_view, clause_view, joined}
use Rattle.go_syntax.specs.declared.tree.Block.{Block}
use Rattle.go_syntax.specs.declared.tree.Clause.{Clause, out-Clause}
use Rattle.go_syntax.specs.declared.tree.Expr.{Expr}
use Rattle.go_syntax.specs.declared.tree.Name.{Name}
use Rattle.go_syntax.specs.declared.tree.Stmt.{Stmt}
use Rattle.go_syntax.specs.declared.tree.StmtForm.{StmtForm}
use Rattle.go_syntax.specs.declared.tree.StmtForm.TheVariants as form
use Rattle.go_type.specs.Tree.{Ty}
use Rattle.go_type.specs.Levels.{tree_of}
use Rattle.go_type.specs.Table.{places, size, KeepsTrees}
use Rattle.go_type.specs.declared.types.TypeId.{TypeId}
use Rattle.go_type.specs.declared.table.TypeTable.{TypeTable}
use Rattle.go_core.specs.CoreTree as core
use Rattle.go_core.specs.CoreView as views
use Rattle.go_core.specs.CoreView.{bound_of, tests_of, clauses_of}
use Rattle.go_core.specs.declared.node.CoreExpr.{CoreExpr}
use Rattle.go_core.specs.declared.statement.CoreStmt.{CoreStmt}
use Rattle.go_walk.specs.ClauseView as nodes
use Rattle.go_typing.specs.Answer.{flaw}
use Rattle.go_typing.specs.Scopes as scopes
use Rattle.go_typing.specs.Scopes.{without_last}
use Rattle.go_const.specs.declared.constant.Const.{Const}
use Rattle.go_core.specs.declared.statement.CoreTest.{CoreTest}
use Rattle.go_core.specs.declared.statement.CoreClause.{CoreClause}
use Rattle.go_walk.specs.declared.cases.seen.ConstSet.{ConstSet}
use Rattle.go_operands.specs.EnvView.{table_of, env_of}
use Rattle.go_calls.specs.Words.{types_of, scopes_of}
use Rattle.go_operands.specs.AnswerView.{flaw_view}
use Rattle.go_operands.specs.declared.answers.answer.Flaw.{Flaw}
use Rattle.go_typing.specs.Walk as go
use Rattle.go_typing.specs.Walk.{Did, pushed, popped, within, uses, uses_all}
use Rattle.go_typing.specs.Expressions.{condition, core_of}
use Rattle.go_typing.specs.Labels.{label_of}
use Rattle.go_typing.specs.Statements as statements
use Rattle.go_typing.specs.Statements.{Clauses, if_did, for_did, post_did, switch_did, limited, with_target, unlabeled, condition_core, condition_told, condition_uses, clauses_limit, is_default, case_tests, next_label, standing, stmt, maybe, block, stmts, clause_stmts, clauses}
use Rattle.go_walk.specs.WalkView.{walk_of, depth, Keeps}
use Rattle.go_walk.specs.declared.walk.parts.Before.{Before}
use Rattle.go_walk.specs.declared.walk.walk.Walk.{Walk}
use Rattle.go_assign.specs.Taken.{StandsFor}
use Rattle.go_assign.specs.Outcome.{Does}
use Rattle.go_assign.specs.Passed.{Passes}
use Rattle.go_define.specs.AroundView.{around_of}
use Rattle.go_define.specs.CaseView.{HasAll}
use Rattle.go_define.specs.declared.simple.around.Around.{Around}
use Rattle.go_sound.specs.GoesOn.{GoesOn}
use Rattle.go_sound.proofs.GoesOnSteps.{then_on, uses_all_on, within_on}
use Rattle.go_sound.proofs.GoesOnBodies.{post_on, stmt_on, maybe_on, block_on, clause_on}
use Rattle.go_body.specs.Bodies.{Ready}
use Rattle.go_body.specs.Made.{clauses_before, first_default}
use Rattle.go_body.specs.Clauses.{ClauseDoes, ClausesDo}
use Rattle.go_body.specs.Tags.{IsTagged, Tested}
use Rattle.go_body.specs.declared.leaf.made.Made.{Made}
use Rattle.go_body.specs.declared.leaf.tagged.Tagged.{Tagged}
use Rattle.go_body.proofs.KeepLemmas.{keeps_back, around_same, tag_same, tag_more, does_before, plain_on, results_more, ready_env, ready_passed, ready_done}
use Rattle.go_body.proofs.PartLemmas.{within_does, both_does, if_does, for_does}
use Rattle.go_body.proofs.LeafLemmas.{nothing_does, many_since, many_does}
use Rattle.go_body.proofs.SwitchLemmas.{head_exprs, head_stmts, head_onward, head_does, clause_does, Turned, turned_step, switch_does}
use Rattle.go_body.proofs.ViewLemmas.{view_Block, view_If, view_For, view_Switch, view_Labeled}

-- ---- forms in the definitions' words

abbrev pub if_in : t.MaybeStmt → t.Expr → t.Block → t.MaybeStmt → go.Around → go.Walk → Did
if_in init x b other a = if_did x (maybe init (unlabeled a)) (block b (unlabeled a)) (maybe other (unlabeled a))

abbrev pub post_in : t.MaybeStmt → go.Around → go.Walk → Did
post_in post a = post_did post (maybe post (unlabeled a))

abbrev pub turn_in : ℕ → t.Block → go.Around → go.Walk → Did
turn_in number b a w = block b (with_target number true a) (next_label w)

abbrev pub for_in : t.MaybeStmt → t.MaybeExpr → t.MaybeStmt → t.Block → go.Around → go.Walk → Did
for_in init x post b a = for_did x (maybe init (unlabeled a)) (post_in post a) (λ number. block b (with_target number true a))

abbrev pub clauses_in : t.Clauses → go.Around → ℕ → Option Ty → ℕ → go.Walk → Clauses
clauses_in cs a tag u number = clauses cs (with_target number false a) tag u 0 [] false

abbrev pub switch_in : t.MaybeStmt → t.MaybeExpr → t.Clauses → go.Around → go.Walk → Did
switch_in init x cs a = switch_did x (maybe init (unlabeled a)) (clauses_in cs a)

kept_same : (a b : TypeTable) → b ≡ a → KeepsTrees a b
kept_same a b e = subst (λ (x : TypeTable). KeepsTrees a x) (sym e) (λ i l. refl)

kept_on : (a b c : TypeTable) → size a ≤ size b → KeepsTrees a b → KeepsTrees b c → KeepsTrees a c
kept_on a b c s h k = λ i l. k i (omega (arith, s, l)) ∙ h i l

as_stmt : (s r : t.Stmt) (a : go.Around) (m n : Walk) (f0 f1 : List Flaw) (o0 o1 : List CoreStmt) → s ≡ r → Does (stmt r a) m n f0 f1 o0 o1 → Does (stmt s a) m n f0 f1 o0 o1
as_stmt s r a m n f0 f1 o0 o1 e h = subst (λ (x : t.Stmt). Does (stmt x a) m n f0 f1 o0 o1) (sym e) h

module _ (ar : Around) (gs : List go.Target) where
  abbrev here : Walk → Option (List ℕ) → go.Around
  here w label = around_of (types_of w.env) ar gs label

  -- in a scope of its own
  scope : (d : go.Around → go.Walk → Did) (label : Option (List ℕ)) (m p q n : Walk) (f0 f1 : List Flaw) (o0 o1 : List CoreStmt) → Ready ar m → ((ts : List Ty) → walk_of ts p ≡ pushed (walk_of ts m)) → depth p ≡ depth m + 1 → table_of p.env ≡ table_of m.env → Does (d (here p label)) p q f0 f1 o0 o1
      → ((ts : List Ty) → walk_of ts n ≡ popped (walk_of ts q)) → depth n + 1 ≡ depth q → table_of n.env ≡ table_of q.env → Does (within (d (here m label))) m n f0 f1 o0 o1
  scope d label m p q n f0 f1 o0 o1 r pw pd pt h nw nd nt =
      within_does (d (here m label)) m p q n f0 f1 o0 o1 pw pd pt (does_before ar m d gs gs label p q f0 f1 o0 o1 r (kept_same (table_of m.env) (table_of p.env) pt) refl h) nw nd nt

  pub scoped_does : (onward : Bool) (ss : t.Stmts) (m p q n : Walk) (f0 f1 : List Flaw) (o0 o1 : List CoreStmt) → Ready ar m → ((ts : List Ty) → walk_of ts p ≡ pushed (walk_of ts m)) → depth p ≡ depth m + 1 → table_of p.env ≡ table_of m.env
      → Does (clause_stmts onward ss (here p None)) p q f0 f1 o0 o1 → ((ts : List Ty) → walk_of ts n ≡ popped (walk_of ts q)) → depth n + 1 ≡ depth q → table_of n.env ≡ table_of q.env → Does (within (clause_stmts onward ss (here m None))) m n f0 f1 o0 o1
  scoped_does onward ss m p q n f0 f1 o0 o1 r pw pd pt h nw nd nt = scope (clause_stmts onward ss) None m p q n f0 f1 o0 o1 r pw pd pt h nw nd nt

  module _ (s : Stmt) (x : StmtForm) (label : Option (List ℕ)) (m n : Walk) (f0 f1 : List Flaw) (o0 o1 : List CoreStmt) where
    pub block_arm : (b : Block) → x ≡ s.form.value → x ≡ form.Block b → Does (λ w. standing (block (block_view b) (here m None) w)) m n f0 f1 o0 o1 → Does (stmt (stmt_view s) (here m label)) m n f0 f1 o0 o1
    block_arm b p e h = as_stmt (stmt_view s) (t.BlockStmt s.place (block_view b)) (here m label) m n f0 f1 o0 o1 (view_Block s x b p e) h

    pub label_arm : (l : Name) (r : Stmt) (name : Option (List ℕ)) → x ≡ s.form.value → x ≡ form.Labeled l r → name ≡ label_of l → Does (stmt (stmt_view r) (here m name)) m n f0 f1 o0 o1 → Does (stmt (stmt_view s) (here m label)) m n f0 f1 o0 o1
    label_arm l r name p e q h =
        as_stmt (stmt_view s) (t.LabeledStmt s.place l (stmt_view r)) (here m label) m n f0 f1 o0 o1 (view_Labeled s x l r p e) (subst (λ (v : Option (List ℕ)). Does (stmt (stmt_view r) (here m v)) m n f0 f1 o0 o1) q h)

    pub if_arm : (init : Option Stmt) (y : Expr) (b : Block) (other : Option Stmt) (u v : Walk) → x ≡ s.form.value → x ≡ form.If init y b other → Ready ar m → ((ts : List Ty) → walk_of ts u ≡ pushed (walk_of ts m)) → depth u ≡ depth m + 1 → table_of u.env ≡ table_of m.env
        → Does (if_in (maybe_stmt (option_map stmt_view init)) (expr_view y) (block_view b) (maybe_stmt (option_map stmt_view other)) (here u None)) u v f0 f1 o0 o1 → ((ts : List Ty) → walk_of ts n ≡ popped (walk_of ts v)) → depth n + 1 ≡ depth v → table_of n.env ≡ table_of v.env
        → Does (stmt (stmt_view s) (here m label)) m n f0 f1 o0 o1
    if_arm init y b other u v p e r pw pd pt h nw nd nt =
        as_stmt (stmt_view s) (t.IfStmt s.place (maybe_stmt (option_map stmt_view init)) (expr_view y) (block_view b) (maybe_stmt (option_map stmt_view other))) (here m label) m n f0 f1 o0 o1 (view_If s x init y b other p e)
        (scope (if_in (maybe_stmt (option_map stmt_view init)) (expr_view y) (block_view b) (maybe_stmt (option_map stmt_view other))) None m u v n f0 f1 o0 o1 r pw pd pt h nw nd nt)

    pub for_arm : (init : Option Stmt) (y : Option Expr) (post : Option Stmt) (b : Block) (u v : Walk) → x ≡ s.form.value → x ≡ form.For init y post b → Ready ar m → ((ts : List Ty) → walk_of ts u ≡ pushed (walk_of ts m)) → depth u ≡ depth m + 1 → table_of u.env ≡ table_of m.env
        → Does (for_in (maybe_stmt (option_map stmt_view init)) (maybe_expr (option_map expr_view y)) (maybe_stmt (option_map stmt_view post)) (block_view b) (here u label)) u v f0 f1 o0 o1 → ((ts : List Ty) → walk_of ts n ≡ popped (walk_of ts v)) → depth n + 1 ≡ depth v
        → table_of n.env ≡ table_of v.env → Does (stmt (stmt_view s) (here m label)) m n f0 f1 o0 o1
    for_arm init y post b u v p e r pw pd pt h nw nd nt =
        as_stmt (stmt_view s) (t.ForStmt s.place (maybe_stmt (option_map stmt_view init)) (maybe_expr (option_map expr_view y)) (maybe_stmt (option_map stmt_view post)) (block_view b)) (here m label) m n f0 f1 o0 o1 (view_For s x init y post b p e)
        (scope (for_in (maybe_stmt (option_map stmt_view init)) (maybe_expr (option_map expr_view y)) (maybe_stmt (option_map stmt_view post)) (block_view b)) label m u v n f0 f1 o0 o1 r pw pd pt h nw nd nt)

    pub switch_arm : (init : Option Stmt) (y : Option Expr) (cs : List Clause) (b : Vec Clause Global) (before : Before) (count : ℕ) (f2 : List Flaw) (u v : Walk) → x ≡ s.form.value → x ≡ form.Switch init y b → cs ≡ b.items → Ready ar m → ((ts : List Ty) → walk_of ts u ≡ pushed (walk_of ts m)) → depth u ≡ depth m + 1 → table_of u.env ≡ table_of m.env
        → Does (switch_in (maybe_stmt (option_map stmt_view init)) (maybe_expr (option_map expr_view y)) (joined (map clause_view cs) t.NoClauses) (here u label)) u v f0 f2 o0 o1 → ((ts : List Ty) → walk_of ts n ≡ popped (walk_of ts v)) → depth n + 1 ≡ depth v → table_of n.env ≡ table_of v.env
        → before.flaws ≡ length f0 → before.declared ≡ length m.declared.items → before.lost ≡ m.lost → count ≡ length cs → map flaw_view f1 ≡ map flaw_view f2 ++ many_since before ar.wrong_labels.now (stmt_view s) n count s.place (length f2) → Does (stmt (stmt_view s) (here m label)) m n f0 f1 o0 o1
    switch_arm init y cs b before count f2 u v p e q r pw pd pt h nw nd nt e1 e2 e3 e4 told =
        let d = switch_in (maybe_stmt (option_map stmt_view init)) (maybe_expr (option_map expr_view y)) (joined (map clause_view cs) t.NoClauses) in
        let form_of = t.SwitchStmt s.place (maybe_stmt (option_map stmt_view init)) (maybe_expr (option_map expr_view y)) (joined (map clause_view cs) t.NoClauses) in
        let viewed : stmt_view s ≡ form_of = view_Switch s x init y b p e ∙ ap (λ (zs : List Clause). t.SwitchStmt s.place (maybe_stmt (option_map stmt_view init)) (maybe_expr (option_map expr_view y)) (joined (map clause_view zs) t.NoClauses)) (sym q) in
        as_stmt (stmt_view s) form_of (here m label) m n f0 f1 o0 o1 viewed
        (many_does s.place form_of cs (within (d (here m label))) (here m label) before count m n f0 f2 f1 o0 o1 e1 e2 e3 e4 (scope d label m u v n f0 f2 o0 o1 r pw pd pt h nw nd nt)
        (told ∙ ap (λ (z : t.Stmt). map flaw_view f2 ++ many_since before ar.wrong_labels.now z n count s.place (length f2)) viewed))

-- ---- a statement that there may be

pub some_does : (o : Option Stmt) (s : Stmt) (a : go.Around) (m n : Walk) (f0 f1 : List Flaw) (o0 o1 : List CoreStmt) → o ≡ Some s → Does (stmt (stmt_view s) a) m n f0 f1 o0 o1 → Does (maybe (maybe_stmt (option_map stmt_view o)) a) m n f0 f1 o0 o1
some_does o s a m n f0 f1 o0 o1 e h = subst (λ (x : Option Stmt). Does (maybe (maybe_stmt (option_map stmt_view x)) a) m n f0 f1 o0 o1) (sym e) h

pub none_does : (o : Option Stmt) (a : go.Around) (m : Walk) (f : List Flaw) (u : List CoreStmt) → o ≡ None → Does (maybe (maybe_stmt (option_map stmt_view o)) a) m m f f u u
none_does o a m f u e = subst (λ (x : Option Stmt). Does (maybe (maybe_stmt (option_map stmt_view x)) a) m m f f u u) (sym e) (nothing_does m f u)

pub some_post : (o : Option Stmt) (s : Stmt) (a : go.Around) (m n : Walk) (f0 f1 : List Flaw) (o0 o1 : List CoreStmt) → o ≡ Some s → Does (post_did (t.AStmt (stmt_view s)) (maybe (t.AStmt (stmt_view s)) a)) m n f0 f1 o0 o1
    → Does (post_did (maybe_stmt (option_map stmt_view o)) (maybe (maybe_stmt (option_map stmt_view o)) a)) m n f0 f1 o0 o1
some_post o s a m n f0 f1 o0 o1 e h = subst (λ (x : Option Stmt). Does (post_did (maybe_stmt (option_map stmt_view x)) (maybe (maybe_stmt (option_map stmt_view x)) a)) m n f0 f1 o0 o1) (sym e) h

pub none_post : (o : Option Stmt) (a : go.Around) (m : Walk) (f : List Flaw) (u : List CoreStmt) → o ≡ None → Does (post_did (maybe_stmt (option_map stmt_view o)) (maybe (maybe_stmt (option_map stmt_view o)) a)) m m f f u u
none_post o a m f u e = subst (λ (x : Option Stmt). Does (post_did (maybe_stmt (option_map stmt_view x)) (maybe (maybe_stmt (option_map stmt_view x)) a)) m m f f u u) (sym e) (nothing_does m f u)

-- ---- a walk that is ready again

module _ (ar : Around) where
  pub ready_maybe : (s : t.MaybeStmt) (a : go.Around) (m n : Walk) (f0 f1 : List Flaw) (o0 o1 : List CoreStmt) → Does (maybe s a) m n f0 f1 o0 o1 → Ready ar m → Ready ar n
  ready_maybe s a m n f0 f1 o0 o1 h r = ready_done ar (maybe s a) m n f0 f1 o0 o1 (λ w. maybe_on s a w) h r

  pub ready_block : (b : t.Block) (a : go.Around) (m n : Walk) (f0 f1 : List Flaw) (o0 o1 : List CoreStmt) → Does (block b a) m n f0 f1 o0 o1 → Ready ar m → Ready ar n
  ready_block b a m n f0 f1 o0 o1 h r = ready_done ar (block b a) m n f0 f1 o0 o1 (λ w. block_on b a w) h r

  pub ready_stmt : (s : t.Stmt) (a : go.Around) (m n : Walk) (f0 f1 : List Flaw) (o0 o1 : List CoreStmt) → Does (stmt s a) m n f0 f1 o0 o1 → Ready ar m → Ready ar n
  ready_stmt s a m n f0 f1 o0 o1 h r = ready_done ar (stmt s a) m n f0 f1 o0 o1 (λ w. stmt_on s a w) h r

  pub ready_clause : (onward : Bool) (ss : t.Stmts) (a : go.Around) (m n : Walk) (f0 f1 : List Flaw) (o0 o1 : List CoreStmt) → Does (clause_stmts onward ss a) m n f0 f1 o0 o1 → Ready ar m → Ready ar n
  ready_clause onward ss a m n f0 f1 o0 o1 h r = ready_done ar (clause_stmts onward ss a) m n f0 f1 o0 o1 (λ w. clause_on onward ss a w) h r

  pub ready_post : (s : t.MaybeStmt) (a : go.Around) (m n : Walk) (f0 f1 : List Flaw) (o0 o1 : List CoreStmt) → Does (post_did s (maybe s a)) m n f0 f1 o0 o1 → Ready ar m → Ready ar n
  ready_post s a m n f0 f1 o0 o1 h r = ready_done ar (post_did s (maybe s a)) m n f0 f1 o0 o1 (λ w. post_on s (maybe s a) w (λ v. maybe_on s a v)) h r

from_none : (d : go.Walk → Did) (a b : Walk) (f0 f1 : List Flaw) (o0 o1 : List CoreStmt) → o0 ≡ [] → Does d a b f0 f1 o0 o1 → Does d a b f0 f1 [] o1
from_none d a b f0 f1 o0 o1 e h = subst (λ (x : List CoreStmt). Does d a b f0 f1 x o1) e h

-- ---- `if`, `for` and `switch`, where what is around is known before

module _ (ar : Around) (gs : List go.Target) (a : Walk) (r : Ready ar a) where
  pub if_all : (init : t.MaybeStmt) (x : t.Expr) (y : t.Block) (other : t.MaybeStmt) (h1 h2 : List go.Target) (b c m n : Walk) (f0 f1 f2 f3 f4 : List Flaw) (o0 o1 o2 p0 p q0 q : List CoreStmt) (e : CoreExpr) → p0 ≡ [] → q0 ≡ [] → h1 ≡ gs → h2 ≡ h1 → Does (maybe init (around_of (types_of a.env) ar gs None)) a b f0 f1 o0 o1
      → ((us : List Ty) → StandsFor (table_of c.env) (core_of (condition (walk_of us b) x).answer) e) → ((us : List Ty) → map flaw_view f2 ≡ map flaw_view f1 ++ (condition (walk_of us b) x).flaws) → Passes (uses x) b c → Does (block y (around_of (types_of c.env) ar h1 None)) c m f2 f3 p0 p
      → Does (maybe other (around_of (types_of m.env) ar h2 None)) m n f3 f4 q0 q
      → ((ts : List Ty) → map (views.stmt_view ts) o2 ≡ map (views.stmt_view ts) o1 ++ core.if_ (views.expr_view ts e) (views.stmts_of (map (views.stmt_view ts) p)) (views.stmts_of (map (views.stmt_view ts) q)) ∷ []) → Does (if_did x (maybe init (around_of (types_of a.env) ar gs None)) (block y (around_of (types_of a.env) ar gs None)) (maybe other (around_of (types_of a.env) ar gs None))) a n f0 f4 o0 o2
  if_all init x y other h1 h2 b c m n f0 f1 f2 f3 f4 o0 o1 o2 p0 p q0 q e z1 z2 e1 e2 hi stands told pass hy ho made =
      let at = around_of (types_of a.env) ar gs None in
      let to_c : KeepsTrees (table_of a.env) (table_of c.env) = kept_on (table_of a.env) (table_of b.env) (table_of c.env) hi.counts hi.kept pass.kept in
      let big : size (table_of a.env) ≤ size (table_of c.env) = let u = hi.counts in let v = pass.counts in omega (arith, u, v) in
      let to_m : KeepsTrees (table_of a.env) (table_of m.env) = kept_on (table_of a.env) (table_of c.env) (table_of m.env) big to_c hy.kept in
      if_does x (maybe init at) (block y at) (maybe other at) a b c n f0 f1 f2 f4 o0 o1 o2 p q e hi stands told pass
      (both_does (block y at) (maybe other at) c m n f2 f3 f4 [] p [] q (does_before ar a (block y) gs h1 None c m f2 f3 [] p r to_c e1 (from_none (block y (around_of (types_of c.env) ar h1 None)) c m f2 f3 p0 p z1 hy)) (does_before ar a (maybe other) gs h2 None m n f3 f4 [] q r to_m (e2 ∙ e1) (from_none (maybe other (around_of (types_of m.env) ar h2 None)) m n f3 f4 q0 q z2 ho))) made

  pub for_all : (init : t.MaybeStmt) (x : t.MaybeExpr) (post : t.MaybeStmt) (y : t.Block) (label : Option (List ℕ)) (number : ℕ) (h1 h2 : List go.Target) (b c m n : Walk) (f0 f1 f2 f3 f4 : List Flaw) (o0 o1 o2 p0 p q0 q : List CoreStmt) (e : Option CoreExpr) → p0 ≡ [] → q0 ≡ [] → number ≡ a.next_label → h1 ≡ gs → h2 ≡ h1
      → Does (maybe init (around_of (types_of a.env) ar gs None)) a b f0 f1 o0 o1 → ((us ts : List Ty) → Keeps (table_of c.env) ts → bound_of (option_map (views.expr_view ts) e) ≡ condition_core (walk_of us b) x) → ((us : List Ty) → map flaw_view f2 ≡ map flaw_view f1 ++ condition_told (walk_of us b) x)
      → Passes (condition_uses x) b c → Does (post_did post (maybe post (around_of (types_of c.env) ar h1 None))) c m f2 f3 p0 p → Does (turn_in number y (around_of (types_of m.env) ar h2 label)) m n f3 f4 q0 q
      → ((ts : List Ty) → map (views.stmt_view ts) o2 ≡ map (views.stmt_view ts) o1 ++ core.loop number (bound_of (option_map (views.expr_view ts) e)) (views.stmts_of (map (views.stmt_view ts) q)) (views.stmts_of (map (views.stmt_view ts) p)) ∷ []) → Does (for_in init x post y (around_of (types_of a.env) ar gs label)) a n f0 f4 o0 o2
  for_all init x post y label number h1 h2 b c m n f0 f1 f2 f3 f4 o0 o1 o2 p0 p q0 q e z1 z2 is e1 e2 hi bound told pass hp hy made =
      let at = around_of (types_of a.env) ar gs label in
      let to_c : KeepsTrees (table_of a.env) (table_of c.env) = kept_on (table_of a.env) (table_of b.env) (table_of c.env) hi.counts hi.kept pass.kept in
      let big : size (table_of a.env) ≤ size (table_of c.env) = let u = hi.counts in let v = pass.counts in omega (arith, u, v) in
      let to_m : KeepsTrees (table_of a.env) (table_of m.env) = kept_on (table_of a.env) (table_of c.env) (table_of m.env) big to_c hp.kept in
      for_does x (maybe init (unlabeled at)) (post_in post at) (λ k. block y (with_target k true at)) number a b c n f0 f1 f2 f4 o0 o1 o2 p q e is hi bound told pass
      (both_does (post_in post at) (turn_in number y at) c m n f2 f3 f4 [] p [] q (does_before ar a (post_in post) gs h1 None c m f2 f3 [] p r to_c e1 (from_none (post_in post (around_of (types_of c.env) ar h1 None)) c m f2 f3 p0 p z1 hp)) (does_before ar a (turn_in number y) gs h2 label m n f3 f4 [] q r to_m (e2 ∙ e1) (from_none (turn_in number y (around_of (types_of m.env) ar h2 label)) m n f3 f4 q0 q z2 hy))) made

  pub switch_all : (init : t.MaybeStmt) (x : t.MaybeExpr) (cs : t.Clauses) (label : Option (List ℕ)) (number : ℕ) (tag : Tagged) (hs : List go.Target) (b c m n : Walk) (f0 f1 f2 f3 : List Flaw) (o0 o1 o2 o3 : List CoreStmt) (made : Made) → hs ≡ (record { label = number; name = label; is_loop = false }) ∷ gs
      → Does (maybe init (around_of (types_of a.env) ar gs None)) a b f0 f1 o0 o1 → IsTagged x b c f1 f2 o1 o2 tag → number ≡ c.next_label → Passes next_label c m
      → ClausesDo (clauses cs (around_of (types_of m.env) ar hs None) tag.id.0 (option_map (tree_of (types_of m.env)) tag.ty) 0 [] false) m n f2 f3 made
      → ((ts : List Ty) → map (views.stmt_view ts) o3 ≡ map (views.stmt_view ts) o2 ++ core.switch_on number (tests_of ts made.tests.items) (clauses_of (map (nodes.clause_view ts) made.clauses.items)) made.default ∷ []) → Does (switch_in init x cs (around_of (types_of a.env) ar gs label)) a n f0 f3 o0 o3
  switch_all init x cs label number tag hs b c m n f0 f1 f2 f3 o0 o1 o2 o3 made e1 hi g num p k out =
      let at = around_of (types_of a.env) ar gs label in
      let to_c : KeepsTrees (table_of a.env) (table_of c.env) = kept_on (table_of a.env) (table_of b.env) (table_of c.env) hi.counts hi.kept g.kept in
      let big : size (table_of a.env) ≤ size (table_of c.env) = let u = hi.counts in let v = g.counts in omega (arith, u, v) in
      let to_m : KeepsTrees (table_of a.env) (table_of m.env) = kept_on (table_of a.env) (table_of c.env) (table_of m.env) big to_c p.kept in
      let same : around_of (types_of m.env) ar hs None ≡ with_target number false at = ap (λ (qs : List go.Target). around_of (types_of m.env) ar qs None) e1 ∙ around_same (table_of a.env) (table_of m.env) ar ((record { label = number; name = label; is_loop = false }) ∷ gs) None to_m r.results in
      switch_does x (maybe init (unlabeled at)) (clauses_in cs at) number tag a b c m n f0 f1 f2 f3 o0 o1 o2 o3 made hi g num p
      (subst (λ (v : go.Around). ClausesDo (clauses cs v tag.id.0 (option_map (tree_of (types_of m.env)) tag.ty) 0 [] false) m n f2 f3 made) same k) out

-- one more turn: a scope of its own, inside the loop
pub turn_does : (ar : Around) (gs hs : List go.Target) (label : Option (List ℕ)) (number : ℕ) (y : t.Block) (a b c : Walk) (f0 f1 : List Flaw) (o0 o1 : List CoreStmt) → Ready ar a → hs ≡ (record { label = number; name = label; is_loop = true }) ∷ gs → Passes next_label a b
    → Does (block y (around_of (types_of b.env) ar hs None)) b c f0 f1 o0 o1 → Does (turn_in number y (around_of (types_of a.env) ar gs label)) a c f0 f1 o0 o1
turn_does ar gs hs label number y a b c f0 f1 o0 o1 r e p h =
    let at = around_of (types_of a.env) ar gs label in
    let k : Does (block y (with_target number true at)) b c f0 f1 o0 o1 = does_before ar a (block y) ((record { label = number; name = label; is_loop = true }) ∷ gs) hs None b c f0 f1 o0 o1 r p.kept e h in
    record {
      told = λ ts l. k.told ts l ∙ ap (λ (v : go.Walk). map flaw_view f0 ++ (block y (with_target number true at) v).flaws) (p.walk ts);
      core = λ ts l. k.core ts l ∙ ap (λ (v : go.Walk). map (views.stmt_view ts) o0 ++ (block y (with_target number true at) v).core) (p.walk ts);
      walk = λ ts l. k.walk ts l ∙ ap (λ (v : go.Walk). (block y (with_target number true at) v).walk) (p.walk ts);
      depth = k.depth ∙ ap (λ (v : scopes.Env). length v.blocks) p.env;
      kept = kept_on (table_of a.env) (table_of b.env) (table_of c.env) p.counts p.kept k.kept;
      counts = let u = p.counts in let v = k.counts in omega (arith, u, v);
    }

-- ---- a clause

pub falls_of : (b f last : Bool) → b ≡ (f && not last) → b ≡ true → f ≡ true
falls_of b true last p q = refl
falls_of b false last p q = absurd (cc)

pub clause_all : (ar : Around) (gs : List go.Target) (k : Clause) (tag number : ℕ) (u : Option Ty) (ks : List Const) (last onward isd had : Bool) (zs : List Stmt) (a b c : Walk) (f0 f1 f2 : List Flaw) (t0 t1 t2 : List CoreTest) (c0 c1 : List CoreClause) (d0 d1 : Option ℕ) (s : ConstSet) (p0 p : List CoreStmt) → Ready ar a → p0 ≡ []
    → onward ≡ head_onward k last → isd ≡ is_default (head_exprs k) → had ≡ is_some d0 → zs ≡ (out-Clause k).body.items → ((us : List Ty) → Tested (out-Clause k).place (case_tests (walk_of us a) tag u number (head_exprs k) ks) (is_default (head_exprs k)) had (table_of b.env) f0 f1 t0 t1 s) → Passes (uses_all (head_exprs k)) a b
    → Does (within (clause_stmts onward (stmts_of (map stmt_view zs)) (around_of (types_of b.env) ar gs None))) b c f1 f2 p0 p → t2 ≡ t1 → ((ts : List Ty) → (rest : core.Clauses) → clauses_before ts c1 rest ≡ clauses_before ts c0 (core.clause (views.stmts_of (map (views.stmt_view ts) p)) onward rest))
    → d1 ≡ first_default d0 isd number
    → ClauseDoes (out-Clause k).place (λ w. case_tests w tag u number (head_exprs k) ks) (λ w. within (clause_stmts (head_onward k last) (head_stmts k) (around_of (types_of a.env) ar gs None)) (uses_all (head_exprs k) w)) number (is_default (head_exprs k)) (is_some d0) (head_onward k last) a c f0 f2 t0 t2 c0 c1 d0 d1
clause_all ar gs k tag number u ks last onward isd had zs a b c f0 f1 f2 t0 t1 t2 c0 c1 d0 d1 s p0 p r z e1 e2 e3 e4 g h w q m n =
    let d : go.Around → go.Walk → Did = λ v. within (clause_stmts (head_onward k last) (head_stmts k) v) in
    let here = around_of (types_of b.env) ar gs None in
    let w1 : Does (d here) b c f1 f2 [] p = subst (λ (x : Bool). Does (within (clause_stmts x (head_stmts k) here)) b c f1 f2 [] p) e1 (subst (λ (xs : List Stmt). Does (within (clause_stmts onward (stmts_of (map stmt_view xs)) here)) b c f1 f2 [] p) e4 (from_none (within (clause_stmts onward (stmts_of (map stmt_view zs)) here)) b c f1 f2 p0 p z w)) in
    clause_does (out-Clause k).place tag number u (head_exprs k) ks (d (around_of (types_of a.env) ar gs None)) (is_default (head_exprs k)) (is_some d0) (head_onward k last) a b c f0 f1 f2 t0 t1 t2 c0 c1 d0 d1 s p
    (λ us. subst (λ (x : Bool). Tested (out-Clause k).place (case_tests (walk_of us a) tag u number (head_exprs k) ks) (is_default (head_exprs k)) x (table_of b.env) f0 f1 t0 t1 s) e3 (g us)) h
    (does_before ar a d gs gs None b c f1 f2 [] p r h.kept refl w1) q
    (λ ts rest. m ts rest ∙ ap (λ (x : Bool). clauses_before ts c0 (core.clause (views.stmts_of (map (views.stmt_view ts) p)) x rest)) e1) (n ∙ ap (λ (x : Bool). first_default d0 x number) e2)

-- the walk after a clause is ready for the next
pub ready_clauses : (ar : Around) (k : Clause) (v : go.Around) (last : Bool) (r : go.Walk → statements.Tests) (number : ℕ) (isd had onward : Bool) (m n : Walk) (f0 f1 : List Flaw) (t0 t1 : List CoreTest) (c0 c1 : List CoreClause) (d0 d1 : Option ℕ)
    → ClauseDoes (out-Clause k).place r (λ w. within (clause_stmts (head_onward k last) (head_stmts k) v) (uses_all (head_exprs k) w)) number isd had onward m n f0 f1 t0 t1 c0 c1 d0 d1 → Ready ar m → Ready ar n
ready_clauses ar k v last r number isd had onward m n f0 f1 t0 t1 c0 c1 d0 d1 h e = record {
  depth = let x = e.depth in let y = h.depth in omega (arith, x, y);
  plain = plain_on (scopes_of m.env) (scopes_of n.env) e.plain (ap (λ (w : go.Walk). without_last w.scopes) (h.walk (types_of n.env) (λ i l. refl)) ∙ (goes (walk_of (types_of n.env) m)).outer_kept);
  results = results_more (size (table_of m.env)) (size (table_of n.env)) h.counts ar.results e.results;
}
  where
    goes : (w : go.Walk) → GoesOn w (within (clause_stmts (head_onward k last) (head_stmts k) v) (uses_all (head_exprs k) w)).walk
    goes w = then_on w (uses_all (head_exprs k) w) _ (uses_all_on (head_exprs k) w) (within_on (clause_stmts (head_onward k last) (head_stmts k) v) (uses_all (head_exprs k) w) (clause_on (head_onward k last) (head_stmts k) v (pushed (uses_all (head_exprs k) w))))

pub turned_all : (ar : Around) (gs hs : List go.Target) (tag : Tagged) (cs : List Clause) (i left number after : ℕ) (last : Bool) (k : Clause) (old m n : Walk) (f0 f1 f2 : List Flaw) (made more : Made) → Ready ar old → IfSome tag.ty (λ j. j.0 < size (table_of old.env)) → hs ≡ gs → i < length cs → k ≡ get_or cs i k
    → last ≡ (left - 1 == 0) → after ≡ number + 1 → Turned (around_of (types_of old.env) ar gs None) tag.id.0 (option_map (tree_of (types_of old.env)) tag.ty) cs i left number old m f0 f1 made
    → ((ks : List Const) → HasAll made.seen ks → ClauseDoes (out-Clause k).place (λ w. case_tests w tag.id.0 (option_map (tree_of (types_of m.env)) tag.ty) number (head_exprs k) ks) (λ w. head_does (around_of (types_of m.env) ar hs None) k last (uses_all (head_exprs k) w)) number (is_default (head_exprs k)) (is_some made.default)
    (head_onward k last) m n f1 f2 made.tests.items more.tests.items made.clauses.items more.clauses.items made.default more.default)
    → ((us : List Ty) → (ks : List Const) → HasAll made.seen ks → HasAll more.seen (case_tests (walk_of us m) tag.id.0 (option_map (tree_of (types_of m.env)) tag.ty) number (head_exprs k) ks).seen)
    → Turned (around_of (types_of old.env) ar gs None) tag.id.0 (option_map (tree_of (types_of old.env)) tag.ty) cs (i + 1) (left - 1) after old n f0 f2 more
turned_all ar gs hs tag cs i left number after last k old m n f0 f1 f2 made more r below e1 h e z p g does seen =
    let to_m = g.does.kept in
    let at : around_of (types_of m.env) ar hs None ≡ around_of (types_of old.env) ar gs None = ap (λ (qs : List go.Target). around_of (types_of m.env) ar qs None) e1 ∙ around_same (table_of old.env) (table_of m.env) ar gs None to_m r.results in
    let ut : option_map (tree_of (types_of m.env)) tag.ty ≡ option_map (tree_of (types_of old.env)) tag.ty = tag_same (table_of old.env) (table_of m.env) tag.ty to_m below in
    turned_step (around_of (types_of old.env) ar gs None) tag.id.0 (option_map (tree_of (types_of old.env)) tag.ty) k cs i left number after last old m n f0 f1 f2 made more h e z p g
    (λ ks q.
    subst (λ (v : go.Around). ClauseDoes (out-Clause k).place (λ w. case_tests w tag.id.0 (option_map (tree_of (types_of old.env)) tag.ty) number (head_exprs k) ks) (λ w. head_does v k last (uses_all (head_exprs k) w)) number (is_default (head_exprs k)) (is_some made.default)
    (head_onward k last) m n f1 f2 made.tests.items more.tests.items made.clauses.items more.clauses.items made.default more.default) at
    (subst (λ (v : Option Ty). ClauseDoes (out-Clause k).place (λ w. case_tests w tag.id.0 v number (head_exprs k) ks) (λ w. head_does (around_of (types_of m.env) ar hs None) k last (uses_all (head_exprs k) w)) number (is_default (head_exprs k)) (is_some made.default)
    (head_onward k last) m n f1 f2 made.tests.items more.tests.items made.clauses.items more.clauses.items made.default more.default) ut (does ks q)))
    (λ us ks q. subst (λ (v : Option Ty). HasAll more.seen (case_tests (walk_of us m) tag.id.0 v number (head_exprs k) ks).seen) ut (seen us ks q))

pub same_length : (v : Vec Clause Global) (cs : List Clause) → cs ≡ v.items → vec_len v ≡ length cs
same_length v cs e = let a = v.ok.0 in let b : length cs ≡ length v.items = ap (λ (x : List Clause). length x) e in omega (arith, a, b)
