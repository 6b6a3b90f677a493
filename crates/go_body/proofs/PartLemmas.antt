-- Statements with statements in them, by what their parts do.
use Rattle.std.proofs.Common.{arith, ◌≡◌, ◌<◌, ◌≤◌, ◌+◌, ◌∙◌, ℕ, refl, sym, ap, subst, List, [], ◌∷◌, ◌++◌, append_assoc, map, length}
use Rattle.std.specs.Prelude.{Option, option_map}
use Rattle.go_syntax.specs.Tree as t
use Rattle.go_type.specs.Tree.{Ty}
use Rattle.go_type.specs.Levels.{tree_of}
use Rattle.go_type.specs.Table.{places, size, KeepsTrees}
use Rattle.go_type.specs.declared.types.TypeId.{TypeId}
use Rattle.go_type.specs.declared.table.TypeTable.{TypeTable}
use Rattle.go_core.specs.CoreTree as core
use Rattle.go_core.specs.CoreView.{expr_view, stmt_view, stmts_of, bound_of}
use Rattle.go_core.specs.declared.node.CoreExpr.{CoreExpr}
use Rattle.go_core.specs.declared.statement.CoreStmt.{CoreStmt}
use Rattle.go_typing.specs.Answer as typing
use Rattle.go_typing.specs.Scopes as scopes
use Rattle.go_operands.specs.EnvView.{table_of}
use Rattle.go_operands.specs.AnswerView.{flaw_view}
use Rattle.go_operands.specs.declared.answers.answer.Flaw.{Flaw}
use Rattle.go_typing.specs.Walk as go
use Rattle.go_typing.specs.Walk.{Did, body, pushed, popped, within, uses}
use Rattle.go_typing.specs.Expressions.{condition, core_of}
use Rattle.go_typing.specs.Statements.{if_did, for_did, condition_core, condition_told, condition_uses, next_label}
use Rattle.go_walk.specs.WalkView.{walk_of, depth, Keeps}
use Rattle.go_walk.specs.declared.walk.walk.Walk.{Walk}
use Rattle.go_assign.specs.Taken.{StandsFor}
use Rattle.go_assign.specs.Outcome.{Does}
use Rattle.go_assign.specs.Passed.{Passes}
use Rattle.go_body.specs.Both.{DoesBoth}

keeps_back : (a b : TypeTable) → KeepsTrees a b → size a ≤ size b → (ts : List Ty) → Keeps b ts → Keeps a ts
keeps_back a b k s ts h = λ i l. h i (below i l) ∙ k i l
  where
    below : (i : TypeId) → i.0 < size a → i.0 < size b
    below i l = omega (arith, s, l)

abbrev tree_at : TypeId → TypeTable → Ty
tree_at i x = tree_of (places x) i

pub body_is : (ss : List core.Stmt) → body ss ≡ stmts_of ss
body_is [] = refl
body_is (s ∷ ss) = ap (core.stmt s) (body_is ss)

-- ---- a scope of its own

pub within_does : (f : go.Walk → Did) (a b c d : Walk) (f0 f1 : List Flaw) (o0 o1 : List CoreStmt) → ((ts : List Ty) → walk_of ts b ≡ pushed (walk_of ts a)) → depth b ≡ depth a + 1 → table_of b.env ≡ table_of a.env → Does f b c f0 f1 o0 o1
    → ((ts : List Ty) → walk_of ts d ≡ popped (walk_of ts c)) → depth d + 1 ≡ depth c → table_of d.env ≡ table_of c.env → Does (within f) a d f0 f1 o0 o1
within_does f a b c d f0 f1 o0 o1 wb db tb h wd dd td = record {
  told = λ ts l. h.told ts (back ts l) ∙ ap (λ (w : go.Walk). map flaw_view f0 ++ (f w).flaws) (wb ts);
  core = λ ts l. h.core ts (back ts l) ∙ ap (λ (w : go.Walk). map (stmt_view ts) o0 ++ (f w).core) (wb ts);
  walk = λ ts l. wd ts ∙ ap popped (h.walk ts (back ts l) ∙ ap (λ (w : go.Walk). (f w).walk) (wb ts));
  depth = let x = h.depth in omega (arith, db, dd, x);
  kept = λ i l. ap (tree_at i) td ∙ h.kept i (below i l) ∙ ap (tree_at i) tb;
  counts = let x : size (table_of b.env) ≡ size (table_of a.env) = ap size tb in let y : size (table_of d.env) ≡ size (table_of c.env) = ap size td in let z = h.counts in omega (arith, x, y, z);
}
  where
    back : (ts : List Ty) → Keeps (table_of d.env) ts → Keeps (table_of c.env) ts
    back ts l = subst (λ (x : TypeTable). Keeps x ts) td l

    below : (i : TypeId) → i.0 < size (table_of a.env) → i.0 < size (table_of b.env)
    below i l = let x : size (table_of b.env) ≡ size (table_of a.env) = ap size tb in omega (arith, x, l)

-- ---- two parts

pub both_does : (d e : go.Walk → Did) (a b c : Walk) (f0 f1 f2 : List Flaw) (o0 o1 p0 p1 : List CoreStmt) → Does d a b f0 f1 o0 o1 → Does e b c f1 f2 p0 p1 → DoesBoth d e a c f0 f2 o0 o1 p0 p1
both_does d e a b c f0 f1 f2 o0 o1 p0 p1 h k = record {
  told = λ ts l.
      let m = back ts l in
      k.told ts l ∙ ap (λ (fs : List typing.Flaw). fs ++ (e (walk_of ts b)).flaws) (h.told ts m) ∙ append_assoc (map flaw_view f0) (d (walk_of ts a)).flaws (e (walk_of ts b)).flaws
      ∙ ap (λ (w : go.Walk). map flaw_view f0 ++ ((d (walk_of ts a)).flaws ++ (e w).flaws)) (h.walk ts m);
  first = λ ts l. h.core ts (back ts l);
  second = λ ts l. k.core ts l ∙ ap (λ (w : go.Walk). map (stmt_view ts) p0 ++ (e w).core) (h.walk ts (back ts l));
  walk = λ ts l. k.walk ts l ∙ ap (λ (w : go.Walk). (e w).walk) (h.walk ts (back ts l));
  depth = k.depth ∙ h.depth;
  kept = λ i l. k.kept i (below i l) ∙ h.kept i l;
  counts = let p = h.counts in let q = k.counts in omega (arith, p, q);
}
  where
    back : (ts : List Ty) → Keeps (table_of c.env) ts → Keeps (table_of b.env) ts
    back ts l = keeps_back (table_of b.env) (table_of c.env) k.kept k.counts ts l

    below : (i : TypeId) → i.0 < size (table_of a.env) → i.0 < size (table_of b.env)
    below i l = let p = h.counts in omega (arith, p, l)

-- faults of three parts
told_four : (x0 x1 x2 x3 p q r s : List typing.Flaw) → x1 ≡ x0 ++ p → x2 ≡ x1 ++ q → x3 ≡ x2 ++ (r ++ s) → x3 ≡ x0 ++ (((p ++ q) ++ r) ++ s)
told_four x0 x1 x2 x3 p q r s h k m =
    m ∙ ap (λ (x : List typing.Flaw). x ++ (r ++ s)) (k ∙ ap (λ (x : List typing.Flaw). x ++ q) h ∙ append_assoc x0 p q) ∙ append_assoc x0 (p ++ q) (r ++ s) ∙ ap (λ (x : List typing.Flaw). x0 ++ x) (sym (append_assoc (p ++ q) r s))

-- ---- `if`

pub if_does : (x : t.Expr) (i y n : go.Walk → Did) (a b c d : Walk) (f0 f1 f2 f3 : List Flaw) (o0 o1 o2 p q : List CoreStmt) (e : CoreExpr) → Does i a b f0 f1 o0 o1 → ((us : List Ty) → StandsFor (table_of c.env) (core_of (condition (walk_of us b) x).answer) e)
    → ((us : List Ty) → map flaw_view f2 ≡ map flaw_view f1 ++ (condition (walk_of us b) x).flaws) → Passes (uses x) b c → DoesBoth y n c d f2 f3 [] p [] q
    → ((ts : List Ty) → map (stmt_view ts) o2 ≡ map (stmt_view ts) o1 ++ core.if_ (expr_view ts e) (stmts_of (map (stmt_view ts) p)) (stmts_of (map (stmt_view ts) q)) ∷ []) → Does (if_did x i y n) a d f0 f3 o0 o2
if_does x i y n a b c d f0 f1 f2 f3 o0 o1 o2 p q e h stands told pass k made = record {
  told = λ ts l.
      let w = walk_of ts a in
      told_four (map flaw_view f0) (map flaw_view f1) (map flaw_view f2) (map flaw_view f3) (i w).flaws (condition (i w).walk x).flaws (y (uses x (i w).walk)).flaws (n (y (uses x (i w).walk)).walk).flaws (h.told ts (to_b ts l))
      (told ts ∙ ap (λ (v : go.Walk). map flaw_view f1 ++ (condition v x).flaws) (h.walk ts (to_b ts l))) (k.told ts l ∙ ap (λ (v : go.Walk). map flaw_view f2 ++ ((y v).flaws ++ (n (y v).walk).flaws)) (at_c ts l));
  core = λ ts l.
      let w = walk_of ts a in
      let s : expr_view ts e ≡ core_of (condition (i w).walk x).answer = (stands ts).stands ts (to_c ts l) ∙ ap (λ (v : go.Walk). core_of (condition v x).answer) (h.walk ts (to_b ts l)) in
      let yes_ : stmts_of (map (stmt_view ts) p) ≡ body (y (uses x (i w).walk)).core = ap stmts_of (k.first ts l ∙ ap (λ (v : go.Walk). (y v).core) (at_c ts l)) ∙ sym (body_is (y (uses x (i w).walk)).core) in
      let no_ : stmts_of (map (stmt_view ts) q) ≡ body (n (y (uses x (i w).walk)).walk).core = ap stmts_of (k.second ts l ∙ ap (λ (v : go.Walk). (n (y v).walk).core) (at_c ts l)) ∙ sym (body_is (n (y (uses x (i w).walk)).walk).core) in
      let one : core.if_ (expr_view ts e) (stmts_of (map (stmt_view ts) p)) (stmts_of (map (stmt_view ts) q)) ≡ core.if_ (core_of (condition (i w).walk x).answer) (body (y (uses x (i w).walk)).core) (body (n (y (uses x (i w).walk)).walk).core) = λ j. core.if_ (s j) (yes_ j) (no_ j) in
      made ts ∙ ap (λ (z : core.Stmt). map (stmt_view ts) o1 ++ z ∷ []) one ∙ ap (λ (zs : List core.Stmt). zs ++ core.if_ (core_of (condition (i w).walk x).answer) (body (y (uses x (i w).walk)).core) (body (n (y (uses x (i w).walk)).walk).core) ∷ []) (h.core ts (to_b ts l))
      ∙ append_assoc (map (stmt_view ts) o0) (i w).core (core.if_ (core_of (condition (i w).walk x).answer) (body (y (uses x (i w).walk)).core) (body (n (y (uses x (i w).walk)).walk).core) ∷ []);
  walk = λ ts l. k.walk ts l ∙ ap (λ (v : go.Walk). (n (y v).walk).walk) (at_c ts l);
  depth = k.depth ∙ ap (λ (v : scopes.Env). length v.blocks) pass.env ∙ h.depth;
  kept = λ j l. k.kept j (in_c j (in_b j l)) ∙ pass.kept j (in_b j l) ∙ h.kept j l;
  counts = let u = h.counts in let v = pass.counts in let w = k.counts in omega (arith, u, v, w);
}
  where
    in_b : (j : TypeId) → j.0 < size (table_of a.env) → j.0 < size (table_of b.env)
    in_b j l = let u = h.counts in omega (arith, u, l)

    in_c : (j : TypeId) → j.0 < size (table_of b.env) → j.0 < size (table_of c.env)
    in_c j l = let u = pass.counts in omega (arith, u, l)

    to_c : (ts : List Ty) → Keeps (table_of d.env) ts → Keeps (table_of c.env) ts
    to_c ts l = keeps_back (table_of c.env) (table_of d.env) k.kept k.counts ts l

    to_b : (ts : List Ty) → Keeps (table_of d.env) ts → Keeps (table_of b.env) ts
    to_b ts l = keeps_back (table_of b.env) (table_of c.env) pass.kept pass.counts ts (to_c ts l)

    at_c : (ts : List Ty) → Keeps (table_of d.env) ts → walk_of ts c ≡ uses x (i (walk_of ts a)).walk
    at_c ts l = pass.walk ts ∙ ap (uses x) (h.walk ts (to_b ts l))

-- ---- `for`

pub for_does : (x : t.MaybeExpr) (i p : go.Walk → Did) (inside : ℕ → go.Walk → Did) (number : ℕ) (a b c d : Walk) (f0 f1 f2 f3 : List Flaw) (o0 o1 o2 q r : List CoreStmt) (e : Option CoreExpr) → number ≡ a.next_label → Does i a b f0 f1 o0 o1
    → ((us ts : List Ty) → Keeps (table_of c.env) ts → bound_of (option_map (expr_view ts) e) ≡ condition_core (walk_of us b) x) → ((us : List Ty) → map flaw_view f2 ≡ map flaw_view f1 ++ condition_told (walk_of us b) x) → Passes (condition_uses x) b c
    → DoesBoth p (λ w. inside number (next_label w)) c d f2 f3 [] q [] r
    → ((ts : List Ty) → map (stmt_view ts) o2 ≡ map (stmt_view ts) o1 ++ core.loop number (bound_of (option_map (expr_view ts) e)) (stmts_of (map (stmt_view ts) r)) (stmts_of (map (stmt_view ts) q)) ∷ []) → Does (for_did x i p inside) a d f0 f3 o0 o2
for_does x i p inside number a b c d f0 f1 f2 f3 o0 o1 o2 q r e is h bound told pass k made = record {
  told = λ ts l.
      let w = walk_of ts a in
      let v = condition_uses x (i w).walk in
      told_four (map flaw_view f0) (map flaw_view f1) (map flaw_view f2) (map flaw_view f3) (i w).flaws (condition_told (i w).walk x) (p v).flaws (inside w.next_label (next_label (p v).walk)).flaws (h.told ts (to_b ts l))
      (told ts ∙ ap (λ (z : go.Walk). map flaw_view f1 ++ condition_told z x) (h.walk ts (to_b ts l)))
      (k.told ts l ∙ ap (λ (z : go.Walk). map flaw_view f2 ++ ((p z).flaws ++ (inside number (next_label (p z).walk)).flaws)) (at_c ts l) ∙ ap (λ (m : ℕ). map flaw_view f2 ++ ((p v).flaws ++ (inside m (next_label (p v).walk)).flaws)) is);
  core = λ ts l.
      let w = walk_of ts a in
      let v = condition_uses x (i w).walk in
      let s : bound_of (option_map (expr_view ts) e) ≡ condition_core (i w).walk x = bound ts ts (to_c ts l) ∙ ap (λ (z : go.Walk). condition_core z x) (h.walk ts (to_b ts l)) in
      let turn_ : stmts_of (map (stmt_view ts) q) ≡ body (p v).core = ap stmts_of (k.first ts l ∙ ap (λ (z : go.Walk). (p z).core) (at_c ts l)) ∙ sym (body_is (p v).core) in
      let inner_ : stmts_of (map (stmt_view ts) r) ≡ body (inside w.next_label (next_label (p v).walk)).core =
      ap stmts_of (k.second ts l ∙ ap (λ (z : go.Walk). (inside number (next_label (p z).walk)).core) (at_c ts l) ∙ ap (λ (m : ℕ). (inside m (next_label (p v).walk)).core) is) ∙ sym (body_is (inside w.next_label (next_label (p v).walk)).core) in
      let one : core.loop number (bound_of (option_map (expr_view ts) e)) (stmts_of (map (stmt_view ts) r)) (stmts_of (map (stmt_view ts) q)) ≡ core.loop w.next_label (condition_core (i w).walk x) (body (inside w.next_label (next_label (p v).walk)).core) (body (p v).core) = λ j. core.loop (is j) (s j) (inner_ j) (turn_ j) in
      made ts ∙ ap (λ (z : core.Stmt). map (stmt_view ts) o1 ++ z ∷ []) one ∙ ap (λ (zs : List core.Stmt). zs ++ core.loop w.next_label (condition_core (i w).walk x) (body (inside w.next_label (next_label (p v).walk)).core) (body (p v).core) ∷ []) (h.core ts (to_b ts l))
      ∙ append_assoc (map (stmt_view ts) o0) (i w).core (core.loop w.next_label (condition_core (i w).walk x) (body (inside w.next_label (next_label (p v).walk)).core) (body (p v).core) ∷ []);
  walk = λ ts l. k.walk ts l ∙ ap (λ (z : go.Walk). (inside number (next_label (p z).walk)).walk) (at_c ts l) ∙ ap (λ (m : ℕ). (inside m (next_label (p (condition_uses x (i (walk_of ts a)).walk)).walk)).walk) is;
  depth = k.depth ∙ ap (λ (v : scopes.Env). length v.blocks) pass.env ∙ h.depth;
  kept = λ j l. k.kept j (in_c j (in_b j l)) ∙ pass.kept j (in_b j l) ∙ h.kept j l;
  counts = let u = h.counts in let v = pass.counts in let w = k.counts in omega (arith, u, v, w);
}
  where
    in_b : (j : TypeId) → j.0 < size (table_of a.env) → j.0 < size (table_of b.env)
    in_b j l = let u = h.counts in omega (arith, u, l)

    in_c : (j : TypeId) → j.0 < size (table_of b.env) → j.0 < size (table_of c.env)
    in_c j l = let u = pass.counts in omega (arith, u, l)

    to_c : (ts : List Ty) → Keeps (table_of d.env) ts → Keeps (table_of c.env) ts
    to_c ts l = keeps_back (table_of c.env) (table_of d.env) k.kept k.counts ts l

    to_b : (ts : List Ty) → Keeps (table_of d.env) ts → Keeps (table_of b.env) ts
    to_b ts l = keeps_back (table_of b.env) (table_of c.env) pass.kept pass.counts ts (to_c ts l)

    at_c : (ts : List Ty) → Keeps (table_of d.env) ts → walk_of ts c ≡ condition_uses x (i (walk_of ts a)).walk
    at_c ts l = pass.walk ts ∙ ap (condition_uses x) (h.walk ts (to_b ts l))
