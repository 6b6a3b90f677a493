-- Statements and names that are gone through one by one.
use Rattle.std.proofs.Common.{arith, ◌≡◌, ◌<◌, ◌≤◌, ◌+◌, ◌∙◌, ℕ, zero, suc, refl, sym, ap, subst, List, [], ◌∷◌, ◌++◌, append_assoc, map, length, drop, get_or}
use Rattle.std.specs.Prelude.{Option}
use Rattle.std.proofs.lemmas.List.{append-nil}
use Rattle.std.proofs.Math.Seq.{drop-cons}
use Rattle.go_type.specs.Tree.{Ty}
use Rattle.go_type.specs.Levels.{IdsBelow}
use Rattle.go_type.specs.Table.{size, KeepsTrees}
use Rattle.go_type.specs.declared.types.TypeId.{TypeId}
use Rattle.go_type.specs.declared.table.TypeTable.{TypeTable}
use Rattle.go_core.specs.CoreTree as core
use Rattle.go_core.specs.CoreView.{expr_view, exprs_of, stmt_view, target_view}
use Rattle.go_core.specs.declared.node.CoreExpr.{CoreExpr}
use Rattle.go_core.specs.declared.statement.CoreStmt.{CoreStmt}
use Rattle.go_core.specs.declared.statement.Target.{Target}
use Rattle.go_syntax.specs.declared.tree.Name.{Name}
use Rattle.go_typing.specs.Answer as typing
use Rattle.go_operands.specs.EnvView.{table_of}
use Rattle.go_operands.specs.AnswerView.{flaw_view}
use Rattle.go_operands.specs.declared.answers.answer.Flaw.{Flaw}
use Rattle.go_typing.specs.Walk as go
use Rattle.go_typing.specs.Walk.{Did, did, and_then, is_there, redeclared}
use Rattle.go_typing.specs.Assign.{Defined}
use Rattle.go_typing.specs.Declare.{declare_stmts, declare_target}
use Rattle.go_walk.specs.WalkView.{walk_of, depth, Keeps}
use Rattle.go_walk.specs.declared.walk.walk.Walk.{Walk}
use Rattle.go_assign.specs.Outcome.{Does}
use Rattle.go_body.specs.LocalVarsSpecs.{cores_before, named}
use Rattle.go_body.specs.LocalVarsLeft.{DoesLeft, Names, DefinesLeft}

pub keeps_back : (a b : TypeTable) → KeepsTrees a b → size a ≤ size b → (ts : List Ty) → Keeps b ts → Keeps a ts
keeps_back a b k s ts h = λ i l. h i (below i l) ∙ k i l
  where
    below : (i : TypeId) → i.0 < size a → i.0 < size b
    below i l = omega (arith, s, l)

-- the same where the table is one
pub keeps_same : (a b : TypeTable) → b ≡ a → (ts : List Ty) → Keeps b ts → Keeps a ts
keeps_same a b e ts h = subst (λ (t : TypeTable). Keeps t ts) e h

pub next_at : {X : Type 0} (xs : List X) (i : ℕ) (x : X) → i < length xs → x ≡ get_or xs i x → drop i xs ≡ x ∷ drop (i + 1) xs
next_at {X} xs i x h e =
    let one : suc i ≡ i + 1 = omega arith in
    drop-cons xs i x h ∙ ap (λ (y : X). y ∷ drop (suc i) xs) (sym e) ∙ ap (λ (n : ℕ). x ∷ drop n xs) one

pub next_in : {X : Type 0} (xs : List X) (i : ℕ) (d : X) → i < length xs → drop i xs ≡ get_or xs i d ∷ drop (i + 1) xs
next_in {X} xs i d h =
    let one : suc i ≡ i + 1 = omega arith in
    drop-cons xs i d h ∙ ap (λ (n : ℕ). get_or xs i d ∷ drop n xs) one

pub past : {X : Type 0} (xs : List X) (i : ℕ) → length xs ≤ i → drop i xs ≡ []
past [] zero h = refl
past [] (suc i) h = refl
past (x ∷ xs) zero h = absurd (omega arith)
past (x ∷ xs) (suc i) h = past xs i (omega arith)

pub none_in : {X : Type 0} (xs : List X) → length xs ≡ 0 → xs ≡ []
none_in [] h = refl
none_in (x ∷ xs) h = absurd (omega (arith, h))

pub id_in : (n : ℕ) (is : List TypeId) (i : ℕ) (d : TypeId) → IdsBelow n is → i < length is → (get_or is i d).0 < n
id_in n [] i d h l = absurd (omega arith)
id_in n (j ∷ is) zero d h l = h.0
id_in n (j ∷ is) (suc i) d h l = id_in n is i d h.1 (omega arith)

-- ---- statements

pub left_begin : (d : go.Walk → Did) (a : Walk) (f : List Flaw) (o : List CoreStmt) → DoesLeft d d a a f f o o
left_begin d a f o = record { told = λ ts l. refl; core = λ ts l. refl; walk = λ ts l. refl; depth = refl; kept = λ i l. refl; counts = omega arith }

pub left_step : (all d e : go.Walk → Did) (a b c : Walk) (f0 f1 f2 : List Flaw) (o0 o1 o2 : List CoreStmt) → DoesLeft all (λ w. and_then (d w) e) a b f0 f1 o0 o1 → Does d b c f1 f2 o1 o2 → DoesLeft all e a c f0 f2 o0 o2
left_step all d e a b c f0 f1 f2 o0 o1 o2 h k = record {
  told = λ ts l.
      let v = walk_of ts b in
      ap (λ (fs : List typing.Flaw). fs ++ (e (walk_of ts c)).flaws) (k.told ts l) ∙ append_assoc (map flaw_view f1) (d v).flaws (e (walk_of ts c)).flaws
      ∙ ap (λ (w : go.Walk). map flaw_view f1 ++ ((d v).flaws ++ (e w).flaws)) (k.walk ts l) ∙ h.told ts (back ts l);
  core = λ ts l.
      let v = walk_of ts b in
      ap (λ (ss : List core.Stmt). ss ++ (e (walk_of ts c)).core) (k.core ts l) ∙ append_assoc (map (stmt_view ts) o1) (d v).core (e (walk_of ts c)).core
      ∙ ap (λ (w : go.Walk). map (stmt_view ts) o1 ++ ((d v).core ++ (e w).core)) (k.walk ts l) ∙ h.core ts (back ts l);
  walk = λ ts l. ap (λ (w : go.Walk). (e w).walk) (k.walk ts l) ∙ h.walk ts (back ts l);
  depth = k.depth ∙ h.depth;
  kept = λ i l. k.kept i (below i l) ∙ h.kept i l;
  counts = let p = h.counts in let q = k.counts in omega (arith, p, q);
}
  where
    back : (ts : List Ty) → Keeps (table_of c.env) ts → Keeps (table_of b.env) ts
    back ts l = keeps_back (table_of b.env) (table_of c.env) k.kept k.counts ts l

    below : (i : TypeId) → i.0 < size (table_of a.env) → i.0 < size (table_of b.env)
    below i l = let p = h.counts in omega (arith, p, l)

-- nothing is left
pub left_end : (all : go.Walk → Did) (a b : Walk) (f0 f1 : List Flaw) (o0 o1 : List CoreStmt) → DoesLeft all (did []) a b f0 f1 o0 o1 → Does all a b f0 f1 o0 o1
left_end all a b f0 f1 o0 o1 h = record {
  told = λ ts l. sym (append-nil (map flaw_view f1)) ∙ h.told ts l;
  core = λ ts l. sym (append-nil (map (stmt_view ts) o1)) ∙ h.core ts l;
  walk = h.walk;
  depth = h.depth;
  kept = h.kept;
  counts = h.counts;
}

pub left_as : (all d e : go.Walk → Did) (a b : Walk) (f0 f1 : List Flaw) (o0 o1 : List CoreStmt) → d ≡ e → DoesLeft all d a b f0 f1 o0 o1 → DoesLeft all e a b f0 f1 o0 o1
left_as all d e a b f0 f1 o0 o1 p h = subst (λ (x : go.Walk → Did). DoesLeft all x a b f0 f1 o0 o1) p h

-- ---- names

pub cores_join : (cs ds : List core.Expr) (after : core.Exprs) → cores_before (cs ++ ds) after ≡ cores_before cs (cores_before ds after)
cores_join [] ds after = refl
cores_join (c ∷ cs) ds after = ap (core.expr c) (cores_join cs ds after)

pub cores_none : (cs : List core.Expr) → cores_before cs core.no_exprs ≡ exprs_of cs
cores_none [] = refl
cores_none (c ∷ cs) = ap (core.expr c) (cores_none cs)

pub defines_begin : (d : go.Walk → Defined) (a : Walk) (f : List Flaw) (o : List CoreStmt) → DefinesLeft d d a a f f o o [] []
defines_begin d a f o = record { told = λ ts l. refl; core = λ ts l. refl; targets = λ ts l. refl; values = λ ts l. refl; walk = λ ts l. refl; depth = refl; table = refl }

pub defines_as : (all d e : go.Walk → Defined) (a b : Walk) (f0 f1 : List Flaw) (o0 o1 : List CoreStmt) (gs : List Target) (cs : List CoreExpr) → d ≡ e → DefinesLeft all d a b f0 f1 o0 o1 gs cs → DefinesLeft all e a b f0 f1 o0 o1 gs cs
defines_as all d e a b f0 f1 o0 o1 gs cs p h = subst (λ (x : go.Walk → Defined). DefinesLeft all x a b f0 f1 o0 o1 gs cs) p h

pub defines_step : (all others : go.Walk → Defined) (n : Name) (u : Option Ty) (fs : List typing.Flaw) (cs : List core.Expr) (a b c : Walk) (f0 f1 f2 : List Flaw) (o0 o1 o2 : List CoreStmt) (g1 g2 : List Target) (c1 c2 : List CoreExpr)
    → DefinesLeft all (named n u fs cs others) a b f0 f1 o0 o1 g1 c1 → Names n u fs cs b c f1 f2 o1 o2 g1 g2 c1 c2 → DefinesLeft all others a c f0 f2 o0 o2 g2 c2
defines_step all others n u fs cs a b c f0 f1 f2 o0 o1 o2 g1 g2 c1 c2 h k = record {
  told = λ ts l.
      let m = back ts l in
      let told = redeclared n (is_there n (walk_of ts b)) ++ fs in
      ap (λ (x : List typing.Flaw). x ++ (others (walk_of ts c)).flaws) (k.told ts) ∙ append_assoc (map flaw_view f1) told (others (walk_of ts c)).flaws
      ∙ ap (λ (x : go.Walk). map flaw_view f1 ++ (told ++ (others x).flaws)) (k.walk ts m) ∙ h.told ts m;
  core = λ ts l.
      let m = back ts l in
      let ss = declare_stmts (is_there n (walk_of ts b)) (walk_of ts b) u in
      ap (λ (xs : List core.Stmt). xs ++ (others (walk_of ts c)).before) (k.core ts m) ∙ append_assoc (map (stmt_view ts) o1) ss (others (walk_of ts c)).before
      ∙ ap (λ (x : go.Walk). map (stmt_view ts) o1 ++ (ss ++ (others x).before)) (k.walk ts m) ∙ h.core ts m;
  targets = λ ts l.
      let m = back ts l in
      let g = declare_target (is_there n (walk_of ts b)) (walk_of ts b) u in
      ap (λ (xs : List core.Target). xs ++ (others (walk_of ts c)).targets) (k.targets ts m) ∙ append_assoc (map (target_view ts) g1) (g ∷ []) (others (walk_of ts c)).targets
      ∙ ap (λ (x : go.Walk). map (target_view ts) g1 ++ (g ∷ (others x).targets)) (k.walk ts m) ∙ h.targets ts m;
  values = λ ts l.
      let m = back ts l in
      ap (λ (xs : List core.Expr). cores_before xs (others (walk_of ts c)).values) (k.values ts m) ∙ cores_join (map (expr_view ts) c1) cs (others (walk_of ts c)).values
      ∙ ap (λ (x : go.Walk). cores_before (map (expr_view ts) c1) (cores_before cs (others x).values)) (k.walk ts m) ∙ h.values ts m;
  walk = λ ts l. let m = back ts l in ap (λ (x : go.Walk). (others x).walk) (k.walk ts m) ∙ h.walk ts m;
  depth = k.depth ∙ h.depth;
  table = k.table ∙ h.table;
}
  where
    back : (ts : List Ty) → Keeps (table_of c.env) ts → Keeps (table_of b.env) ts
    back ts l = keeps_same (table_of b.env) (table_of c.env) k.table ts l
