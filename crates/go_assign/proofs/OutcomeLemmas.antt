-- What comes of statements: one after the other, after a part that moves the walk, and by what is told and stored.
use Rattle.std.proofs.Common.{arith, ◌≡◌, ◌<◌, ◌∙◌, refl, sym, ap, List, [], ◌++◌, append_assoc, map}
use Rattle.std.proofs.lemmas.List.{append-nil}
use Rattle.go_type.specs.Tree.{Ty}
use Rattle.go_type.specs.Table.{size}
use Rattle.go_type.specs.declared.types.TypeId.{TypeId}
use Rattle.go_type.specs.declared.table.TypeTable.{TypeTable}
use Rattle.go_core.specs.CoreTree as core
use Rattle.go_core.specs.CoreView.{stmt_view}
use Rattle.go_core.specs.declared.statement.CoreStmt.{CoreStmt}
use Rattle.go_typing.specs.Answer as typing
use Rattle.go_operands.specs.EnvView.{table_of}
use Rattle.go_operands.specs.AnswerView.{flaw_view}
use Rattle.go_operands.specs.declared.answers.answer.Flaw.{Flaw}
use Rattle.go_typing.specs.Walk as go
use Rattle.go_typing.specs.Walk.{Did, did, and_then, also, faulty}
use Rattle.go_walk.specs.WalkView.{walk_of, Keeps}
use Rattle.go_walk.specs.declared.walk.walk.Walk.{Walk}
use Rattle.go_assign.specs.Outcome.{Does, Adds}
use Rattle.go_assign.specs.Moves.{Moves}
use Rattle.go_assign.proofs.WalkLemmas.{keeps_back}

-- ---- statements

pub does_then : (d e : go.Walk → Did) (a b c : Walk) (f0 f1 f2 : List Flaw) (o0 o1 o2 : List CoreStmt) → Does d a b f0 f1 o0 o1 → Does e b c f1 f2 o1 o2 → Does (λ w. and_then (d w) e) a c f0 f2 o0 o2
does_then d e a b c f0 f1 f2 o0 o1 o2 h k = record {
  told = λ ts l.
      let m = back ts l in
      k.told ts l
      ∙ ap (λ (fs : List typing.Flaw). fs ++ (e (walk_of ts b)).flaws) (h.told ts m)
      ∙ append_assoc (map flaw_view f0) (d (walk_of ts a)).flaws (e (walk_of ts b)).flaws
      ∙ ap (λ (w : go.Walk). map flaw_view f0 ++ ((d (walk_of ts a)).flaws ++ (e w).flaws)) (h.walk ts m);
  core = λ ts l.
      let m = back ts l in
      k.core ts l
      ∙ ap (λ (ss : List core.Stmt). ss ++ (e (walk_of ts b)).core) (h.core ts m)
      ∙ append_assoc (map (stmt_view ts) o0) (d (walk_of ts a)).core (e (walk_of ts b)).core
      ∙ ap (λ (w : go.Walk). map (stmt_view ts) o0 ++ ((d (walk_of ts a)).core ++ (e w).core)) (h.walk ts m);
  walk = λ ts l. k.walk ts l ∙ ap (λ (w : go.Walk). (e w).walk) (h.walk ts (back ts l));
  depth = k.depth ∙ h.depth;
  kept = λ i l. k.kept i (below i l) ∙ h.kept i l;
  counts = let p = h.counts in let q = k.counts in omega (arith, p, q);
}
  where
    back : (ts : List Ty) → Keeps (table_of c.env) ts → Keeps (table_of b.env) ts
    back ts l = keeps_back (table_of b.env) (table_of c.env) k.kept k.counts ts l

    below : (i : TypeId) → i.0 < size (table_of a.env) → i.0 < size (table_of b.env)
    below i l = let p = h.counts in omega (arith, p, l)

sym_nil : {X : Type 0} (xs : List X) → xs ≡ xs ++ []
sym_nil xs = sym (append-nil xs)

pub does_nothing : (a : Walk) (fs : List Flaw) (out : List CoreStmt) → Does (did []) a a fs fs out out
does_nothing a fs out = record {
  told = λ ts l. sym_nil (map flaw_view fs);
  core = λ ts l. sym_nil (map (stmt_view ts) out);
  walk = λ ts l. refl;
  depth = refl;
  kept = λ i l. refl;
  counts = omega arith;
}

-- the same by another definition
pub does_same : (d e : go.Walk → Did) (a b : Walk) (f0 f1 : List Flaw) (o0 o1 : List CoreStmt) → ((w : go.Walk) → d w ≡ e w) → Does d a b f0 f1 o0 o1 → Does e a b f0 f1 o0 o1
does_same d e a b f0 f1 o0 o1 same h = record {
  told = λ ts l. h.told ts l ∙ ap (λ (x : Did). map flaw_view f0 ++ x.flaws) (same (walk_of ts a));
  core = λ ts l. h.core ts l ∙ ap (λ (x : Did). map (stmt_view ts) o0 ++ x.core) (same (walk_of ts a));
  walk = λ ts l. h.walk ts l ∙ ap (λ (x : Did). x.walk) (same (walk_of ts a));
  depth = h.depth;
  kept = h.kept;
  counts = h.counts;
}

-- a part that moves the walk, and then a statement
pub does_moved : (f : go.Walk → go.Walk) (d : go.Walk → Did) (a b c : Walk) (f0 f1 : List Flaw) (o0 o1 : List CoreStmt) → Moves f a b → Does d b c f0 f1 o0 o1 → Does (λ w. d (f w)) a c f0 f1 o0 o1
does_moved f d a b c f0 f1 o0 o1 m k = record {
  told = λ ts l. k.told ts l ∙ ap (λ (w : go.Walk). map flaw_view f0 ++ (d w).flaws) (m.walk ts (back ts l));
  core = λ ts l. k.core ts l ∙ ap (λ (w : go.Walk). map (stmt_view ts) o0 ++ (d w).core) (m.walk ts (back ts l));
  walk = λ ts l. k.walk ts l ∙ ap (λ (w : go.Walk). (d w).walk) (m.walk ts (back ts l));
  depth = k.depth ∙ m.depth;
  kept = λ i l. k.kept i (below i l) ∙ m.kept i l;
  counts = let p = m.counts in let q = k.counts in omega (arith, p, q);
}
  where
    back : (ts : List Ty) → Keeps (table_of c.env) ts → Keeps (table_of b.env) ts
    back ts l = keeps_back (table_of b.env) (table_of c.env) k.kept k.counts ts l

    below : (i : TypeId) → i.0 < size (table_of a.env) → i.0 < size (table_of b.env)
    below i l = let p = m.counts in omega (arith, p, l)

-- faults that are told before
pub does_also : (g : go.Walk → List typing.Flaw) (d : go.Walk → Did) (a c : Walk) (f0 f1 f2 : List Flaw) (o0 o1 : List CoreStmt) → ((ts : List Ty) → map flaw_view f1 ≡ map flaw_view f0 ++ g (walk_of ts a)) → Does d a c f1 f2 o0 o1
    → Does (λ w. also (g w) (d w)) a c f0 f2 o0 o1
does_also g d a c f0 f1 f2 o0 o1 t k = record {
  told = λ ts l. k.told ts l ∙ ap (λ (fs : List typing.Flaw). fs ++ (d (walk_of ts a)).flaws) (t ts) ∙ append_assoc (map flaw_view f0) (g (walk_of ts a)) (d (walk_of ts a)).flaws;
  core = k.core;
  walk = k.walk;
  depth = k.depth;
  kept = k.kept;
  counts = k.counts;
}

-- ---- what leaves the walk alone

pub adds_nothing : (t : TypeTable) (fs : List Flaw) (out : List CoreStmt) → Adds t [] [] fs fs out out
adds_nothing t fs out = record { told = sym_nil (map flaw_view fs); core = λ ts l. sym_nil (map (stmt_view ts) out) }

-- faults alone
pub adds_told : (t : TypeTable) (fs : List typing.Flaw) (f0 f1 : List Flaw) (out : List CoreStmt) → map flaw_view f1 ≡ map flaw_view f0 ++ fs → Adds t fs [] f0 f1 out out
adds_told t fs f0 f1 out h = record { told = h; core = λ ts l. sym_nil (map (stmt_view ts) out) }

-- faults and statements
pub adds_both : (t : TypeTable) (fs : List typing.Flaw) (ss : List core.Stmt) (f0 f1 : List Flaw) (o0 o1 : List CoreStmt) → map flaw_view f1 ≡ map flaw_view f0 ++ fs → ((ts : List Ty) → Keeps t ts → map (stmt_view ts) o1 ≡ map (stmt_view ts) o0 ++ ss)
    → Adds t fs ss f0 f1 o0 o1
adds_both t fs ss f0 f1 o0 o1 h k = record { told = h; core = k }

abbrev pub made : List core.Stmt → List typing.Flaw → go.Walk → Did
made ss fs w = record { core = ss; flaws = fs; walk = w }

-- a walk that moves, with what is told and stored beside
pub does_made : (d : go.Walk → Did) (f : go.Walk → go.Walk) (a c : Walk) (fs : List typing.Flaw) (ss : List core.Stmt) (f0 f1 : List Flaw) (o0 o1 : List CoreStmt) → Moves f a c → Adds (table_of c.env) fs ss f0 f1 o0 o1
    → ((ts : List Ty) → made ss fs (f (walk_of ts a)) ≡ d (walk_of ts a)) → Does d a c f0 f1 o0 o1
does_made d f a c fs ss f0 f1 o0 o1 m h e = record {
  told = λ ts l. h.told ∙ ap (λ (x : Did). map flaw_view f0 ++ x.flaws) (e ts);
  core = λ ts l. h.core ts l ∙ ap (λ (x : Did). map (stmt_view ts) o0 ++ x.core) (e ts);
  walk = λ ts l. m.walk ts l ∙ ap (λ (x : Did). x.walk) (e ts);
  depth = m.depth;
  kept = m.kept;
  counts = m.counts;
}
