-- Statements and faults that come after those that were there.
use Rattle.std.proofs.Common.{rules, ◌≡◌, ◌<◌, ◌∙◌, ℕ, refl, sym, ap, subst, List, [], ◌∷◌, ◌++◌, append_assoc, map, Bool, true, false}
use Rattle.std.specs.Prelude.{Option, Some, None}
use Rattle.std.proofs.lemmas.List.{append-nil, map-append}
use Rattle.gj_base.specs.declared.place.Place.{Place}
use Rattle.go_type.specs.Tree.{Ty}
use Rattle.go_type.specs.Levels.{tree_of}
use Rattle.go_type.specs.Table.{places, size}
use Rattle.go_type.specs.declared.types.TypeId.{TypeId}
use Rattle.go_type.specs.declared.table.TypeTable.{TypeTable}
use Rattle.go_core.specs.CoreTree as core
use Rattle.go_core.specs.CoreView.{expr_view, exprs_view, exprs_of, stmt_view}
use Rattle.go_core.specs.declared.node.CoreExpr.{CoreExpr}
use Rattle.go_core.specs.declared.node.CoreExprs.{CoreExprs, out-CoreExprs, fold_out-CoreExprs}
use Rattle.go_core.specs.declared.statement.CoreStmt.{CoreStmt}
use Rattle.go_typing.specs.Answer as typing
use Rattle.go_typing.specs.Answer.{Answer, value, pending, type_, package_, built_in, blank, does, wrong, untyped_part}
use Rattle.go_operands.specs.AnswerView.{flaw_view}
use Rattle.go_operands.specs.declared.answers.answer.Flaw.{Flaw}
use Rattle.go_typing.specs.Expressions.{core_of}
use Rattle.go_typing.specs.Statements.{values_of}
use Rattle.go_walk.specs.WalkView.{Keeps}
use Rattle.go_walk.specs.Steady.{AreSteady}
use Rattle.go_assign.specs.Taken.{StandsFor}
use Rattle.go_assign.specs.Outcome.{Adds}
use Rattle.go_define.specs.SimpleTold.{Told, told, performed_type, performed}

-- ---- what is added

pub adds_nothing : (t : TypeTable) (f : List Flaw) (o : List CoreStmt) → Adds t [] [] f f o o
adds_nothing t f o = record { told = sym (append-nil (map flaw_view f)); core = λ ts k. sym (append-nil (map (stmt_view ts) o)) }

pub adds_flaws : (t : TypeTable) (fs : List typing.Flaw) (f0 f1 : List Flaw) (o : List CoreStmt) → map flaw_view f1 ≡ map flaw_view f0 ++ fs → Adds t fs [] f0 f1 o o
adds_flaws t fs f0 f1 o h = record { told = h; core = λ ts k. sym (append-nil (map (stmt_view ts) o)) }

pub adds_stmts : (t : TypeTable) (ss : List core.Stmt) (f : List Flaw) (o0 o1 : List CoreStmt) → ((ts : List Ty) → Keeps t ts → map (stmt_view ts) o1 ≡ map (stmt_view ts) o0 ++ ss) → Adds t [] ss f f o0 o1
adds_stmts t ss f o0 o1 h = record { told = sym (append-nil (map flaw_view f)); core = h }

-- faults before those of a statement
pub adds_further : (t : TypeTable) (gs fs : List typing.Flaw) (ss : List core.Stmt) (f0 f1 f2 : List Flaw) (o0 o1 : List CoreStmt) → map flaw_view f1 ≡ map flaw_view f0 ++ gs → Adds t fs ss f1 f2 o0 o1 → Adds t (gs ++ fs) ss f0 f2 o0 o1
adds_further t gs fs ss f0 f1 f2 o0 o1 p h = record {
  told = h.told ∙ ap (λ (x : List typing.Flaw). x ++ fs) p ∙ append_assoc (map flaw_view f0) gs fs;
  core = h.core;
}

-- one statement more
pub one_more : (old new : List CoreStmt) (s : CoreStmt) (c : List Ty → core.Stmt) → new ≡ old ++ s ∷ [] → ((ts : List Ty) → stmt_view ts s ≡ c ts) → (ts : List Ty) → map (stmt_view ts) new ≡ map (stmt_view ts) old ++ c ts ∷ []
one_more old new s c p h ts =
    ap (map (stmt_view ts)) p ∙ map-append (stmt_view ts) old (s ∷ []) ∙ ap (λ (x : core.Stmt). map (stmt_view ts) old ++ x ∷ []) (h ts)

pub stmt_more : (ts : List Ty) (old new : List CoreStmt) (s : CoreStmt) (c : core.Stmt) → new ≡ old ++ s ∷ [] → stmt_view ts s ≡ c → map (stmt_view ts) new ≡ map (stmt_view ts) old ++ c ∷ []
stmt_more ts old new s c p h = ap (map (stmt_view ts)) p ∙ map-append (stmt_view ts) old (s ∷ []) ∙ ap (λ (x : core.Stmt). map (stmt_view ts) old ++ x ∷ []) h

-- ---- calls

pub performs : (t : TypeTable) (old new : List CoreStmt) (e : CoreExpr) (c : core.Expr) (n m : ℕ) → ((ts : List Ty) → map (stmt_view ts) new ≡ map (stmt_view ts) old ++ core.perform (expr_view ts e) n ∷ []) → StandsFor t c e → n ≡ m
    → (ts : List Ty) → Keeps t ts → map (stmt_view ts) new ≡ map (stmt_view ts) old ++ core.perform c m ∷ []
performs t old new e c n m h s q ts k =
    h ts ∙ ap (λ (x : core.Expr). map (stmt_view ts) old ++ core.perform x n ∷ []) (s.stands ts k) ∙ ap (λ (x : ℕ). map (stmt_view ts) old ++ core.perform c x ∷ []) q

whole : (ts : List Ty) (es : CoreExprs) → exprs_view ts es ≡ exprs_of (map (expr_view ts) (out-CoreExprs es).items.items)
whole ts es = search (rules, fold_out-CoreExprs)

steady : (t : TypeTable) (es : CoreExprs) (n : ℕ) → n ≡ size t → AreSteady n (out-CoreExprs es).items.items → (ts : List Ty) → Keeps t ts → exprs_view ts es ≡ exprs_view (places t) es
steady t es n q a ts k = whole ts es ∙ a.same ts (places t) (λ i l. k i (subst (λ (m : ℕ). i.0 < m) q l)) ∙ sym (whole (places t) es)

pub prints : (t : TypeTable) (old new : List CoreStmt) (s : CoreStmt) (es : CoreExprs) (b : Bool) (n : ℕ) → new ≡ old ++ s ∷ [] → ((ts : List Ty) → stmt_view ts s ≡ core.print (exprs_view ts es) b)
    → n ≡ size t → AreSteady n (out-CoreExprs es).items.items → (ts : List Ty) → Keeps t ts → map (stmt_view ts) new ≡ map (stmt_view ts) old ++ core.print (exprs_view (places t) es) b ∷ []
prints t old new s es b n p h q a ts l = one_more old new s (λ us. core.print (exprs_view us es) b) p h ts ∙ ap (λ (x : core.Exprs). map (stmt_view ts) old ++ core.print x b ∷ []) (steady t es n q a ts l)

-- ---- what is performed

abbrev values_at : Option Ty → ℕ
values_at None = 0
values_at (Some u) = values_of u

typed_core : (b : Bool) (at : Place) (a : Answer) (u : Ty) → Some u ≡ performed_type b a → performed b at a ≡ told (core.perform (core_of a) (values_of u) ∷ [])
typed_core true at (value c u v) w h = ap (λ (o : Option Ty). told (core.perform c (values_at o) ∷ [])) (sym h)
typed_core true at (pending p q) w h = absurd (cc)
typed_core true at (type_ u) w h = absurd (cc)
typed_core true at (package_ p) w h = absurd (cc)
typed_core true at (built_in p) w h = absurd (cc)
typed_core true at blank w h = absurd (cc)
typed_core true at (does s) w h = absurd (cc)
typed_core true at (wrong f fs) w h = absurd (cc)
typed_core true at untyped_part w h = absurd (cc)
typed_core false at a w h = absurd (cc)

untyped_core : (b : Bool) (at : Place) (a : Answer) → None ≡ performed_type b a → performed b at a ≡ performed false at a
untyped_core true at (value c u v) h = absurd (cc)
untyped_core true at (pending p q) h = refl
untyped_core true at (type_ u) h = refl
untyped_core true at (package_ p) h = refl
untyped_core true at (built_in p) h = refl
untyped_core true at blank h = refl
untyped_core true at (does s) h = refl
untyped_core true at (wrong f fs) h = refl
untyped_core true at untyped_part h = refl
untyped_core false at a h = refl

abbrev AddsTold : TypeTable → Told → List Flaw → List Flaw → List CoreStmt → List CoreStmt → Type 0
AddsTold t d f0 f1 o0 o1 = Adds t d.flaws d.core f0 f1 o0 o1

pub adds_same : (t : TypeTable) (d e : Told) (f0 f1 : List Flaw) (o0 o1 : List CoreStmt) → d ≡ e → Adds t d.flaws d.core f0 f1 o0 o1 → Adds t e.flaws e.core f0 f1 o0 o1
adds_same t d e f0 f1 o0 o1 p h = subst (λ (x : Told). AddsTold t x f0 f1 o0 o1) p h

pub adds_performed : (t : TypeTable) (b : Bool) (at : Place) (a : Answer) (i : TypeId) (f : List Flaw) (o0 o1 : List CoreStmt) → Some (tree_of (places t) i) ≡ performed_type b a
    → ((ts : List Ty) → Keeps t ts → map (stmt_view ts) o1 ≡ map (stmt_view ts) o0 ++ core.perform (core_of a) (values_of (tree_of (places t) i)) ∷ []) → Adds t (performed b at a).flaws (performed b at a).core f f o0 o1
adds_performed t b at a i f o0 o1 p h =
    adds_same t (told (core.perform (core_of a) (values_of (tree_of (places t) i)) ∷ [])) (performed b at a) f f o0 o1 (sym (typed_core b at a (tree_of (places t) i) p)) (adds_stmts t (core.perform (core_of a) (values_of (tree_of (places t) i)) ∷ []) f o0 o1 h)

pub adds_unperformed : (t : TypeTable) (b : Bool) (at : Place) (a : Answer) (f0 f1 : List Flaw) (o0 o1 : List CoreStmt) → None ≡ performed_type b a
    → Adds t (performed false at a).flaws (performed false at a).core f0 f1 o0 o1 → Adds t (performed b at a).flaws (performed b at a).core f0 f1 o0 o1
adds_unperformed t b at a f0 f1 o0 o1 p h = adds_same t (performed false at a) (performed b at a) f0 f1 o0 o1 (sym (untyped_core b at a p)) h
