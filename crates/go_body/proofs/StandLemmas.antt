-- A statement that isn't empty leaves one that does nothing where it leaves none.
use Rattle.std.proofs.Common.{arith, ◌≡◌, ◌+◌, ◌∙◌, ℕ, suc, refl, sym, ap, List, [], ◌∷◌, ◌++◌, map, length, Bool, true, false}
use Rattle.std.specs.Prelude.{◌==◌}
use Rattle.std.proofs.lemmas.List.{append-nil, length-append, length-map}
use Rattle.std.proofs.lemmas.Bool.Decides.{nat_tests}
use Rattle.go_type.specs.Tree.{Ty}
use Rattle.go_core.specs.CoreTree as core
use Rattle.go_core.specs.CoreView.{stmt_view, stmt_form_view, stmts_view, stmts_of}
use Rattle.go_core.specs.declared.statement.CoreStmt.{CoreStmt}
use Rattle.go_core.specs.declared.statement.CoreStmts.{CoreStmts}
use Rattle.go_core.specs.declared.statement.CoreStmtForm.{fold-roll-CoreStmtForm}
use Rattle.go_core.specs.declared.statement.CoreStmtForm.TheVariants as statement
use Rattle.go_operands.specs.declared.answers.answer.Flaw.{Flaw}
use Rattle.go_typing.specs.Walk as go
use Rattle.go_typing.specs.Walk.{Did}
use Rattle.go_typing.specs.Statements.{at_least_one, standing}
use Rattle.go_walk.specs.WalkView.{walk_of}
use Rattle.go_walk.specs.declared.walk.walk.Walk.{Walk}
use Rattle.go_assign.specs.Outcome.{Does}
use Rattle.go_body.specs.Standing.{stood}

-- ---- the statement that does nothing

seq_view : (ts : List Ty) (ss : CoreStmts) → stmt_form_view ts (statement.Seq ss) ≡ core.sequence (stmts_view ts ss)
seq_view ts ss = rw (← statement.rolls-Seq, fold-roll-CoreStmtForm)

pub nothing_view : (ts : List Ty) (ss : CoreStmts) (xs : List CoreStmt) → xs ≡ [] → stmts_view ts ss ≡ stmts_of (map (stmt_view ts) xs) → stmt_form_view ts (statement.Seq ss) ≡ core.sequence core.no_stmts
nothing_view ts ss xs e h = seq_view ts ss ∙ ap core.sequence (h ∙ ap (λ (ys : List CoreStmt). stmts_of (map (stmt_view ts) ys)) e)

-- ---- where nothing came

same_is : (m n : ℕ) → m ≡ n → (m == n) ≡ true
same_is m n h = grind (arith, nat_tests)

other_is : (m n : ℕ) → (m ≡ n → ⊥) → (m == n) ≡ false
other_is m n h = grind (arith, nat_tests)

counted : (ts : List Ty) (o0 o1 : List CoreStmt) (cs : List core.Stmt) → map (stmt_view ts) o1 ≡ map (stmt_view ts) o0 ++ cs → length o1 ≡ length o0 + length cs
counted ts o0 o1 cs h = sym (length-map o1 (stmt_view ts)) ∙ ap length h ∙ length-append (map (stmt_view ts) o0) cs ∙ ap (λ (n : ℕ). n + length cs) (length-map o0 (stmt_view ts))

stands : (ts : List Ty) (o0 o1 o2 : List CoreStmt) (cs : List core.Stmt) → map (stmt_view ts) o1 ≡ map (stmt_view ts) o0 ++ cs → map (stmt_view ts) o2 ≡ stood (length o1 == length o0) (map (stmt_view ts) o1)
    → map (stmt_view ts) o2 ≡ map (stmt_view ts) o0 ++ at_least_one cs
stands ts o0 o1 o2 [] h e =
    let n = counted ts o0 o1 [] h in
    e ∙ ap (λ (b : Bool). stood b (map (stmt_view ts) o1)) (same_is (length o1) (length o0) (omega (arith, n)))
    ∙ ap (λ (ss : List core.Stmt). ss ++ core.sequence core.no_stmts ∷ []) (h ∙ append-nil (map (stmt_view ts) o0))
stands ts o0 o1 o2 (c ∷ cs) h e =
    let n = counted ts o0 o1 (c ∷ cs) h in
    e ∙ ap (λ (b : Bool). stood b (map (stmt_view ts) o1)) (other_is (length o1) (length o0) (λ k. omega (arith, n, k))) ∙ h

pub stood_here : (ts : List Ty) (o0 o1 : List CoreStmt) (n before : ℕ) → n ≡ length o0 → n ≡ before → map (stmt_view ts) o1 ≡ map (stmt_view ts) o0 ++ core.sequence core.no_stmts ∷ [] → map (stmt_view ts) o1 ≡ stood (length o0 == before) (map (stmt_view ts) o0)
stood_here ts o0 o1 n before p q h = h ∙ sym (ap (λ (b : Bool). stood b (map (stmt_view ts) o0)) (same_is (length o0) before (sym p ∙ q)))

pub standing_does : (d : go.Walk → Did) (a b : Walk) (f0 f1 : List Flaw) (o0 o1 o2 : List CoreStmt) (before : ℕ) → before ≡ length o0 → Does d a b f0 f1 o0 o1
    → ((ts : List Ty) → map (stmt_view ts) o2 ≡ stood (length o1 == before) (map (stmt_view ts) o1)) → Does (λ w. standing (d w)) a b f0 f1 o0 o2
standing_does d a b f0 f1 o0 o1 o2 before p h e = record {
  told = h.told;
  core = λ ts l. stands ts o0 o1 o2 (d (walk_of ts a)).core (h.core ts l) (e ts ∙ ap (λ (n : ℕ). stood (length o1 == n) (map (stmt_view ts) o1)) p);
  walk = h.walk;
  depth = h.depth;
  kept = h.kept;
  counts = h.counts;
}
