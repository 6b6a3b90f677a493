-- The last of several statements decides whether they are terminating.
use Rattle.std.proofs.Common.{arith, rules, ◌≡◌, ◌∙◌, ℕ, suc, zero, ◌+◌, sym, ap, refl, List, [], ◌∷◌, length, get_or, map}
use Rattle.go_type.specs.Tree.{Ty}
use Rattle.go_core.specs.CoreTree as core
use Rattle.go_core.specs.CoreView.{stmt_view, stmts_view, stmts_of}
use Rattle.go_core.specs.Terminating.{is_terminating, ends_terminating}
use Rattle.go_core.specs.declared.statement.CoreStmt.{CoreStmt}
use Rattle.go_core.specs.declared.statement.CoreStmts.{CoreStmts, out-CoreStmts, fold_out-CoreStmts}

last_decides : {A : Type 0} (f : A → core.Stmt) (xs : List A) (i : ℕ) (d : A) → i + 1 ≡ length xs → ends_terminating (stmts_of (map f xs)) ≡ is_terminating (f (get_or xs i d))
last_decides f [] i d h = absurd (omega arith)
last_decides f (x ∷ []) zero d h = refl
last_decides f (x ∷ []) (suc i) d h = absurd (omega arith)
last_decides f (x ∷ y ∷ ys) zero d h = absurd (omega arith)
last_decides f (x ∷ y ∷ ys) (suc i) d h = last_decides f (y ∷ ys) i d (omega arith)

whole : (ts : List Ty) (ss : CoreStmts) → stmts_view ts ss ≡ stmts_of (map (stmt_view ts) (out-CoreStmts ss).items.items)
whole ts ss = search (rules, fold_out-CoreStmts)

pub ends_last : (ts : List Ty) (ss : CoreStmts) (xs : List CoreStmt) (i : ℕ) (x : CoreStmt) → xs ≡ (out-CoreStmts ss).items.items → i + 1 ≡ length xs → x ≡ get_or xs i x
    → is_terminating (stmt_view ts x) ≡ ends_terminating (stmts_view ts ss)
ends_last ts ss xs i x h l e =
    ap (λ (y : CoreStmt). is_terminating (stmt_view ts y)) e ∙ sym (last_decides (stmt_view ts) xs i x l) ∙ ap (λ (ys : List CoreStmt). ends_terminating (stmts_of (map (stmt_view ts) ys))) h
    ∙ ap ends_terminating (sym (whole ts ss))
