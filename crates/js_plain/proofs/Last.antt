-- Several statements by their last one, and by their only one.
use Rattle.std.proofs.Common.{arith, rules, ◌≡◌, ◌∙◌, ℕ, suc, zero, ◌+◌, Bool, true, false, true≢false, ◌&&◌, sym, ap, refl, List, [], ◌∷◌, length, get_or, map}
use Rattle.go_type.specs.Tree.{Ty}
use Rattle.go_core.specs.CoreTree as core
use Rattle.go_core.specs.CoreView.{expr_view, stmt_view, stmt_form_view, stmts_view, stmts_of}
use Rattle.go_core.specs.declared.node.CoreExpr.{CoreExpr}
use Rattle.go_core.specs.declared.statement.CoreStmt.{CoreStmt, out-CoreStmt, fold_out-CoreStmt}
use Rattle.go_core.specs.declared.statement.CoreStmts.{CoreStmts, out-CoreStmts, fold_out-CoreStmts}
use Rattle.go_core.specs.declared.statement.CoreStmtForm.{CoreStmtForm, fold-roll-CoreStmtForm}
use Rattle.go_core.specs.declared.statement.CoreStmtForm.TheVariants as statement
use Rattle.js_plain.specs.Whole.{is_end, ends, is_if, is_one_if}

stmt_whole : (ts : List Ty) (s : CoreStmt) → stmt_view ts s ≡ stmt_form_view ts (out-CoreStmt s).form.value
stmt_whole ts s = search (rules, fold_out-CoreStmt)

stmt_at : (ts : List Ty) (s : CoreStmt) (f : CoreStmtForm) → f ≡ (out-CoreStmt s).form.value → stmt_view ts s ≡ stmt_form_view ts f
stmt_at ts s f h = stmt_whole ts s ∙ ap (stmt_form_view ts) (sym h)

stmt_Seq : (ts : List Ty) (x : CoreStmtForm) (ss : CoreStmts) → x ≡ statement.Seq ss → stmt_form_view ts x ≡ core.sequence (stmts_view ts ss)
stmt_Seq ts x ss h = rw (h, ← statement.rolls-Seq, fold-roll-CoreStmtForm)

stmt_If : (ts : List Ty) (x : CoreStmtForm) (e : CoreExpr) (a b : CoreStmts) → x ≡ statement.If e a b → stmt_form_view ts x ≡ core.if_ (expr_view ts e) (stmts_view ts a) (stmts_view ts b)
stmt_If ts x e a b h = rw (h, ← statement.rolls-If, fold-roll-CoreStmtForm)

pub list_ends : (ts : List Ty) (s : CoreStmt) (x : CoreStmtForm) (ss : CoreStmts) → x ≡ (out-CoreStmt s).form.value → x ≡ statement.Seq ss → ends (stmts_view ts ss) ≡ is_end (stmt_view ts s)
list_ends ts s x ss h k = ap is_end (sym (stmt_at ts s x h ∙ stmt_Seq ts x ss k))

and_true : (x y : Bool) → x ≡ true → y ≡ (x && y)
and_true true y e = refl
and_true false y e = absurd (true≢false (sym e))

and_false : (x y : Bool) → x ≡ false → x ≡ (x && y)
and_false true y e = absurd (true≢false e)
and_false false y e = refl

module _ (ts : List Ty) (s : CoreStmt) (x : CoreStmtForm) (e : CoreExpr) (a b : CoreStmts) (h : x ≡ (out-CoreStmt s).form.value) (k : x ≡ statement.If e a b) where
  pub both_end : ends (stmts_view ts a) ≡ true → ends (stmts_view ts b) ≡ is_end (stmt_view ts s)
  both_end w = and_true (ends (stmts_view ts a)) (ends (stmts_view ts b)) w ∙ ap is_end (sym (stmt_at ts s x h ∙ stmt_If ts x e a b k))

  pub first_goes_on : ends (stmts_view ts a) ≡ false → ends (stmts_view ts a) ≡ is_end (stmt_view ts s)
  first_goes_on w = and_false (ends (stmts_view ts a)) (ends (stmts_view ts b)) w ∙ ap is_end (sym (stmt_at ts s x h ∙ stmt_If ts x e a b k))

last_decides : {A : Type 0} (f : A → core.Stmt) (xs : List A) (i : ℕ) (d : A) → i + 1 ≡ length xs → ends (stmts_of (map f xs)) ≡ is_end (f (get_or xs i d))
last_decides f [] i d h = absurd (omega arith)
last_decides f (x ∷ []) zero d h = refl
last_decides f (x ∷ []) (suc i) d h = absurd (omega arith)
last_decides f (x ∷ y ∷ ys) zero d h = absurd (omega arith)
last_decides f (x ∷ y ∷ ys) (suc i) d h = last_decides f (y ∷ ys) i d (omega arith)

pub whole : (ts : List Ty) (ss : CoreStmts) → stmts_view ts ss ≡ stmts_of (map (stmt_view ts) (out-CoreStmts ss).items.items)
whole ts ss = search (rules, fold_out-CoreStmts)

pub ends_last : (ts : List Ty) (ss : CoreStmts) (xs : List CoreStmt) (i : ℕ) (x : CoreStmt) → xs ≡ (out-CoreStmts ss).items.items → i + 1 ≡ length xs → x ≡ get_or xs i x
    → is_end (stmt_view ts x) ≡ ends (stmts_view ts ss)
ends_last ts ss xs i x h l e =
    ap (λ (y : CoreStmt). is_end (stmt_view ts y)) e ∙ sym (last_decides (stmt_view ts) xs i x l) ∙ ap (λ (ys : List CoreStmt). ends (stmts_of (map (stmt_view ts) ys))) h
    ∙ ap ends (sym (whole ts ss))

only_decides : {A : Type 0} (f : A → core.Stmt) (xs : List A) (d : A) → length xs ≡ 1 → is_one_if (stmts_of (map f xs)) ≡ is_if (f (get_or xs 0 d))
only_decides f [] d h = absurd (omega (arith, h))
only_decides f (x ∷ []) d h = refl
only_decides f (x ∷ y ∷ ys) d h = absurd (omega (arith, h))

pub is_only : (ts : List Ty) (ss : CoreStmts) (xs : List CoreStmt) (x : CoreStmt) → xs ≡ (out-CoreStmts ss).items.items → length xs ≡ 1 → x ≡ get_or xs 0 x
    → is_if (stmt_view ts x) ≡ is_one_if (stmts_view ts ss)
is_only ts ss xs x h l e =
    ap (λ (y : CoreStmt). is_if (stmt_view ts y)) e ∙ sym (only_decides (stmt_view ts) xs x l) ∙ ap (λ (ys : List CoreStmt). is_one_if (stmts_of (map (stmt_view ts) ys))) h
    ∙ ap is_one_if (sym (whole ts ss))

others_decide : {A : Type 0} (f : A → core.Stmt) (xs : List A) → (length xs ≡ 1 → ⊥) → false ≡ is_one_if (stmts_of (map f xs))
others_decide f [] n = refl
others_decide f (x ∷ []) n = absurd (n refl)
others_decide f (x ∷ y ∷ ys) n = refl

pub is_other : (ts : List Ty) (ss : CoreStmts) (xs : List CoreStmt) → xs ≡ (out-CoreStmts ss).items.items → (length xs ≡ 1 → ⊥) → false ≡ is_one_if (stmts_view ts ss)
is_other ts ss xs h n =
    others_decide (stmt_view ts) xs n ∙ ap (λ (ys : List CoreStmt). is_one_if (stmts_of (map (stmt_view ts) ys))) h ∙ ap is_one_if (sym (whole ts ss))
