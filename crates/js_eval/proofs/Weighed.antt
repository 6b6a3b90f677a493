-- A part weighs less than the whole.
use Rattle.std.proofs.Common.{◌≡◌, ◌∙◌, ◌<◌, ◌+◌, ◌*◌, ap, List, [], ◌∷◌, ℕ, zero, suc, arith, length, get_or, map}
use Rattle.js_tree.specs.View.{expr_view, exprs_of, stmt_view, stmts_of}
use Rattle.js_tree.specs.declared.tree.JsExpr.{JsExpr}
use Rattle.js_tree.specs.declared.tree.JsStmt.{JsStmt}
use Rattle.js_eval.specs.Weight.{expr_weight, exprs_weight, stmt_weight, stmts_weight}

pub expr_in : (es : List JsExpr) (e : JsExpr) (i : ℕ) → i < length es → e ≡ get_or es i e → expr_weight (expr_view e) < exprs_weight (exprs_of (map expr_view es))
expr_in [] e i l h = absurd (omega arith)
expr_in (x ∷ es) e zero l h = let k : expr_weight (expr_view e) ≡ expr_weight (expr_view x) = ap (λ e. expr_weight (expr_view e)) h in omega arith
expr_in (x ∷ es) e (suc i) l h = let k = expr_in es e i (omega arith) h in omega arith

pub stmt_in : (ss : List JsStmt) (s : JsStmt) (i : ℕ) → i < length ss → s ≡ get_or ss i s → stmt_weight (stmt_view s) < stmts_weight (stmts_of (map stmt_view ss))
stmt_in [] s i l h = absurd (omega arith)
stmt_in (x ∷ ss) s zero l h = let k : stmt_weight (stmt_view s) ≡ stmt_weight (stmt_view x) = ap (λ s. stmt_weight (stmt_view s)) h in omega arith
stmt_in (x ∷ ss) s (suc i) l h = let k = stmt_in ss s i (omega arith) h in omega arith

-- one call deeper, whatever the body weighs
pub falls : (d m b x : ℕ) → d ≡ m + 1 → x < b → m * b + x < d * b
falls d m b x e h = let k : d * b ≡ m * b + b = ap (λ d. d * b) e ∙ grind arith in omega arith
