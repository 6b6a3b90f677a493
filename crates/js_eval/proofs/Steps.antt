-- Lists of parts, one after the other, and calls.
use Rattle.std.proofs.Common.{◌≡◌, ◌<◌, ◌+◌, refl, ap, sym, subst, arith, ℕ, zero, suc, List, [], ◌∷◌, true, false, length, get_or, drop, map}
use Rattle.std.specs.Prelude.{Result, Ok, Err}
use Rattle.js_tree.specs.Value.{Value, World, Frame, Locals, Outcome, gives, and_then, in_frame}
use Rattle.js_tree.specs.Evaluate.{Setting, Scope, frame, exec, exec_all, go_on, Flow, onward, eval, eval_all}
use Rattle.js_tree.specs.View.{expr_view, exprs_of, stmt_view, stmts_of}
use Rattle.js_tree.specs.declared.tree.JsExpr.{JsExpr}
use Rattle.js_tree.specs.declared.tree.JsStmt.{JsStmt}
use Rattle.js_eval.specs.Limited.{Deeper}
use Rattle.js_eval.specs.declared.state.Stop.{Stop}
use Rattle.js_eval.specs.Flows.{leaves}
use Rattle.js_eval.specs.Seen.{Gives}
use Rattle.js_eval.proofs.Follows.{stops_frame}
use Rattle.js_eval.proofs.Parts.{both_of, frame_known}

pub frame_goes : {A C : Type 0} (deeper : Deeper) (view : C → A) (r : Result C Stop) (s : Frame) (w : World) (ls : Locals) (o : Outcome World Value) (b : Locals → World → Outcome World Value) (p : Value × Value) (t : World) (next : Value → Value → Frame → Outcome Frame A)
    → both_of o (b ls) ≡ gives p t → Gives deeper view r s w (next p.0 p.1 (frame ls t))
    → Gives deeper view r s w (and_then (in_frame ls o) (λ u f. and_then (in_frame f.locals (b f.locals f.world)) (λ v f. next u v f)))
frame_goes {A = A} deeper view r s w ls o b p t next h g = subst (λ (o : Outcome Frame A). Gives deeper view r s w o) (sym (frame_known ls o b p t next h)) g

-- what an expression does, it does in a call
pub gives_frame : {A C : Type 0} (deeper : Deeper) (view : C → A) (r : Result C Stop) (ls : Locals) (w : World) (o : Outcome World A)
    → Gives deeper view r w w o → Gives deeper view r (frame ls w) w (in_frame ls o)
gives_frame deeper view (Ok a) ls w o h = ap (in_frame ls) h
gives_frame deeper view (Err x) ls w o h = stops_frame deeper x ls w o h

pub drop_step : {A : Type 0} (xs : List A) (i : ℕ) (x : A) → i < length xs → x ≡ get_or xs i x → drop i xs ≡ x ∷ drop (i + 1) xs
drop_step [] i x l h = absurd (omega arith)
drop_step (y ∷ xs) zero x l h = ap (λ z. z ∷ xs) (sym h)
drop_step (y ∷ xs) (suc i) x l h = let k : suc i + 1 ≡ suc (i + 1) = omega arith in rw k (drop_step xs i x (omega arith) h)

pub stmts_step : (st : Setting) (sc : Scope) (ss : List JsStmt) (i : ℕ) (s : JsStmt) (f : Frame) → i < length ss → s ≡ get_or ss i s
    → exec_all st sc (stmts_of (map stmt_view (drop i ss))) f ≡ and_then (exec st sc (stmt_view s) f) (go_on (exec_all st sc (stmts_of (map stmt_view (drop (i + 1) ss)))))
stmts_step st sc ss i s f l h = ap (λ (ss : List JsStmt). exec_all st sc (stmts_of (map stmt_view ss)) f) (drop_step ss i s l h)

pub exprs_step : (st : Setting) (sc : Scope) (ls : Locals) (es : List JsExpr) (i : ℕ) (e : JsExpr) (w : World) → i < length es → e ≡ get_or es i e
    → eval_all st sc ls (exprs_of (map expr_view (drop i es))) w
    ≡ and_then (eval st sc ls (expr_view e) w) (λ v w. and_then (eval_all st sc ls (exprs_of (map expr_view (drop (i + 1) es))) w) (λ vs w. gives (v ∷ vs) w))
exprs_step st sc ls es i e w l h = ap (λ (es : List JsExpr). eval_all st sc ls (exprs_of (map expr_view es)) w) (drop_step es i e l h)

-- a flow that goes on
pub goes_on : (next : Frame → Outcome Frame Flow) (flow : Flow) (f : Frame) → leaves flow ≡ false → go_on next flow f ≡ next f
goes_on next onward f h = refl
goes_on next flow f h = cc

pub left : (next : Frame → Outcome Frame Flow) (flow : Flow) (f : Frame) → leaves flow ≡ true → go_on next flow f ≡ gives flow f
left next onward f h = cc
left next flow f h = refl
