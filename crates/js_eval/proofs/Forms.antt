-- What expressions with several parts do: the values of two of them together.
use Rattle.std.proofs.Common.{◌≡◌, ◌∙◌, refl, ap, sym, arith, ℕ, Bool, true, false, Option, Some, None, List, length, ◌++◌}
use Rattle.std.specs.Prelude.{◌==◌, if◌then◌else◌, Result}
use Rattle.std.proofs.lemmas.Bool.Decides.{nat_tests}
use Rattle.js_tree.specs.Script.{Name, Item, Function, Expr, call, no_else, else_block, else_if}
use Rattle.js_tree.specs.Value.{Value, function, World, Frame, Locals, Outcome, Stuck, over, given, gives, and_then, tick}
use Rattle.js_tree.specs.Operation.{binary_value, element, char_code, part_of}
use Rattle.js_tree.specs.Evaluate as part
use Rattle.js_tree.specs.View.{expr_view, exprs_view, stmts_view, else_view}
use Rattle.js_tree.specs.declared.tree.JsExpr.{JsExpr}
use Rattle.js_tree.specs.declared.tree.ExprForm.TheVariants as form
use Rattle.js_tree.specs.declared.tree.JsElse.{JsElse, fold-roll-JsElse}
use Rattle.js_tree.specs.declared.tree.JsElse.TheVariants as form_e
use Rattle.js_tree.specs.declared.tree.JsElseIf.{out-JsElseIf, fold_out-JsElseIf}
use Rattle.js_value.specs.declared.value.value.Value as value_module
use Rattle.js_eval.specs.Limited.{Deeper}
use Rattle.js_eval.specs.declared.state.Stop.{Stop}
use Rattle.js_eval.specs.declared.state.Flow.{Flow}
use Rattle.js_eval.specs.Flows.{CompletesCall}
use Rattle.js_eval.specs.Seen.{Gives, flow_of, option_value_of}
use Rattle.js_eval.specs.Does.{is_call}
use Rattle.js_eval.proofs.Loops.{gives_as}
use Rattle.js_eval.proofs.Parts.{both_of, pair_then, call_does, call_then}
use Rattle.js_eval.proofs.Views.{view_Binary, view_Index, view_CharCodeAt, view_Substring, view_Call}

-- the values of two parts, from the left
abbrev pub both_at : part.Setting → part.Scope → Locals → Expr → Expr → World → Outcome World (Value × Value)
both_at st sc ls a b w = both_of (part.eval st sc ls a w) (part.eval st sc ls b)

pub binary_is : (st : part.Setting) (sc : part.Scope) (ls : Locals) (e : JsExpr) (op : _) (a : _) (b : _) (w : World) → e.form ≡ form.Binary op a b
    → part.eval st sc ls (expr_view e) w ≡ and_then (both_at st sc ls (expr_view a.value) (expr_view b.value) w) (λ p w. given e.at (binary_value w.objects op p.0 p.1) w)
binary_is st sc ls e op a b w h =
    ap (λ (x : Expr). part.eval st sc ls x w) (view_Binary e op a b h)
    ∙ sym (pair_then (part.eval st sc ls (expr_view a.value) w) (part.eval st sc ls (expr_view b.value)) (λ u v w. given e.at (binary_value w.objects op u v) w))

pub index_is : (st : part.Setting) (sc : part.Scope) (ls : Locals) (e : JsExpr) (a : _) (b : _) (w : World) → e.form ≡ form.Index a b
    → part.eval st sc ls (expr_view e) w ≡ and_then (both_at st sc ls (expr_view a.value) (expr_view b.value) w) (λ p w. given e.at (element w.objects p.0 p.1) w)
index_is st sc ls e a b w h =
    ap (λ (x : Expr). part.eval st sc ls x w) (view_Index e a b h)
    ∙ sym (pair_then (part.eval st sc ls (expr_view a.value) w) (part.eval st sc ls (expr_view b.value)) (λ u v w. given e.at (element w.objects u v) w))

pub char_code_is : (st : part.Setting) (sc : part.Scope) (ls : Locals) (e : JsExpr) (a : _) (b : _) (w : World) → e.form ≡ form.CharCodeAt a b
    → part.eval st sc ls (expr_view e) w ≡ and_then (both_at st sc ls (expr_view a.value) (expr_view b.value) w) (λ p w. given e.at (char_code p.0 p.1) w)
char_code_is st sc ls e a b w h =
    ap (λ (x : Expr). part.eval st sc ls x w) (view_CharCodeAt e a b h)
    ∙ sym (pair_then (part.eval st sc ls (expr_view a.value) w) (part.eval st sc ls (expr_view b.value)) (λ u v w. given e.at (char_code u v) w))

pub substring_is : (st : part.Setting) (sc : part.Scope) (ls : Locals) (e : JsExpr) (a : _) (b : _) (j : _) (w : World) → e.form ≡ form.Substring a b j
    → part.eval st sc ls (expr_view e) w
    ≡ and_then (both_at st sc ls (expr_view a.value) (expr_view b.value) w) (λ p w. and_then (part.eval st sc ls (expr_view j.value) w) (λ x w. given e.at (part_of p.0 p.1 x) w))
substring_is st sc ls e a b j w h =
    ap (λ (x : Expr). part.eval st sc ls x w) (view_Substring e a b j h)
    ∙ sym (pair_then (part.eval st sc ls (expr_view a.value) w) (part.eval st sc ls (expr_view b.value)) (λ u v w. and_then (part.eval st sc ls (expr_view j.value) w) (λ x w. given e.at (part_of u v x) w)))

pub call_is : (st : part.Setting) (sc : part.Scope) (ls : Locals) (e : JsExpr) (f : _) (es : _) (w : World) → e.form ≡ form.Call f es
    → part.eval st sc ls (expr_view e) w
    ≡ and_then (call_does (part.eval st sc ls (expr_view f.value) w) (part.eval_all st sc ls (exprs_view es)) (part.call_value st e.at)) (given e.at)
call_is st sc ls e f es w h =
    ap (λ (x : Expr). part.eval st sc ls x w) (view_Call e f es h)
    ∙ sym (call_then (part.eval st sc ls (expr_view f.value) w) (part.eval_all st sc ls (exprs_view es)) (part.call_value st e.at) (given e.at))

-- the value of what is no call is dropped
pub dropped_is : (st : part.Setting) (sc : part.Scope) (ls : Locals) (x : Expr) (w : World) → is_call x ≡ false
    → part.eval_dropped st sc ls x w ≡ and_then (part.eval st sc ls x w) (λ v w. gives (Some v) w)
dropped_is st sc ls (call at f es) w h = cc
dropped_is st sc ls x w h = refl

-- what stands after the block of an `if`
pub view_Nothing : (x : JsElse) → x ≡ form_e.Nothing → else_view x ≡ no_else
view_Nothing x h = rw (h, ← form_e.rolls-Nothing, fold-roll-JsElse)

pub view_Block : (x : JsElse) (ss : _) → x ≡ form_e.Block ss → else_view x ≡ else_block (stmts_view ss)
view_Block x ss h = rw (h, ← form_e.rolls-Block, fold-roll-JsElse)

pub view_ElseIf : (x : JsElse) (n : _) → x ≡ form_e.ElseIf n
    → else_view x ≡ else_if (out-JsElseIf n.value).at (expr_view (out-JsElseIf n.value).test) (stmts_view (out-JsElseIf n.value).body) (else_view (out-JsElseIf n.value).rest)
view_ElseIf x n h = rw (h, ← form_e.rolls-ElseIf, fold-roll-JsElse, fold_out-JsElseIf)

-- a call of a function
pub call_value_as : (st : part.Setting) (at : ℕ) (u : Value) (x y z : Name) (is : List Item) (f : Function) (vs : List Value) (w : World)
    → u ≡ function x → y ≡ x → z ≡ x → None ≡ part.host_named y → Some f ≡ part.find_function z is → is ≡ st.script.items → length vs ≡ length f.params
    → part.call_value st at u vs w ≡ and_then (tick w) (λ _ w. st.enter f vs w)
call_value_as st at u x y z is f vs w a b c n q i l =
    ap (λ (u : Value). part.call_value st at u vs w) a
    ∙ (ap (λ (h : Option part.Host). part.call_named st at h x vs w) (sym (n ∙ ap part.host_named b))
    ∙ (ap (λ (g : Option Function). part.call_function st at g vs w) (sym (q ∙ (ap (λ (z : Name). part.find_function z is) c ∙ ap (part.find_function x) i)))
    ∙ ap (λ (b : Bool). if b then and_then (tick w) (λ _ w. st.enter f vs w) else over (Stuck at) w) (same_length (length vs) (length f.params) l)))
  where
    same_length : (n m : ℕ) → n ≡ m → (n == m) ≡ true
    same_length n m h = grind (arith, nat_tests)

-- a call of a function, once its tick is taken
pub enters : (deeper : Deeper) (completion : Result Flow Stop) (r : Result (Option value_module.Value) Stop) (st : part.Setting) (f : Function) (vs : List Value) (w : World) (k : Frame) (names : List Name) (ls : Locals) (o : part.Called)
    → o ≡ part.body_does st f vs w → names ≡ f.params ++ part.declared_all f.body → ls ≡ part.bound f.params vs → CompletesCall completion r
    → Gives deeper flow_of completion k k.world (part.exec_all st (record { names = names; caught = None }) f.body (part.frame ls w))
    → Gives deeper option_value_of r k.world k.world o
enters deeper completion r st f vs w k names ls o h n l c g =
    gives_as deeper option_value_of r k.world k.world o (part.call_result (part.exec_all st (record { names = names; caught = None }) f.body (part.frame ls w)))
    (h ∙ (ap (λ (names : List Name). part.call_result (part.exec_all st (record { names = names; caught = None }) f.body (part.frame (part.bound f.params vs) w))) (sym n)
    ∙ ap (λ (ls : Locals). part.call_result (part.exec_all st (record { names = names; caught = None }) f.body (part.frame ls w))) (sym l)))
    (c deeper (part.exec_all st (record { names = names; caught = None }) f.body (part.frame ls w)) k g)
