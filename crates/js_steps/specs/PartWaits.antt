-- Own: what a part of a script does with the values of the expressions in it, from the first one on.
use Rattle.std.specs.Prelude.{[], Option, Some, true, false}
use Rattle.js_tree.specs.Script.{Name, Expr, unary, binary, both, either, choice, call, index, length_of, pop, char_code_at, substring, decimal_of, from_char_code, Stmt, declare, assign, store, perform, push, remove, branch, while, switch, return, throw, Stmts, Else, else_if}
use Rattle.js_tree.specs.Value.{Value, truth, Outcome, gives, throws, and_then, tick}
use Rattle.js_tree.specs.Value as run
use Rattle.js_tree.specs.Operation.{unary_value, binary_value, element, stored, removed, pushed, popped, length_value, char_code, part_of, decimal_text, one_byte}
use Rattle.js_tree.specs.Evaluate.{Setting, onward, returns, exec, exec_all, exec_cases, set_name, set_local, after_turn, after_switch}
use Rattle.js_code.specs.Parts.{Tree, one, single, other}
use Rattle.js_steps.specs.declared.frames.frame.Use.{Use}
use Rattle.js_steps.specs.Moment.{Moment, value, flow, Out, frame_in, flowing, expr_does, stmts_do, else_does, with_value, given_here, popped_here, done_here, chosen, arguments_do}

-- a turn of a loop whose condition gave true, and the loop again
abbrev pub turn_does : Setting → Stmt → Option Name → Stmts → Moment → Out
turn_does st s label ss m =
    flowing m (and_then (run.in_frame m.locals (tick m.world)) (λ _ f. and_then (exec_all st m.scope ss f) (after_turn label (exec st m.scope s))))

-- an expression with the value of the first one in it
abbrev pub expr_first : Setting → Expr → Value → Moment → Out
expr_first st (unary at op e) v m = given_here at (unary_value op v) m
expr_first st (binary at op a b) v m = with_value (expr_does st b m) (λ u m. given_here at (binary_value m.world.objects op v u) m)
expr_first st (both at a b) v m = chosen at v (expr_does st b) (gives (value (truth false))) m
expr_first st (either at a b) v m = chosen at v (gives (value (truth true))) (expr_does st b) m
expr_first st (choice at test a b) v m = chosen at v (expr_does st a) (expr_does st b) m
expr_first st (index at e i) v m = with_value (expr_does st i m) (λ u m. given_here at (element m.world.objects v u) m)
expr_first st (length_of at e) v m = given_here at (length_value m.world.objects v) m
expr_first st (pop at e) v m = popped_here at (popped m.world.objects v) m
expr_first st (char_code_at at e i) v m = with_value (expr_does st i m) (λ u m. given_here at (char_code v u) m)
expr_first st (substring at e i j) v m =
    with_value (expr_does st i m) (λ u m. with_value (expr_does st j m) (λ x m. given_here at (part_of v u x) m))
expr_first st (decimal_of at e) v m = given_here at (decimal_text v) m
expr_first st (from_char_code at e) v m = given_here at (one_byte v) m
expr_first st _ v m = gives (value v) m

-- a statement with the value of the first expression in it
abbrev pub stmt_first : Setting → Stmt → Value → Moment → Out
stmt_first st (declare at x e) v m = flowing m (set_local x v (frame_in m))
stmt_first st (assign at x e) v m = flowing m (set_name st m.scope at x v (frame_in m))
stmt_first st (store at e i x) v m =
    with_value (expr_does st i m) (λ k m. with_value (expr_does st x m) (λ u m. done_here at (stored m.world.objects v k u) m))
stmt_first st (perform at e) v m = gives (flow onward) m
stmt_first st (push at e x) v m = with_value (expr_does st x m) (λ u m. done_here at (pushed m.world.objects v u) m)
stmt_first st (remove at e k) v m = with_value (expr_does st k m) (λ u m. done_here at (removed m.world.objects v u) m)
stmt_first st (branch at test ss x) v m = chosen at v (stmts_do st ss) (else_does st x) m
stmt_first st (while at label test ss) v m = chosen at v (turn_does st (while at label test ss) label ss) (gives (flow onward)) m
stmt_first st (switch at label e cases) v m = flowing m (and_then (exec_cases st m.scope cases v (frame_in m)) (after_switch label))
stmt_first st (return at (Some e)) v m = gives (flow (returns (Some v))) m
stmt_first st (throw at e) v m = throws at v m
stmt_first st _ v m = gives (value v) m

abbrev pub else_first : Setting → Else → Value → Moment → Out
else_first st (else_if at test ss x) v m = chosen at v (stmts_do st ss) (else_does st x) m
else_first st _ v m = gives (value v) m

-- a part with the value of the first expression in it
abbrev pub first_does : Setting → Option Tree → Value → Moment → Out
first_does st (Some (one e)) v m = expr_first st e v m
first_does st (Some (single s)) v m = stmt_first st s v m
first_does st (Some (other x)) v m = else_first st x v m
first_does st _ v m = gives (value v) m

abbrev pub expr_second : Setting → Expr → (u v : Value) → Moment → Out
expr_second st (binary at op a b) u v m = given_here at (binary_value m.world.objects op u v) m
expr_second st (index at e i) u v m = given_here at (element m.world.objects u v) m
expr_second st (char_code_at at e i) u v m = given_here at (char_code u v) m
expr_second st (substring at e i j) u v m = with_value (expr_does st j m) (λ x m. given_here at (part_of u v x) m)
expr_second st _ u v m = gives (value v) m

abbrev pub stmt_second : Setting → Stmt → (u v : Value) → Moment → Out
stmt_second st (store at e i x) u v m = with_value (expr_does st x m) (λ x m. done_here at (stored m.world.objects u v x) m)
stmt_second st (push at e x) u v m = done_here at (pushed m.world.objects u v) m
stmt_second st (remove at e k) u v m = done_here at (removed m.world.objects u v) m
stmt_second st _ u v m = gives (value v) m

-- a part with the values of the first two expressions in it
abbrev pub second_does : Setting → Option Tree → (u v : Value) → Moment → Out
second_does st (Some (one e)) u v m = expr_second st e u v m
second_does st (Some (single s)) u v m = stmt_second st s u v m
second_does st _ u v m = gives (value v) m

-- a part with the values of all three expressions in it
abbrev pub third_does : Option Tree → (u v x : Value) → Moment → Out
third_does (Some (one (substring at e i j))) u v x m = given_here at (part_of u v x) m
third_does (Some (single (store at e i y))) u v x m = done_here at (stored m.world.objects u v x) m
third_does _ u v x m = gives (value x) m

-- a call with what is called
abbrev pub callee_does : Setting → Use → Option Tree → Value → Moment → Out
callee_does st u (Some (one (call at f es))) v m = arguments_do st at u v [] es m
callee_does st u _ v m = gives (value v) m
