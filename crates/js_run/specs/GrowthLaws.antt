-- What was printed stays: each part of a script, each frame and the whole stack take none of it back.
use Rattle.std.proofs.Common.{◌≡◌, ◌<◌, refl, ap, sym, ◌∙◌, subst, arith, ℕ, List, [], ◌∷◌, ◌++◌, append_assoc, zero, suc, Option, Some, None, Bool, true, false, cond, slice_get, codes}
use Rattle.std.specs.Prelude.{pos}
use Rattle.std.specs.Borrow.{Bor}
use Rattle.std.proofs.lemmas.List.{append-nil}
use Rattle.gj_base.specs.Counts.{Begins}
use Rattle.js_tree.specs.Script.{Name, Expr, unary, binary, both, either, choice, call, index, length_of, pop, char_code_at, substring, decimal_of, from_char_code, Stmt, declare, assign, store, perform, push, remove, branch, while, forever, switch, return, throw, Stmts, Else, no_else, else_block, else_if, Cases, no_cases, default, case, ScriptTree}
use Rattle.js_tree.specs.Script as tree
use Rattle.js_tree.specs.Value as run
use Rattle.js_tree.specs.Value.{Value, whole, bytes, truth, nothing, object, function, Object, World, Locals, Outcome, gives, throws, over, and_then, tick, tick_from, choose, in_frame, holds, with_entry}
use Rattle.js_tree.specs.Operation.{unary_value, binary_value, same_value, element, stored, removed, pushed, popped, length_value, char_code, part_of, decimal_text, one_byte}
use Rattle.js_tree.specs.Evaluate.{Setting, setting, Scope, Called, Flow, onward, breaks, continues, returns, eval, eval_all, exec, exec_all, exec_else, exec_cases, exec_through, condition, call_value, go_on, after_turn, after_switch, is_target, set_name, set_local, is_global, frame, allocated, written, picked}
use Rattle.js_tree.specs.Ticks.{worlds, frames, world_in}
use Rattle.js_tree.specs.Steady.{steady_eval, steady_eval_all, steady_call, steady_condition, steady_exec, steady_exec_all, grows}
use Rattle.js_code.specs.Parts.{Tree, one, single, other, expr_at, exprs_at, stmt_at, stmts_at, else_at, cases_at}
use Rattle.js_value.specs.HeapSeen.{value_of, values_of}
use Rattle.js_steps.specs.declared.frames.frame.Frame.{Frame}
use Rattle.js_steps.specs.declared.frames.frame.Frame.TheVariants as waiting
use Rattle.js_steps.specs.declared.frames.frame.Use.{Use}
use Rattle.js_steps.specs.declared.frames.frame.Use.TheVariants.{Needed, Dropped}
use Rattle.js_steps.specs.Moment.{Moment, value, flow, Out, in_world, frame_in, valued, flowing, expr_does, stmt_does, stmts_do, else_does, with_value, with_flow, with_throw, with_values, given_here, popped_here, done_here, chosen, called_here, arguments_do, elements_do}
use Rattle.js_steps.specs.declared.frames.frame.Task.{Task}
use Rattle.js_steps.specs.declared.frames.frame.Task.TheVariants as next
use Rattle.js_steps.specs.PartWaits.{turn_does, expr_first, stmt_first, else_first, first_does, second_does, third_does, callee_does}
use Rattle.js_steps.specs.Stands.{moment}
use Rattle.js_run.specs.Stays.{Later, world_at, PrintsStay, ReachedBegins, TextBegins}
use Rattle.js_steps.specs.Stack.{left, back_in, caller_moment, caught_before, handled, turned, loop_label, label_of, frame_does, first_of, after_frame, resume, task_does}

pub later_same : (w : World) → Later w w
later_same w = ([], sym (append-nil w.printed))

pub later_then : (a b c : World) → Later a b → Later b c → Later a c
later_then a b c h g = (h.0 ++ g.0, g.1 ∙ ap (λ (x : List ℕ). x ++ g.0) h.1 ∙ append_assoc a.printed h.0 g.0)

valued_later : (m : Moment) (w : World) (o : Outcome World Value) → Later w (world_in worlds o) → Later w (world_at (valued m o))
valued_later m w (gives v u) h = h
valued_later m w (throws at v u) h = h
valued_later m w (over e u) h = h

flowing_later : (m : Moment) (w : World) (o : Outcome run.Frame Flow) → Later w (world_in frames o) → Later w (world_at (flowing m o))
flowing_later m w (gives f s) h = h
flowing_later m w (throws at v s) h = h
flowing_later m w (over e u) h = h

-- parts one after the other
then_later : {A B : Type 0} (w : World) (o : Outcome run.Frame A) (next : A → run.Frame → Outcome run.Frame B) → Later w (world_in frames o)
    → ((a : A) (f : run.Frame) → Later f.world (world_in frames (next a f))) → Later w (world_in frames (and_then o next))
then_later w (gives a f) next h k = later_then w f.world (world_in frames (next a f)) h (k a f)
then_later w (throws at v f) next h k = h
then_later w (over e u) next h k = h

value_later : (w : World) (o : Out) (next : Value → Moment → Out) → Later w (world_at o) → ((v : Value) (n : Moment) → Later n.world (world_at (next v n))) → Later w (world_at (with_value o next))
value_later w (gives (value v) m) next h k = later_then w m.world (world_at (next v m)) h (k v m)
value_later w (gives (flow f) m) next h k = h
value_later w (throws at v m) next h k = h
value_later w (over e u) next h k = h

flow_later : (w : World) (o : Out) (next : Flow → Moment → Out) → Later w (world_at o) → ((f : Flow) (n : Moment) → Later n.world (world_at (next f n))) → Later w (world_at (with_flow o next))
flow_later w (gives (value v) m) next h k = h
flow_later w (gives (flow f) m) next h k = later_then w m.world (world_at (next f m)) h (k f m)
flow_later w (throws at v m) next h k = h
flow_later w (over e u) next h k = h

throw_later : (w : World) (o : Out) (next : Value → Moment → Out) → Later w (world_at o) → ((v : Value) (n : Moment) → Later n.world (world_at (next v n))) → Later w (world_at (with_throw o next))
throw_later w (gives a m) next h k = h
throw_later w (throws at v m) next h k = later_then w m.world (world_at (next v m)) h (k v m)
throw_later w (over e u) next h k = h

values_later : (m : Moment) (w : World) (o : Outcome World (List Value)) (next : List Value → Moment → Out) → Later w (world_in worlds o) → ((vs : List Value) (n : Moment) → Later n.world (world_at (next vs n)))
    → Later w (world_at (with_values m o next))
values_later m w (gives vs u) next h k = later_then w u (world_at (next vs (in_world m u))) h (k vs (in_world m u))
values_later m w (throws at v u) next h k = h
values_later m w (over e u) next h k = h

called_later : (m : Moment) (at : ℕ) (u : Use) (w : World) (c : Called) → Later w (world_in worlds c) → Later w (world_at (called_here at u m c))
called_later m at Needed w (gives None x) h = h
called_later m at Needed w (gives (Some v) x) h = h
called_later m at Dropped w (gives o x) h = h
called_later m at Needed w (throws j v x) h = h
called_later m at Dropped w (throws j v x) h = h
called_later m at Needed w (over e x) h = h
called_later m at Dropped w (over e x) h = h

given_later : (m : Moment) (at : ℕ) (o : Option Value) → Later m.world (world_at (given_here at o m))
given_later m at None = later_same m.world
given_later m at (Some v) = later_same m.world

popped_later : (m : Moment) (at : ℕ) (o : Option (Value × List Object)) → Later m.world (world_at (popped_here at o m))
popped_later m at None = later_same m.world
popped_later m at (Some p) = later_same m.world

done_later : (m : Moment) (at : ℕ) (o : Option (List Object)) → Later m.world (world_at (done_here at o m))
done_later m at None = later_same m.world
done_later m at (Some os) = later_same m.world

chosen_later : (m : Moment) (at : ℕ) (v : Value) (l r : Moment → Out) → Later m.world (world_at (l m)) → Later m.world (world_at (r m)) → Later m.world (world_at (chosen at v l r m))
chosen_later m at (truth true) l r h k = h
chosen_later m at (truth false) l r h k = k
chosen_later m at (whole n) l r h k = later_same m.world
chosen_later m at (bytes s) l r h k = later_same m.world
chosen_later m at nothing l r h k = later_same m.world
chosen_later m at (object id) l r h k = later_same m.world
chosen_later m at (function x) l r h k = later_same m.world

-- in another place of the same world
back_later : (w : World) (there : Moment → Moment) (o : Out) → ((n : Moment) → (there n).world ≡ n.world) → Later w (world_at o) → Later w (world_at (back_in there o))
back_later w there (gives a m) e h = subst (Later w) (sym (e m)) h
back_later w there (throws at v m) e h = subst (Later w) (sym (e m)) h
back_later w there (over x u) e h = h

left_later : (w : World) (at : ℕ) (u : Use) (o : Out) → Later w (world_at o) → Later w (world_at (left at u o))
left_later w at u (gives (flow (returns v)) m) h = called_later m at u w (gives v m.world) h
left_later w at u (gives (flow onward) m) h = called_later m at u w (gives None m.world) h
left_later w at u (gives (flow (breaks x)) m) h = called_later m at u w (gives None m.world) h
left_later w at u (gives (flow (continues x)) m) h = called_later m at u w (gives None m.world) h
left_later w at u (gives (value v) m) h = called_later m at u w (gives None m.world) h
left_later w at u (throws x v m) h = h
left_later w at u (over e x) h = h

module _ (script : ScriptTree) (choices : List ℕ) (fuel : ℕ) where
  abbrev here : Setting
  here = setting script choices fuel

  expr_later : (e : Expr) (m : Moment) → Later m.world (world_at (expr_does here e m))
  expr_later e m = valued_later m m.world (eval here m.scope m.locals e m.world) (grows (steady_eval script choices m.scope m.locals e) fuel m.world).printed

  stmt_later : (s : Stmt) (m : Moment) → Later m.world (world_at (stmt_does here s m))
  stmt_later s m = flowing_later m m.world (exec here m.scope s (frame_in m)) (grows (steady_exec script choices m.scope s) fuel (frame_in m)).printed

  all_later : (sc : Scope) (ss : Stmts) (f : run.Frame) → Later f.world (world_in frames (exec_all here sc ss f))
  all_later sc ss f = (grows (steady_exec_all script choices sc ss) fuel f).printed

  stmts_later : (ss : Stmts) (m : Moment) → Later m.world (world_at (stmts_do here ss m))
  stmts_later ss m = flowing_later m m.world (exec_all here m.scope ss (frame_in m)) (all_later m.scope ss (frame_in m))

  other_later : (sc : Scope) (x : Else) (f : run.Frame) → Later f.world (world_in frames (exec_else here sc x f))
  other_later sc no_else f = later_same f.world
  other_later sc (else_block ss) f = all_later sc ss f
  other_later sc (else_if at test ss x) f =
      then_later f.world (condition here sc at test f) (λ t. choose t (exec_all here sc ss) (exec_else here sc x)) (grows (steady_condition script choices sc at test) fuel f).printed (by (other_later sc x))
    where
      by : ((f : run.Frame) → Later f.world (world_in frames (exec_else here sc x f))) → (t : Bool) (f : run.Frame) → Later f.world (world_in frames (choose t (exec_all here sc ss) (exec_else here sc x) f))
      by rest true f = all_later sc ss f
      by rest false f = rest f

  else_later : (x : Else) (m : Moment) → Later m.world (world_at (else_does here x m))
  else_later x m = flowing_later m m.world (exec_else here m.scope x (frame_in m)) (other_later m.scope x (frame_in m))

  go_on_later : (next : run.Frame → Outcome run.Frame Flow) → ((f : run.Frame) → Later f.world (world_in frames (next f))) → (x : Flow) (f : run.Frame) → Later f.world (world_in frames (go_on next x f))
  go_on_later next h onward f = h f
  go_on_later next h (breaks x) f = later_same f.world
  go_on_later next h (continues x) f = later_same f.world
  go_on_later next h (returns v) f = later_same f.world

  through_later : (sc : Scope) (cs : Cases) (f : run.Frame) → Later f.world (world_in frames (exec_through here sc cs f))
  through_later sc no_cases f = later_same f.world
  through_later sc (default ss) f = all_later sc ss f
  through_later sc (case n ss rest) f = then_later f.world (exec_all here sc ss f) (go_on (exec_through here sc rest)) (all_later sc ss f) (go_on_later (exec_through here sc rest) (through_later sc rest))

  jump_later : (b : Bool) (l r : run.Frame → Outcome run.Frame Flow) → ((f : run.Frame) → Later f.world (world_in frames (l f))) → ((f : run.Frame) → Later f.world (world_in frames (r f)))
      → (f : run.Frame) → Later f.world (world_in frames (choose b l r f))
  jump_later true l r h k f = h f
  jump_later false l r h k f = k f

  turn_later : (label : Option Name) (next : run.Frame → Outcome run.Frame Flow) → ((f : run.Frame) → Later f.world (world_in frames (next f))) → (x : Flow) (f : run.Frame) → Later f.world (world_in frames (after_turn label next x f))
  turn_later label next h onward f = h f
  turn_later label next h (breaks x) f = jump_later (is_target x label) (gives onward) (gives (breaks x)) (λ f. later_same f.world) (λ f. later_same f.world) f
  turn_later label next h (continues x) f = jump_later (is_target x label) next (gives (continues x)) h (λ f. later_same f.world) f
  turn_later label next h (returns v) f = later_same f.world

  switch_later : (label : Option Name) (x : Flow) (f : run.Frame) → Later f.world (world_in frames (after_switch label x f))
  switch_later label onward f = later_same f.world
  switch_later label (breaks x) f = jump_later (is_target x label) (gives onward) (gives (breaks x)) (λ f. later_same f.world) (λ f. later_same f.world) f
  switch_later label (continues x) f = later_same f.world
  switch_later label (returns v) f = later_same f.world

  arguments_later : (at : ℕ) (u : Use) (f : Value) (done : List Value) (es : tree.Exprs) (m : Moment) → Later m.world (world_at (arguments_do here at u f done es m))
  arguments_later at u f done es m =
      values_later m m.world (eval_all here m.scope m.locals es m.world) (λ vs n. called_here at u n (call_value here at f (done ++ vs) n.world)) (grows (steady_eval_all script choices m.scope m.locals es) fuel m.world).printed
      (λ vs n. called_later n at u n.world (call_value here at f (done ++ vs) n.world) (grows (steady_call script choices at f (done ++ vs)) fuel n.world).printed)

  first_expr : (e : Expr) (v : Value) (m : Moment) → Later m.world (world_at (expr_first here e v m))
  first_expr (unary at op e) v m = given_later m at (unary_value op v)
  first_expr (binary at op a b) v m =
      value_later m.world (expr_does here b m) (λ u n. given_here at (binary_value n.world.objects op v u) n) (expr_later b m) (λ u n. given_later n at (binary_value n.world.objects op v u))
  first_expr (both at a b) v m = chosen_later m at v (expr_does here b) (gives (value (truth false))) (expr_later b m) (later_same m.world)
  first_expr (either at a b) v m = chosen_later m at v (gives (value (truth true))) (expr_does here b) (later_same m.world) (expr_later b m)
  first_expr (choice at t a b) v m = chosen_later m at v (expr_does here a) (expr_does here b) (expr_later a m) (expr_later b m)
  first_expr (index at e i) v m =
      value_later m.world (expr_does here i m) (λ u n. given_here at (element n.world.objects v u) n) (expr_later i m) (λ u n. given_later n at (element n.world.objects v u))
  first_expr (length_of at e) v m = given_later m at (length_value m.world.objects v)
  first_expr (pop at e) v m = popped_later m at (popped m.world.objects v)
  first_expr (char_code_at at e i) v m = value_later m.world (expr_does here i m) (λ u n. given_here at (char_code v u) n) (expr_later i m) (λ u n. given_later n at (char_code v u))
  first_expr (substring at e i j) v m =
      value_later m.world (expr_does here i m) (λ u n. with_value (expr_does here j n) (λ x n. given_here at (part_of v u x) n)) (expr_later i m)
      (λ u n. value_later n.world (expr_does here j n) (λ x n. given_here at (part_of v u x) n) (expr_later j n) (λ x k. given_later k at (part_of v u x)))
  first_expr (decimal_of at e) v m = given_later m at (decimal_text v)
  first_expr (from_char_code at e) v m = given_later m at (one_byte v)
  first_expr _ v m = later_same m.world

  -- a variable that is set, by where it is
  abbrev set_by : ℕ → Name → Value → run.Frame → Bool → Bool → Outcome run.Frame Flow
  set_by at x v f local top =
      let set : Outcome run.Frame Flow = gives onward (frame f.locals (record f.world { globals = with_entry x v f.world.globals })) in
      let stuck : Outcome run.Frame Flow = over (run.Stuck at) f.world in
      cond local (set_local x v f) (cond top set stuck)

  set_later : (sc : Scope) (at : ℕ) (x : Name) (v : Value) (f : run.Frame) → Later f.world (world_in frames (set_name here sc at x v f))
  set_later sc at x v f = by (holds x sc.names) (is_global x script.items)
    where
      by : (local top : Bool) → Later f.world (world_in frames (set_by at x v f local top))
      by true top = later_same f.world
      by false true = later_same f.world
      by false false = later_same f.world

  -- a turn of a loop whose tick was taken, or that lacks one
  tick_later : (w : World) → Later w (world_in worlds (tick w))
  tick_later w = by w.left
    where
      by : (n : ℕ) → Later w (world_in worlds (tick_from n w))
      by zero = later_same w
      by (suc n) = later_same w

  turns_later : (s : Stmt) (label : Option Name) (ss : Stmts) (m : Moment) → Later m.world (world_at (turn_does here s label ss m))
  turns_later s label ss m = flowing_later m m.world (and_then (in_frame m.locals (tick m.world)) next) (by (tick m.world) (tick_later m.world))
    where
      next : Unit {0} → run.Frame → Outcome run.Frame Flow
      next _ f = and_then (exec_all here m.scope ss f) (after_turn label (exec here m.scope s))

      after : (f : run.Frame) → Later f.world (world_in frames (next tt f))
      after f =
          then_later f.world (exec_all here m.scope ss f) (after_turn label (exec here m.scope s)) (all_later m.scope ss f)
          (turn_later label (exec here m.scope s) (λ f. (grows (steady_exec script choices m.scope s) fuel f).printed))

      by : (o : Outcome World (Unit {0})) → Later m.world (world_in worlds o) → Later m.world (world_in frames (and_then (in_frame m.locals o) next))
      by (gives u w) h = later_then m.world w (world_in frames (next u (record { locals = m.locals; world = w }))) h (after (record { locals = m.locals; world = w }))
      by (throws j v w) h = h
      by (over e w) h = h

  cases_later : (sc : Scope) (cs : Cases) (v : Value) (f : run.Frame) → Later f.world (world_in frames (exec_cases here sc cs v f))
  cases_later sc no_cases v f = later_same f.world
  cases_later sc (default ss) v f = all_later sc ss f
  cases_later sc (case n ss rest) v f =
      jump_later (same_value v (whole (pos n))) (λ f. and_then (exec_all here sc ss f) (go_on (exec_through here sc rest))) (exec_cases here sc rest v) (through_later sc (case n ss rest)) (cases_later sc rest v) f

  first_stmt : (s : Stmt) (v : Value) (m : Moment) → Later m.world (world_at (stmt_first here s v m))
  first_stmt (declare at x e) v m = later_same m.world
  first_stmt (assign at x e) v m = flowing_later m m.world (set_name here m.scope at x v (frame_in m)) (set_later m.scope at x v (frame_in m))
  first_stmt (store at e i x) v m =
      value_later m.world (expr_does here i m) (λ k n. with_value (expr_does here x n) (λ u n. done_here at (stored n.world.objects v k u) n)) (expr_later i m)
      (λ k n. value_later n.world (expr_does here x n) (λ u n. done_here at (stored n.world.objects v k u) n) (expr_later x n) (λ u n. done_later n at (stored n.world.objects v k u)))
  first_stmt (perform at e) v m = later_same m.world
  first_stmt (push at e x) v m = value_later m.world (expr_does here x m) (λ u n. done_here at (pushed n.world.objects v u) n) (expr_later x m) (λ u n. done_later n at (pushed n.world.objects v u))
  first_stmt (remove at e k) v m = value_later m.world (expr_does here k m) (λ u n. done_here at (removed n.world.objects v u) n) (expr_later k m) (λ u n. done_later n at (removed n.world.objects v u))
  first_stmt (branch at t ss x) v m = chosen_later m at v (stmts_do here ss) (else_does here x) (stmts_later ss m) (else_later x m)
  first_stmt (while at label t ss) v m = chosen_later m at v (turn_does here (while at label t ss) label ss) (gives (flow onward)) (turns_later (while at label t ss) label ss m) (later_same m.world)
  first_stmt (switch at label e cs) v m =
      flowing_later m m.world (and_then (exec_cases here m.scope cs v (frame_in m)) (after_switch label))
      (then_later m.world (exec_cases here m.scope cs v (frame_in m)) (after_switch label) (cases_later m.scope cs v (frame_in m)) (switch_later label))
  first_stmt (return at None) v m = later_same m.world
  first_stmt (return at (Some e)) v m = later_same m.world
  first_stmt (throw at e) v m = later_same m.world
  first_stmt _ v m = later_same m.world

  first_else : (x : Else) (v : Value) (m : Moment) → Later m.world (world_at (else_first here x v m))
  first_else (else_if at t ss x) v m = chosen_later m at v (stmts_do here ss) (else_does here x) (stmts_later ss m) (else_later x m)
  first_else _ v m = later_same m.world

  first_later : (t : Option Tree) (v : Value) (m : Moment) → Later m.world (world_at (first_does here t v m))
  first_later (Some (one e)) v m = first_expr e v m
  first_later (Some (single s)) v m = first_stmt s v m
  first_later (Some (other x)) v m = first_else x v m
  first_later _ v m = later_same m.world

  second_later : (t : Option Tree) (u v : Value) (m : Moment) → Later m.world (world_at (second_does here t u v m))
  second_later (Some (one (binary at op a b))) u v m = given_later m at (binary_value m.world.objects op u v)
  second_later (Some (one (index at e i))) u v m = given_later m at (element m.world.objects u v)
  second_later (Some (one (char_code_at at e i))) u v m = given_later m at (char_code u v)
  second_later (Some (one (substring at e i j))) u v m =
      value_later m.world (expr_does here j m) (λ x n. given_here at (part_of u v x) n) (expr_later j m) (λ x n. given_later n at (part_of u v x))
  second_later (Some (single (store at e i x))) u v m =
      value_later m.world (expr_does here x m) (λ y n. done_here at (stored n.world.objects u v y) n) (expr_later x m) (λ y n. done_later n at (stored n.world.objects u v y))
  second_later (Some (single (push at e x))) u v m = done_later m at (pushed m.world.objects u v)
  second_later (Some (single (remove at e k))) u v m = done_later m at (removed m.world.objects u v)
  second_later _ u v m = later_same m.world

  third_later : (t : Option Tree) (u v x : Value) (m : Moment) → Later m.world (world_at (third_does t u v x m))
  third_later (Some (one (substring at e i j))) u v x m = given_later m at (part_of u v x)
  third_later (Some (single (store at e i y))) u v x m = done_later m at (stored m.world.objects u v x)
  third_later _ u v x m = later_same m.world

  callee_later : (u : Use) (t : Option Tree) (v : Value) (m : Moment) → Later m.world (world_at (callee_does here u t v m))
  callee_later u (Some (one (call at f es))) v m = arguments_later at u v [] es m
  callee_later u _ v m = later_same m.world

  elements_later : (done : List Value) (es : tree.Exprs) (m : Moment) → Later m.world (world_at (elements_do here done es m))
  elements_later done es m =
      values_later m m.world (eval_all here m.scope m.locals es m.world) (λ vs n. valued n (allocated (run.items (done ++ vs)) n.world)) (grows (steady_eval_all script choices m.scope m.locals es) fuel m.world).printed
      (λ vs n. later_same n.world)

  handled_later : (i : ℕ) (v : Value) (m : Moment) → Later m.world (world_at (handled here i v m))
  handled_later i v m =
      back_later m.world (λ n. record n { scope = m.scope }) (stmts_do here (stmts_at m.trees i) (record m { scope = record m.scope { caught = Some v } })) (λ n. refl)
      (stmts_later (stmts_at m.trees i) (record m { scope = record m.scope { caught = Some v } }))

  -- what a frame does takes nothing back
  frame_later : (f : Frame) (ls : Locals) (o : Out) → Later (world_at o) (world_at (frame_does here f ls o))
  frame_later (waiting.First i) ls o = value_later (world_at o) o (λ v m. first_does here (slice_get m.trees i) v m) (later_same (world_at o)) (λ v m. first_later (slice_get m.trees i) v m)
  frame_later (waiting.Second i u) ls o =
      value_later (world_at o) o (λ v m. second_does here (slice_get m.trees i) (value_of u) v m) (later_same (world_at o)) (λ v m. second_later (slice_get m.trees i) (value_of u) v m)
  frame_later (waiting.Third i u v) ls o =
      value_later (world_at o) o (λ x m. third_does (slice_get m.trees i) (value_of u) (value_of v) x m) (later_same (world_at o)) (λ x m. third_later (slice_get m.trees i) (value_of u) (value_of v) x m)
  frame_later (waiting.Callee i u) ls o = value_later (world_at o) o (λ v m. callee_does here u (slice_get m.trees i) v m) (later_same (world_at o)) (λ v m. callee_later u (slice_get m.trees i) v m)
  frame_later (waiting.Argument at u f done i) ls o =
      value_later (world_at o) o (λ v m. arguments_do here at u (value_of f) (values_of done.items ++ v ∷ []) (exprs_at m.trees i) m) (later_same (world_at o))
      (λ v m. arguments_later at u (value_of f) (values_of done.items ++ v ∷ []) (exprs_at m.trees i) m)
  frame_later (waiting.Item done i) ls o =
      value_later (world_at o) o (λ v m. elements_do here (values_of done.items ++ v ∷ []) (exprs_at m.trees i) m) (later_same (world_at o))
      (λ v m. elements_later (values_of done.items ++ v ∷ []) (exprs_at m.trees i) m)
  frame_later (waiting.Rest i) ls o =
      flow_later (world_at o) o (λ f m. flowing m (go_on (exec_all here m.scope (stmts_at m.trees i)) f (frame_in m))) (later_same (world_at o))
      (λ f m. flowing_later m m.world (go_on (exec_all here m.scope (stmts_at m.trees i)) f (frame_in m)) (go_on_later (exec_all here m.scope (stmts_at m.trees i)) (all_later m.scope (stmts_at m.trees i)) f (frame_in m)))
  frame_later (waiting.Turn i) ls o =
      flow_later (world_at o) o (λ f m. turned here (stmt_at m.trees i) f m) (later_same (world_at o))
      (λ f m. flowing_later m m.world (after_turn (loop_label (stmt_at m.trees i)) (exec here m.scope (stmt_at m.trees i)) f (frame_in m))
      (turn_later (loop_label (stmt_at m.trees i)) (exec here m.scope (stmt_at m.trees i)) (λ g. (grows (steady_exec script choices m.scope (stmt_at m.trees i)) fuel g).printed) f (frame_in m)))
  frame_later (waiting.Through i) ls o =
      flow_later (world_at o) o (λ f m. flowing m (go_on (exec_through here m.scope (cases_at m.trees i)) f (frame_in m))) (later_same (world_at o))
      (λ f m. flowing_later m m.world (go_on (exec_through here m.scope (cases_at m.trees i)) f (frame_in m)) (go_on_later (exec_through here m.scope (cases_at m.trees i)) (through_later m.scope (cases_at m.trees i)) f (frame_in m)))
  frame_later (waiting.Switch label) ls o =
      flow_later (world_at o) o (λ f m. flowing m (after_switch (label_of label) f (frame_in m))) (later_same (world_at o))
      (λ f m. flowing_later m m.world (after_switch (label_of label) f (frame_in m)) (switch_later (label_of label) f (frame_in m)))
  frame_later (waiting.Catch i) ls o = throw_later (world_at o) o (handled here i) (later_same (world_at o)) (handled_later i)
  frame_later (waiting.Caught v) ls o = back_later (world_at o) (caught_before v) o (λ n. refl) (later_same (world_at o))
  frame_later (waiting.Leave at u k) ls o = left_later (world_at o) at u (back_in (caller_moment k ls) o) (back_later (world_at o) (caller_moment k ls) o (λ n. refl) (later_same (world_at o)))

  -- nor what the stack does
  pub resume_later : (fs : List Frame) (callers : List Locals) (o : Out) → Later (world_at o) (world_at (resume here fs callers o))
  resume_later [] callers o = later_same (world_at o)
  resume_later (f ∷ fs) callers o =
      let more = resume here fs (after_frame f callers) o in
      later_then (world_at o) (world_at more) (world_at (frame_does here f (first_of callers) more)) (resume_later fs (after_frame f callers) o) (frame_later f (first_of callers) more)

  written_later : (at : ℕ) (s : List ℕ) (w : World) → Later w (world_in worlds (written at (bytes s ∷ []) w))
  written_later at s w = by w.left
    where
      by : (n : ℕ) → Later w (world_in worlds (and_then (tick_from n w) (λ _ w. let c : Called = gives None (record w { printed = w.printed ++ s }) in c)))
      by zero = later_same w
      by (suc n) = (s, refl)

  picked_later : (at k : ℕ) (w : World) → Later w (world_in worlds (picked at choices (whole (pos k) ∷ []) w))
  picked_later at k w = (grows (steady_call script choices at (function (codes "$pick")) (whole (pos k) ∷ [])) fuel w).printed

  -- nor what is done next
  pub task_later : (t : Task) (m : Moment) → Later m.world (world_at (task_does here t m))
  task_later (next.Evaluate i) m = expr_later (expr_at m.trees i) m
  task_later (next.Execute i) m = stmt_later (stmt_at m.trees i) m
  task_later (next.Statements i) m = stmts_later (stmts_at m.trees i) m
  task_later (next.Else i) m = else_later (else_at m.trees i) m
  task_later (next.Through i) m = flowing_later m m.world (exec_through here m.scope (cases_at m.trees i) (frame_in m)) (through_later m.scope (cases_at m.trees i) (frame_in m))
  task_later (next.Give v) m = later_same m.world
  task_later (next.Follow f) m = later_same m.world
  task_later (next.Throw at v) m = later_same m.world
  task_later (next.Write at u s) m = called_later m at u m.world (written at (bytes s.now ∷ []) m.world) (written_later at s.now m.world)
  task_later (next.Pick at u k) m = called_later m at u m.world (picked at choices (whole (pos k) ∷ []) m.world) (picked_later at k m.world)

pub prints_stay : PrintsStay
prints_stay script choices fuel stack callers t m =
    let st = setting script choices fuel in
    later_then m.world (world_at (task_does st t m)) (world_at (resume st stack callers (task_does st t m))) (task_later script choices fuel t m) (resume_later script choices fuel stack callers (task_does st t m))

pub reached_begins : ReachedBegins
reached_begins script choices fuel b all numbers sink sink' t r =
    subst (λ (o : Out). Begins r.before.printed (world_at o).printed) r.leads.is (prints_stay script choices fuel r.stack r.leads.variables.callers t (moment r.before r.leads.variables r.state))

-- a text is printed, where a tick is left
text_later : (m : Moment) (at : ℕ) (u : Use) (text : Bor (List ℕ)) → 0 < m.world.left
    → Begins (m.world.printed ++ text.now) (world_at (called_here at u m (written at (bytes text.now ∷ []) m.world))).printed
text_later m at u text l = by m.world.left refl l
  where
    by : (n : ℕ) → m.world.left ≡ n → 0 < n → Begins (m.world.printed ++ text.now) (world_at (called_here at u m (written at (bytes text.now ∷ []) m.world))).printed
    by zero e l = absurd (omega (arith, l))
    by (suc n) e l =
        let w : World = record m.world { left = n; printed = m.world.printed ++ text.now } in
        let c : Called = gives None w in
        let q : written at (bytes text.now ∷ []) m.world ≡ c = ap (λ (k : ℕ). let x : Called = and_then (tick_from k m.world) (λ _ v. let y : Called = gives None (record v { printed = v.printed ++ text.now }) in y) in x) e in
        subst (λ (x : Called). Later w (world_at (called_here at u m x))) (sym q) (called_later m at u w c (later_same w))

pub text_begins : TextBegins
text_begins script choices fuel b all numbers sink sink' at u text r l =
    let st = setting script choices fuel in
    let m = moment r.before r.leads.variables r.state in
    let o = task_does st (next.Write at u text) m in
    let w : World = record m.world { printed = m.world.printed ++ text.now } in
    subst (λ (x : Out). Begins (r.before.printed ++ text.now) (world_at x).printed) r.leads.is
    (later_then w (world_at o) (world_at (resume st r.stack r.leads.variables.callers o)) (text_later m at u text l) (resume_later script choices fuel r.stack r.leads.variables.callers o))
