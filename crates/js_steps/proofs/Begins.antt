-- What parts do is what they do with the value of the first expression in them: laws on definitions alone.
use Rattle.std.proofs.Common.{◌≡◌, refl, ap, ◌∙◌, ℕ, List, Option, Some, None, true, false}
use Rattle.std.specs.Prelude.{◌≤◌}
use Rattle.js_tree.specs.Script.{Name, Expr, unary, binary, both, either, choice, index, length_of, pop, char_code_at, substring, decimal_of, from_char_code, declare, assign, store, push, remove, branch, while, forever, switch, return, throw, Stmts, Else, else_if, Cases, ScriptTree}
use Rattle.js_tree.specs.Value as run
use Rattle.js_tree.specs.Value.{Value, whole, bytes, truth, nothing, object, function, Object, items, World, Locals, Outcome, gives, throws, over, Stuck, and_then, choose, given, tick}
use Rattle.js_tree.specs.Operation.{unary_value, binary_value, element, stored, removed, pushed, popped, length_value, char_code, part_of, decimal_text, one_byte}
use Rattle.js_tree.specs.Evaluate.{Setting, setting, Flow, onward, eval, exec, exec_all, exec_else, exec_cases, frame, truth_of, after_pop, after_turn, after_switch, set_local, set_name, done}
use Rattle.js_tree.specs.Laws.{while_does, forever_does}
use Rattle.js_steps.specs.Moment.{Moment, Out, in_world, frame_in, valued, flowing, expr_does, stmt_does, else_does, with_value, given_here, popped_here, done_here, chosen}
use Rattle.js_steps.specs.PartWaits.{turn_does, expr_first, stmt_first, else_first}

-- a value in a world
pub given_is : (m : Moment) (at : ℕ) (o : Option Value) (w : World) → valued m (given at o w) ≡ given_here at o (in_world m w)
given_is m at None w = refl
given_is m at (Some v) w = refl

valued_in : (m : Moment) (w : World) (o : Outcome World Value) → valued m o ≡ valued (in_world m w) o
valued_in m w (gives v u) = refl
valued_in m w (throws at v u) = refl
valued_in m w (over e u) = refl

-- an expression, and then on
value_goes : (m : Moment) (o : Outcome World Value) (next : Value → World → Outcome World Value) (next' : Value → Moment → Out)
    → ((v : Value) (w : World) → valued m (next v w) ≡ next' v (in_world m w)) → valued m (and_then o next) ≡ with_value (valued m o) next'
value_goes m (gives v w) next next' h = h v w
value_goes m (throws at v w) next next' h = refl
value_goes m (over e w) next next' h = refl

module _ (st : Setting) (m : Moment) where
  -- one more expression, in a world
  more : (e : Expr) (w : World) (next : Value → World → Outcome World Value) (next' : Value → Moment → Out)
      → ((v : Value) (w : World) → valued m (next v w) ≡ next' v (in_world m w)) → valued m (and_then (eval st m.scope m.locals e w) next) ≡ with_value (expr_does st e (in_world m w)) next'
  more e w next next' h =
      value_goes m (eval st m.scope m.locals e w) next next' h ∙ ap (λ o. with_value o next') (valued_in m w (eval st m.scope m.locals e w))

  here : (e : Expr) (w : World) → valued m (eval st m.scope m.locals e w) ≡ expr_does st e (in_world m w)
  here e w = valued_in m w (eval st m.scope m.locals e w)

  -- a condition, and then one of two values
  chosen_is : (at : ℕ) (v : Value) (left right : World → Outcome World Value) (left' right' : Moment → Out)
      → ((w : World) → valued m (left w) ≡ left' (in_world m w)) → ((w : World) → valued m (right w) ≡ right' (in_world m w))
      → (w : World) → valued m (and_then (truth_of at v w) (λ t. choose t left right)) ≡ chosen at v left' right' (in_world m w)
  chosen_is at (truth true) left right left' right' h k w = h w
  chosen_is at (truth false) left right left' right' h k w = k w
  chosen_is at (whole n) left right left' right' h k w = refl
  chosen_is at (bytes s) left right left' right' h k w = refl
  chosen_is at nothing left right left' right' h k w = refl
  chosen_is at (object id) left right left' right' h k w = refl
  chosen_is at (function x) left right left' right' h k w = refl

  popped_is : (at : ℕ) (o : Option (Value × List Object)) (w : World) → valued m (and_then (given at o w) after_pop) ≡ popped_here at o (in_world m w)
  popped_is at None w = refl
  popped_is at (Some p) w = refl

  pub unary_is : (at : ℕ) (op : _) (e : Expr) → expr_does st (unary at op e) m ≡ with_value (expr_does st e m) (expr_first st (unary at op e))
  unary_is at op e = value_goes m (eval st m.scope m.locals e m.world) _ _ (λ v w. given_is m at (unary_value op v) w)

  pub binary_is : (at : ℕ) (op : _) (a b : Expr) → expr_does st (binary at op a b) m ≡ with_value (expr_does st a m) (expr_first st (binary at op a b))
  binary_is at op a b = value_goes m (eval st m.scope m.locals a m.world) _ _ (λ u w. more b w _ _ (λ v w. given_is m at (binary_value w.objects op u v) w))

  pub both_is : (at : ℕ) (a b : Expr) → expr_does st (both at a b) m ≡ with_value (expr_does st a m) (expr_first st (both at a b))
  both_is at a b = value_goes m (eval st m.scope m.locals a m.world) _ _ (λ u w. chosen_is at u _ _ _ _ (here b) (λ w. refl) w)

  pub either_is : (at : ℕ) (a b : Expr) → expr_does st (either at a b) m ≡ with_value (expr_does st a m) (expr_first st (either at a b))
  either_is at a b = value_goes m (eval st m.scope m.locals a m.world) _ _ (λ u w. chosen_is at u _ _ _ _ (λ w. refl) (here b) w)

  pub choice_is : (at : ℕ) (t a b : Expr) → expr_does st (choice at t a b) m ≡ with_value (expr_does st t m) (expr_first st (choice at t a b))
  choice_is at t a b = value_goes m (eval st m.scope m.locals t m.world) _ _ (λ u w. chosen_is at u _ _ _ _ (here a) (here b) w)

  pub index_is : (at : ℕ) (a b : Expr) → expr_does st (index at a b) m ≡ with_value (expr_does st a m) (expr_first st (index at a b))
  index_is at a b = value_goes m (eval st m.scope m.locals a m.world) _ _ (λ u w. more b w _ _ (λ v w. given_is m at (element w.objects u v) w))

  pub length_is : (at : ℕ) (e : Expr) → expr_does st (length_of at e) m ≡ with_value (expr_does st e m) (expr_first st (length_of at e))
  length_is at e = value_goes m (eval st m.scope m.locals e m.world) _ _ (λ v w. given_is m at (length_value w.objects v) w)

  pub pop_is : (at : ℕ) (e : Expr) → expr_does st (pop at e) m ≡ with_value (expr_does st e m) (expr_first st (pop at e))
  pop_is at e = value_goes m (eval st m.scope m.locals e m.world) _ _ (λ v w. popped_is at (popped w.objects v) w)

  pub char_code_is : (at : ℕ) (a b : Expr) → expr_does st (char_code_at at a b) m ≡ with_value (expr_does st a m) (expr_first st (char_code_at at a b))
  char_code_is at a b = value_goes m (eval st m.scope m.locals a m.world) _ _ (λ u w. more b w _ _ (λ v w. given_is m at (char_code u v) w))

  pub substring_is : (at : ℕ) (a b c : Expr) → expr_does st (substring at a b c) m ≡ with_value (expr_does st a m) (expr_first st (substring at a b c))
  substring_is at a b c =
      value_goes m (eval st m.scope m.locals a m.world) _ _ (λ u w. more b w _ _ (λ v w. more c w _ _ (λ x w. given_is m at (part_of u v x) w)))

  pub decimal_is : (at : ℕ) (e : Expr) → expr_does st (decimal_of at e) m ≡ with_value (expr_does st e m) (expr_first st (decimal_of at e))
  decimal_is at e = value_goes m (eval st m.scope m.locals e m.world) _ _ (λ v w. given_is m at (decimal_text v) w)

  pub byte_is : (at : ℕ) (e : Expr) → expr_does st (from_char_code at e) m ≡ with_value (expr_does st e m) (expr_first st (from_char_code at e))
  byte_is at e = value_goes m (eval st m.scope m.locals e m.world) _ _ (λ v w. given_is m at (one_byte v) w)

-- a statement's outcome in another world
pub flowing_in : (m : Moment) (w : World) (o : Outcome run.Frame Flow) → flowing m o ≡ flowing (in_world m w) o
flowing_in m w (gives f s) = refl
flowing_in m w (throws at v s) = refl
flowing_in m w (over e u) = refl

-- an expression in a statement, and then on
flow_goes : (m : Moment) (o : Outcome World Value) (next : Value → run.Frame → Outcome run.Frame Flow) (next' : Value → Moment → Out)
    → ((v : Value) (w : World) → flowing m (next v (frame m.locals w)) ≡ next' v (in_world m w)) → flowing m (and_then (run.in_frame m.locals o) next) ≡ with_value (valued m o) next'
flow_goes m (gives v w) next next' h = h v w
flow_goes m (throws at v w) next next' h = refl
flow_goes m (over e w) next next' h = refl

-- an operation of a statement
done_is : (m : Moment) (at : ℕ) (o : Option (List Object)) (w : World) → flowing m (done at o (frame m.locals w)) ≡ done_here at o (in_world m w)
done_is m at None w = refl
done_is m at (Some os) w = refl

-- a condition of a statement, and then one of two ways
flow_chosen : (m : Moment) (at : ℕ) (o : Outcome World Value) (left right : run.Frame → Outcome run.Frame Flow) (left' right' : Moment → Out)
    → ((w : World) → flowing m (left (frame m.locals w)) ≡ left' (in_world m w)) → ((w : World) → flowing m (right (frame m.locals w)) ≡ right' (in_world m w))
    → flowing m (and_then (run.in_frame m.locals (and_then o (truth_of at))) (λ t. choose t left right)) ≡ with_value (valued m o) (λ v. chosen at v left' right')
flow_chosen m at (gives (truth true) w) left right left' right' h k = h w
flow_chosen m at (gives (truth false) w) left right left' right' h k = k w
flow_chosen m at (gives (whole n) w) left right left' right' h k = refl
flow_chosen m at (gives (bytes s) w) left right left' right' h k = refl
flow_chosen m at (gives nothing w) left right left' right' h k = refl
flow_chosen m at (gives (object id) w) left right left' right' h k = refl
flow_chosen m at (gives (function x) w) left right left' right' h k = refl
flow_chosen m at (throws j v w) left right left' right' h k = refl
flow_chosen m at (over e w) left right left' right' h k = refl

module _ (st : Setting) (m : Moment) where
  -- one more expression of a statement, in a world
  more_flow : (e : Expr) (w : World) (next : Value → run.Frame → Outcome run.Frame Flow) (next' : Value → Moment → Out)
      → ((v : Value) (w : World) → flowing m (next v (frame m.locals w)) ≡ next' v (in_world m w))
      → flowing m (and_then (run.in_frame m.locals (eval st m.scope m.locals e w)) next) ≡ with_value (expr_does st e (in_world m w)) next'
  more_flow e w next next' h =
      flow_goes m (eval st m.scope m.locals e w) next next' h ∙ ap (λ o. with_value o next') (valued_in m w (eval st m.scope m.locals e w))

  flows : (part : run.Frame → Outcome run.Frame Flow) (w : World) → flowing m (part (frame m.locals w)) ≡ flowing (in_world m w) (part (frame_in (in_world m w)))
  flows part w = flowing_in m w (part (frame m.locals w))

  pub declare_is : (at : ℕ) (x : Name) (e : Expr) → stmt_does st (declare at x e) m ≡ with_value (expr_does st e m) (stmt_first st (declare at x e))
  declare_is at x e = flow_goes m (eval st m.scope m.locals e m.world) _ _ (λ v w. flows (set_local x v) w)

  pub assign_is : (at : ℕ) (x : Name) (e : Expr) → stmt_does st (assign at x e) m ≡ with_value (expr_does st e m) (stmt_first st (assign at x e))
  assign_is at x e = flow_goes m (eval st m.scope m.locals e m.world) _ _ (λ v w. flows (set_name st m.scope at x v) w)

  pub store_is : (at : ℕ) (e i x : Expr) → stmt_does st (store at e i x) m ≡ with_value (expr_does st e m) (stmt_first st (store at e i x))
  store_is at e i x =
      flow_goes m (eval st m.scope m.locals e m.world) _ _ (λ u w. more_flow i w _ _ (λ k w. more_flow x w _ _ (λ v w. done_is m at (stored w.objects u k v) w)))

  pub push_is : (at : ℕ) (e x : Expr) → stmt_does st (push at e x) m ≡ with_value (expr_does st e m) (stmt_first st (push at e x))
  push_is at e x = flow_goes m (eval st m.scope m.locals e m.world) _ _ (λ u w. more_flow x w _ _ (λ v w. done_is m at (pushed w.objects u v) w))

  pub remove_is : (at : ℕ) (e k : Expr) → stmt_does st (remove at e k) m ≡ with_value (expr_does st e m) (stmt_first st (remove at e k))
  remove_is at e k = flow_goes m (eval st m.scope m.locals e m.world) _ _ (λ u w. more_flow k w _ _ (λ v w. done_is m at (removed w.objects u v) w))

  pub branch_is : (at : ℕ) (t : Expr) (ss : Stmts) (x : Else) → stmt_does st (branch at t ss x) m ≡ with_value (expr_does st t m) (stmt_first st (branch at t ss x))
  branch_is at t ss x = flow_chosen m at (eval st m.scope m.locals t m.world) _ _ _ _ (flows (exec_all st m.scope ss)) (flows (exec_else st m.scope x))

  pub else_if_is : (at : ℕ) (t : Expr) (ss : Stmts) (x : Else) → else_does st (else_if at t ss x) m ≡ with_value (expr_does st t m) (else_first st (else_if at t ss x))
  else_if_is at t ss x = flow_chosen m at (eval st m.scope m.locals t m.world) _ _ _ _ (flows (exec_all st m.scope ss)) (flows (exec_else st m.scope x))

  pub switch_is : (at : ℕ) (label : Option Name) (e : Expr) (cs : Cases) → stmt_does st (switch at label e cs) m ≡ with_value (expr_does st e m) (stmt_first st (switch at label e cs))
  switch_is at label e cs =
      flow_goes m (eval st m.scope m.locals e m.world) _ _ (λ v w. flows (λ f. and_then (exec_cases st m.scope cs v f) (after_switch label)) w)

  pub return_is : (at : ℕ) (e : Expr) → stmt_does st (return at (Some e)) m ≡ with_value (expr_does st e m) (stmt_first st (return at (Some e)))
  return_is at e = flow_goes m (eval st m.scope m.locals e m.world) _ _ (λ v w. refl)

  pub throw_is : (at : ℕ) (e : Expr) → stmt_does st (throw at e) m ≡ with_value (expr_does st e m) (stmt_first st (throw at e))
  throw_is at e = flow_goes m (eval st m.scope m.locals e m.world) _ _ (λ v w. refl)

-- 12.6.2: a loop, where no more ticks are left than there were at first
pub while_is : (script : ScriptTree) (choices : List ℕ) (fuel : ℕ) (m : Moment) (at : ℕ) (label : Option Name) (t : Expr) (ss : Stmts) → m.world.left ≤ fuel
    → stmt_does (setting script choices fuel) (while at label t ss) m
    ≡ with_value (expr_does (setting script choices fuel) t m) (stmt_first (setting script choices fuel) (while at label t ss))
while_is script choices fuel m at label t ss l =
    let st = setting script choices fuel in
    ap (flowing m) (while_does script choices fuel m.scope at label t ss (frame_in m) l)
    ∙ flow_chosen m at (eval st m.scope m.locals t m.world) _ _ _ _
    (flows st m (λ f. and_then (run.in_frame f.locals (tick f.world)) (λ _ f. and_then (exec_all st m.scope ss f) (after_turn label (exec st m.scope (while at label t ss))))))
    (flows st m (gives onward))

-- 12.6.3: a loop without a condition begins with a turn
pub forever_is : (script : ScriptTree) (choices : List ℕ) (fuel : ℕ) (m : Moment) (at : ℕ) (label : Option Name) (ss : Stmts) → m.world.left ≤ fuel
    → stmt_does (setting script choices fuel) (forever at label ss) m ≡ turn_does (setting script choices fuel) (forever at label ss) label ss m
forever_is script choices fuel m at label ss l = ap (flowing m) (forever_does script choices fuel m.scope at label ss (frame_in m) l)
