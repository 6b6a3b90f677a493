-- Lemmas: statements and functions keep together.
use Rattle.std.specs.Prelude.{◌≡◌, ◌≤◌, ℕ, zero, suc, List, length, Option, Some, None, Bool, true, false, if◌then◌else◌, pos, refl, slice_get}
use Rattle.std.proofs.Common.{sym, ap, subst, arith}
use Rattle.js_tree.specs.Script.{Name, Expr, Stmt, declare, assign, store, perform, push, remove, branch, while, forever, switch, return, throw, break, continue, attempt, Stmts, no_stmts, stmt, Else, no_else, else_block, else_if, Cases, no_cases, default, case, Function, ScriptTree}
use Rattle.js_tree.specs.Value.{Value, whole, bytes, truth, nothing, object, function, Object, Going, Ended, Stuck, World, Locals, Frame, Outcome, gives, throws, over, and_then, in_frame, given, with_entry, holds}
use Rattle.js_tree.specs.Operation.{same_value, stored, removed, pushed, stored_in, removed_in, pushed_in}
use Rattle.js_tree.specs.Evaluate
use Rattle.js_tree.specs.Ticks.{Precedes, worlds, frames, world_in}
use Rattle.js_tree.specs.Keeping.{begins_all, precedes_itself, more, more-sum, raise, Keeps, Pair, then_pair, gives_frame, throws_frame, stuck_frame, choose_pair}
use Rattle.js_tree.specs.KeepingExpr.{Below, truth_pair, replaced_larger, Entered, eval_pair, dropped_pair}
use Rattle.js_tree.specs.KeepingLoop.{in_frame_pair, rescued_pair, loop_pair}

pub stored_larger : (os : List Object) (u i v : Value) (os' : List Object) → stored os u i v ≡ Some os' → length os ≤ length os'
stored_larger os (object id) i v os' e = replaced_larger os id (stored_in (slice_get os id) i v) os' e
stored_larger os (whole n) i v os' e = cc
stored_larger os (bytes s) i v os' e = cc
stored_larger os (truth t) i v os' e = cc
stored_larger os nothing i v os' e = cc
stored_larger os (function x) i v os' e = cc

pub removed_larger : (os : List Object) (u k : Value) (os' : List Object) → removed os u k ≡ Some os' → length os ≤ length os'
removed_larger os (object id) k os' e = replaced_larger os id (removed_in (slice_get os id) k) os' e
removed_larger os (whole n) k os' e = cc
removed_larger os (bytes s) k os' e = cc
removed_larger os (truth t) k os' e = cc
removed_larger os nothing k os' e = cc
removed_larger os (function x) k os' e = cc

pub pushed_larger : (os : List Object) (u v : Value) (os' : List Object) → pushed os u v ≡ Some os' → length os ≤ length os'
pushed_larger os (object id) v os' e = replaced_larger os id (pushed_in (slice_get os id) v) os' e
pushed_larger os (whole n) v os' e = cc
pushed_larger os (bytes s) v os' e = cc
pushed_larger os (truth t) v os' e = cc
pushed_larger os nothing v os' e = cc
pushed_larger os (function x) v os' e = cc

pub done_pair : {b k : ℕ} (at : ℕ) (g : List Object → Option (List Object)) → ((os os' : List Object) → g os ≡ Some os' → length os ≤ length os')
    → Pair frames b k (λ f. Evaluate.done at (g f.world.objects) f) (λ f. Evaluate.done at (g f.world.objects) f)
done_pair {b} {k} at g larger = in_frame_pair {m = λ _ w. write (g w.objects) w} {m' = λ _ w. write (g w.objects) w} (λ ls. record { grows = λ w. grows w (g w.objects) refl; keeps = λ w l. keeps w (g w.objects) })
  where
    write : Option (List Object) → World → Outcome World Evaluate.Flow
    write o w = and_then (given at o w) (λ os w. gives Evaluate.onward (Evaluate.with_objects os w))

    grows : (w : World) (o : Option (List Object)) → g w.objects ≡ o → Precedes w (world_in worlds (write o w))
    grows w None e = precedes_itself w
    grows w (Some os) e = record { printed = begins_all w.printed; taken = omega arith; objects = larger w.objects os e }

    keeps : (w : World) (o : Option (List Object)) → Keeps worlds k w.left (write o w) (write o (raise worlds k w))
    keeps w None = record { few = omega arith; ahead = refl }
    keeps w (Some os) = record { few = omega arith; ahead = refl }

pub set_local_pair : {b k : ℕ} (x : Name) (v : Value) → Pair frames b k (Evaluate.set_local x v) (Evaluate.set_local x v)
set_local_pair x v = record { grows = λ f. precedes_itself f.world; keeps = λ f l. record { few = omega arith; ahead = refl } }

pub set_global_pair : {b k : ℕ} (x : Name) (v : Value)
    → Pair frames b k (λ f. gives Evaluate.onward (Evaluate.frame f.locals (record f.world { globals = with_entry x v f.world.globals }))) (λ f. gives Evaluate.onward (Evaluate.frame f.locals (record f.world { globals = with_entry x v f.world.globals })))
set_global_pair x v = record {
  grows = λ f. record { printed = begins_all f.world.printed; taken = omega arith; objects = omega arith };
  keeps = λ f l. record { few = omega arith; ahead = refl };
}

pub if_frame : {A : Type 0} {b k : ℕ} {l l' r r' : Frame → Outcome Frame A} (t : Bool)
    → Pair frames b k l l' → Pair frames b k r r' → Pair frames b k (λ f. if t then l f else r f) (λ f. if t then l' f else r' f)
if_frame true p q = record { grows = λ s. p.grows s; keeps = λ s h. p.keeps s h }
if_frame false p q = record { grows = λ s. q.grows s; keeps = λ s h. q.keeps s h }

pub go_on_pair : {b k : ℕ} {next next' : Frame → Outcome Frame Evaluate.Flow} → Pair frames b k next next' → (flow : Evaluate.Flow) → Pair frames b k (Evaluate.go_on next flow) (Evaluate.go_on next' flow)
go_on_pair p Evaluate.onward = record { grows = λ f. p.grows f; keeps = λ f l. p.keeps f l }
go_on_pair p (Evaluate.breaks x) = gives_frame (Evaluate.breaks x)
go_on_pair p (Evaluate.continues x) = gives_frame (Evaluate.continues x)
go_on_pair p (Evaluate.returns v) = gives_frame (Evaluate.returns v)

pub after_switch_pair : {b k : ℕ} (label : Option Name) (flow : Evaluate.Flow) → Pair frames b k (Evaluate.after_switch label flow) (Evaluate.after_switch label flow)
after_switch_pair label Evaluate.onward = gives_frame Evaluate.onward
after_switch_pair label (Evaluate.breaks x) = choose_pair (Evaluate.is_target x label) (gives_frame Evaluate.onward) (gives_frame (Evaluate.breaks x))
after_switch_pair label (Evaluate.continues x) = gives_frame (Evaluate.continues x)
after_switch_pair label (Evaluate.returns v) = gives_frame (Evaluate.returns v)

module _ (script : ScriptTree) (choices : List ℕ) (b k : ℕ) (enter enter' : Function → List Value → World → Evaluate.Called) (entered : Entered b k enter enter') where
  abbrev pub s : Evaluate.Setting
  s = record { script = script; choices = choices; enter = enter }

  abbrev pub s' : Evaluate.Setting
  s' = record { script = script; choices = choices; enter = enter' }

  pub expr_pair : (sc : Evaluate.Scope) (ls : Locals) (e : Expr) → Pair worlds b k (Evaluate.eval s sc ls e) (Evaluate.eval s' sc ls e)
  expr_pair = eval_pair script choices b k enter enter' entered

  pub value_pair : (sc : Evaluate.Scope) (e : Expr) → Pair frames b k (Evaluate.value s sc e) (Evaluate.value s' sc e)
  value_pair sc e = in_frame_pair {m = λ ls. Evaluate.eval s sc ls e} {m' = λ ls. Evaluate.eval s' sc ls e} (λ ls. expr_pair sc ls e)

  pub condition_pair : (sc : Evaluate.Scope) (at : ℕ) (e : Expr) → Pair frames b k (Evaluate.condition s sc at e) (Evaluate.condition s' sc at e)
  condition_pair sc at e =
      in_frame_pair {m = λ ls w. and_then (Evaluate.eval s sc ls e w) (Evaluate.truth_of at)} {m' = λ ls w. and_then (Evaluate.eval s' sc ls e w) (Evaluate.truth_of at)} (λ ls. then_pair (expr_pair sc ls e) (truth_pair at))

  pub performed_pair : (sc : Evaluate.Scope) (e : Expr) → Pair frames b k (λ f. in_frame f.locals (Evaluate.eval_dropped s sc f.locals e f.world)) (λ f. in_frame f.locals (Evaluate.eval_dropped s' sc f.locals e f.world))
  performed_pair sc e =
      in_frame_pair {m = λ ls. Evaluate.eval_dropped s sc ls e} {m' = λ ls. Evaluate.eval_dropped s' sc ls e} (λ ls. dropped_pair script choices b k enter enter' entered sc ls e)

  pub set_name_pair : (sc : Evaluate.Scope) (at : ℕ) (x : Name) (v : Value) → Pair frames b k (Evaluate.set_name s sc at x v) (Evaluate.set_name s' sc at x v)
  set_name_pair sc at x v = if_frame (holds x sc.names) (set_local_pair x v) (if_frame (Evaluate.is_global x script.items) (set_global_pair x v) (stuck_frame at))

  mutual
    pub exec_pair : (sc : Evaluate.Scope) (t : Stmt) → Pair frames b k (Evaluate.exec s sc t) (Evaluate.exec s' sc t)
    exec_pair sc (declare at x e) = then_pair (value_pair sc e) (λ v. set_local_pair x v)
    exec_pair sc (assign at x e) = then_pair (value_pair sc e) (λ v. set_name_pair sc at x v)
    exec_pair sc (store at e i x) =
        then_pair (value_pair sc e) (λ u. then_pair (value_pair sc i) (λ j. then_pair (value_pair sc x) (λ v. done_pair at (λ os. stored os u j v) (λ os os' h. stored_larger os u j v os' h))))
    exec_pair sc (perform at e) = then_pair (performed_pair sc e) (λ v. gives_frame Evaluate.onward)
    exec_pair sc (push at e x) =
        then_pair (value_pair sc e) (λ u. then_pair (value_pair sc x) (λ v. done_pair at (λ os. pushed os u v) (λ os os' h. pushed_larger os u v os' h)))
    exec_pair sc (remove at e x) =
        then_pair (value_pair sc e) (λ u. then_pair (value_pair sc x) (λ v. done_pair at (λ os. removed os u v) (λ os os' h. removed_larger os u v os' h)))
    exec_pair sc (branch at test ss other) =
        then_pair (condition_pair sc at test) (λ t. choose_pair t (exec_all_pair sc ss) (exec_else_pair sc other))
    exec_pair sc (while at label test ss) = loop_pair b k label _ _ _ _ (condition_pair sc at test) (exec_all_pair sc ss)
    exec_pair sc (forever at label ss) = loop_pair b k label _ _ _ _ (gives_frame true) (exec_all_pair sc ss)
    exec_pair sc (switch at label e cases) =
        then_pair (value_pair sc e) (λ v. then_pair (exec_cases_pair sc cases v) (after_switch_pair label))
    exec_pair sc (return at None) = gives_frame (Evaluate.returns None)
    exec_pair sc (return at (Some e)) = then_pair (value_pair sc e) (λ v. gives_frame (Evaluate.returns (Some v)))
    exec_pair sc (throw at e) = then_pair (value_pair sc e) (λ v. throws_frame at v)
    exec_pair sc (break at label) = gives_frame (Evaluate.breaks label)
    exec_pair sc (continue at label) = gives_frame (Evaluate.continues label)
    exec_pair sc (attempt at ss handler) =
        rescued_pair (exec_all_pair sc ss) (λ v. exec_all_pair (record sc { caught = Some v }) handler)

    pub exec_all_pair : (sc : Evaluate.Scope) (ss : Stmts) → Pair frames b k (Evaluate.exec_all s sc ss) (Evaluate.exec_all s' sc ss)
    exec_all_pair sc no_stmts = gives_frame Evaluate.onward
    exec_all_pair sc (stmt t ss) = then_pair (exec_pair sc t) (go_on_pair (exec_all_pair sc ss))

    pub exec_else_pair : (sc : Evaluate.Scope) (other : Else) → Pair frames b k (Evaluate.exec_else s sc other) (Evaluate.exec_else s' sc other)
    exec_else_pair sc no_else = gives_frame Evaluate.onward
    exec_else_pair sc (else_block ss) = exec_all_pair sc ss
    exec_else_pair sc (else_if at test ss other) =
        then_pair (condition_pair sc at test) (λ t. choose_pair t (exec_all_pair sc ss) (exec_else_pair sc other))

    pub exec_cases_pair : (sc : Evaluate.Scope) (cases : Cases) (v : Value) → Pair frames b k (Evaluate.exec_cases s sc cases v) (Evaluate.exec_cases s' sc cases v)
    exec_cases_pair sc no_cases v = gives_frame Evaluate.onward
    exec_cases_pair sc (default ss) v = exec_all_pair sc ss
    exec_cases_pair sc (case n ss rest) v =
        choose_pair (same_value v (whole (pos n))) (then_pair (exec_all_pair sc ss) (go_on_pair (exec_through_pair sc rest))) (exec_cases_pair sc rest v)

    pub exec_through_pair : (sc : Evaluate.Scope) (cases : Cases) → Pair frames b k (Evaluate.exec_through s sc cases) (Evaluate.exec_through s' sc cases)
    exec_through_pair sc no_cases = gives_frame Evaluate.onward
    exec_through_pair sc (default ss) = exec_all_pair sc ss
    exec_through_pair sc (case n ss rest) = then_pair (exec_all_pair sc ss) (go_on_pair (exec_through_pair sc rest))

pub call_result_world : (o : Outcome Frame Evaluate.Flow) → world_in worlds (Evaluate.call_result o) ≡ world_in frames o
call_result_world (gives Evaluate.onward f) = refl
call_result_world (gives (Evaluate.breaks x) f) = refl
call_result_world (gives (Evaluate.continues x) f) = refl
call_result_world (gives (Evaluate.returns v) f) = refl
call_result_world (throws at v f) = refl
call_result_world (over e w) = refl

pub call_result_keeps : (k t : ℕ) (o o' : Outcome Frame Evaluate.Flow) → Keeps frames k t o o' → Keeps worlds k t (Evaluate.call_result o) (Evaluate.call_result o')
call_result_keeps k t (gives Evaluate.onward f) o' e = record { few = e.few; ahead = ap Evaluate.call_result e.ahead }
call_result_keeps k t (gives (Evaluate.breaks x) f) o' e = record { few = e.few; ahead = ap Evaluate.call_result e.ahead }
call_result_keeps k t (gives (Evaluate.continues x) f) o' e = record { few = e.few; ahead = ap Evaluate.call_result e.ahead }
call_result_keeps k t (gives (Evaluate.returns v) f) o' e = record { few = e.few; ahead = ap Evaluate.call_result e.ahead }
call_result_keeps k t (throws at v f) o' e = record { few = e.few; ahead = ap Evaluate.call_result e.ahead }
call_result_keeps k t (over Going w) o' e = record {
  few = e.few;
  ahead = (subst (λ (u : World). Precedes w u) (sym (call_result_world o')) e.ahead.0, λ z. ap Evaluate.call_result (e.ahead.1 z));
}
call_result_keeps k t (over (Ended c u) w) o' e = record { few = e.few; ahead = ap Evaluate.call_result e.ahead }
call_result_keeps k t (over (Stuck at) w) o' e = record { few = e.few; ahead = ap Evaluate.call_result e.ahead }

module _ (script : ScriptTree) (choices : List ℕ) where
  pub body_pair : (b k : ℕ) (enter enter' : Function → List Value → World → Evaluate.Called) → Entered b k enter enter' → (f : Function) (vs : List Value)
      → Pair worlds b k (Evaluate.body_does (record { script = script; choices = choices; enter = enter }) f vs) (Evaluate.body_does (record { script = script; choices = choices; enter = enter' }) f vs)
  body_pair b k enter enter' entered f vs =
      let p = exec_all_pair script choices b k enter enter' entered (Evaluate.scope_of f) f.body in
      record {
        grows = λ w. subst (λ (u : World). Precedes w u) (sym (call_result_world (Evaluate.exec_all (record { script = script; choices = choices; enter = enter' }) (Evaluate.scope_of f) f.body (Evaluate.frame (Evaluate.bound f.params vs) w)))) (p.grows (Evaluate.frame (Evaluate.bound f.params vs) w));
        keeps = λ w l. call_result_keeps k w.left _ _ (p.keeps (Evaluate.frame (Evaluate.bound f.params vs) w) l);
      }

  abbrev pub enter_at : ℕ → Function → List Value → World → Evaluate.Called
  enter_at = Evaluate.enter_within script choices

  -- calls take nothing back
  pub enter_grows : (n : ℕ) (f : Function) (vs : List Value) (w : World) → Precedes w (world_in worlds (enter_at n f vs w))
  enter_grows zero f vs w = precedes_itself w
  enter_grows (suc n) f vs w =
      (body_pair 0 0 (enter_at n) (enter_at n) (record { grows = enter_grows n; keeps = λ f vs w l. absurd (omega arith) }) f vs).grows w

  -- calls keep together, however deep they may be nested, where that is no less deep than there are ticks
  pub enter_keeps : (k b n n' : ℕ) → b ≤ n → more k b ≤ n' → (f : Function) (vs : List Value) → Below b k (enter_at n f vs) (enter_at n' f vs)
  enter_keeps k zero n n' l l' f vs w h = absurd (omega arith)
  enter_keeps k (suc b) zero n' l l' f vs w h = absurd (omega arith)
  enter_keeps k (suc b) (suc n) zero l l' f vs w h = absurd (omega (arith, more-sum k (suc b)))
  enter_keeps k (suc b) (suc n) (suc n') l l' f vs w h =
      (body_pair b k (enter_at n) (enter_at n') (record { grows = enter_grows n'; keeps = enter_keeps k b n n' (omega arith) (omega (arith, more-sum k b, more-sum k (suc b))) }) f vs).keeps w (omega arith)

  pub entered_at : (b k n n' : ℕ) → b ≤ n → more k b ≤ n' → Entered b k (enter_at n) (enter_at n')
  entered_at b k n n' l l' = record { grows = enter_grows n'; keeps = enter_keeps k b n n' l l' }
