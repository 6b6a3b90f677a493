-- Lemmas: expressions and calls keep together.
use Rattle.std.specs.Prelude.{◌≡◌, ◌≤◌, ◌<◌, ◌+◌, ◌++◌, ◌==◌, ◌^◌, ◌&&◌, ◌%◌, ℕ, zero, suc, List, [], ◌∷◌, length, Option, Some, None, Bool, true, false, if◌then◌else◌, pos, nat_le, nat_lt, refl, slice_get, slice_set, option_map, unwrap_or, take, ◌-◌}
use Rattle.std.proofs.Common.{sym, ap, subst, arith}
use Rattle.std.proofs.lemmas.List.{length-append, length-set}
use Rattle.js_tree.specs.Script.{Name, Expr, unary, binary, both, either, choice, call, index, length_of, pop, char_code_at, substring, array, dictionary, decimal_of, from_char_code, Exprs, no_exprs, expr, Stmt, declare, assign, store, perform, push, remove, branch, while, forever, switch, return, throw, break, continue, attempt, Stmts, no_stmts, stmt, Else, no_else, else_block, else_if, Cases, no_cases, default, case, Function, Item, function_item, global_item, ScriptTree}
use Rattle.js_tree.specs.Script as tree
use Rattle.js_tree.specs.Value.{Value, whole, bytes, truth, nothing, object, function, Object, items, entries, Going, Ended, World, Locals, Outcome, gives, over, and_then, given, tick, tick_from}
use Rattle.js_tree.specs.Operation.{in_range, unary_value, binary_value, element, popped, popped_in, replaced, length_value, char_code, part_of, decimal_text, one_byte}
use Rattle.js_tree.specs.Evaluate
use Rattle.js_tree.specs.Ticks.{Precedes, world_with, worlds, world_in}
use Rattle.js_tree.specs.Keeping.{begins_all, begins_more, precedes_itself, precedes_with, more, more-suc, raise, Keeps, Pair, weaken, then_pair, gives_pair, stuck_pair, choose_pair, given_pair}

pub with_objects_pair : {A : Type 0} {b k : ℕ} (at : ℕ) (g : World → Option (A × List Object)) → ((n : ℕ) (w : World) → g (world_with n w) ≡ g w)
    → ((w : World) (p : A × List Object) → g w ≡ Some p → length w.objects ≤ length p.1)
    → Pair worlds b k (λ w. and_then (given at (g w) w) (λ p w. gives p.0 (Evaluate.with_objects p.1 w))) (λ w. and_then (given at (g w) w) (λ p w. gives p.0 (Evaluate.with_objects p.1 w)))
with_objects_pair {A} {b} {k} at g h larger = record {
  grows = λ w. grows w (g w) refl;
  keeps = λ w l. subst (λ (o : Option (A × List Object)). Keeps worlds k w.left (and_then (given at (g w) w) write) (and_then (given at o (raise worlds k w)) write)) (sym (h (more k w.left) w)) (keeps w (g w));
}
  where
    write : A × List Object → World → Outcome World A
    write p w = gives p.0 (Evaluate.with_objects p.1 w)

    grows : (w : World) (o : Option (A × List Object)) → g w ≡ o → Precedes w (world_in worlds (and_then (given at o w) write))
    grows w None e = precedes_itself w
    grows w (Some p) e = record { printed = begins_all w.printed; taken = omega arith; objects = larger w p e }

    keeps : (w : World) (o : Option (A × List Object)) → Keeps worlds k w.left (and_then (given at o w) write) (and_then (given at o (raise worlds k w)) write)
    keeps w None = record { few = omega arith; ahead = refl }
    keeps w (Some p) = record { few = omega arith; ahead = refl }

-- after a tick fewer than before are left
abbrev pub Below : {A : Type 0} → ℕ → ℕ → (World → Outcome World A) → (World → Outcome World A) → Type 0
Below b k g g' = (w : World) → w.left < b → Keeps worlds k w.left (g w) (g' (raise worlds k w))

pub tick_from_grows : {A : Type 0} (g : World → Outcome World A) → ((w : World) → Precedes w (world_in worlds (g w)))
    → (t : ℕ) (w : World) → Precedes w (world_in worlds (and_then (tick_from t w) (λ _ w. g w)))
tick_from_grows g h zero w = precedes_itself w
tick_from_grows g h (suc t) w = precedes_with t (h (world_with t w))

pub tick_none : {A : Type 0} (k : ℕ) (g : World → Outcome World A) (w : World) → k ≡ 0 → and_then (tick_from (more k zero) (world_with (more k zero) w)) (λ _ w. g w) ≡ over Going (world_with zero w)
tick_none zero g w e = refl
tick_none (suc k) g w e = absurd (omega arith)

pub tick_from_keeps : {A : Type 0} (b k : ℕ) (g g' : World → Outcome World A) → ((w : World) → Precedes w (world_in worlds (g' w))) → Below b k g g'
    → (t : ℕ) (w : World) → t ≤ b → Keeps worlds k t (and_then (tick_from t (world_with t w)) (λ _ w. g w)) (and_then (tick_from (more k t) (world_with (more k t) w)) (λ _ w. g' w))
tick_from_keeps b k g g' grows below zero w l = record {
  few = omega arith;
  ahead = (precedes_with (more k zero) (tick_from_grows g' grows (more k zero) (world_with (more k zero) w)), tick_none k g' w);
}
tick_from_keeps {A} b k g g' grows below (suc t) w l =
    subst (λ (n : ℕ). Keeps worlds k (suc t) (g (world_with t w)) (and_then (tick_from n (world_with n w)) (λ _ w. g' w))) (sym (more-suc k t))
    (weaken (omega arith) (below (world_with t w) (omega arith)))

pub tick_pair : {A : Type 0} {b k : ℕ} (g g' : World → Outcome World A) → ((w : World) → Precedes w (world_in worlds (g' w))) → Below b k g g'
    → Pair worlds b k (λ w. and_then (tick w) (λ _ w. g w)) (λ w. and_then (tick w) (λ _ w. g' w))
tick_pair {A} {b} {k} g g' grows below = record {
  grows = λ w. tick_from_grows g' grows w.left w;
  keeps = λ w l. tick_from_keeps b k g g' grows below w.left w l;
}

pub below_of : {A : Type 0} {b k : ℕ} {g g' : World → Outcome World A} → Pair worlds b k g g' → Below b k g g'
below_of p w l = p.keeps w (omega arith)

-- what a host's function does once its tick is taken
pub write_pair : {b k : ℕ} (s : List ℕ) → Pair {A = Option Value} worlds b k (λ w. gives None (record w { printed = w.printed ++ s })) (λ w. gives None (record w { printed = w.printed ++ s }))
write_pair s = record {
  grows = λ w. record { printed = begins_more w.printed s; taken = omega arith; objects = omega arith };
  keeps = λ w l. record { few = omega arith; ahead = refl };
}

pub number_pair : {b k : ℕ} (v : World → Value) → ((n : ℕ) (w : World) → v (world_with n w) ≡ v w)
    → Pair {A = Option Value} worlds b k (λ w. gives (Some (v w)) (record w { taken = w.taken + 1 })) (λ w. gives (Some (v w)) (record w { taken = w.taken + 1 }))
number_pair {b} {k} v h = record {
  grows = λ w. record { printed = begins_all w.printed; taken = omega arith; objects = omega arith };
  keeps = λ w l. record { few = omega arith; ahead = ap (λ (x : Value). gives (Some x) (record (raise worlds k w) { taken = w.taken + 1 })) (h (more k w.left) w) };
}

pub ended_pair : {b k : ℕ} (c : ℕ) (t : List ℕ) → Pair {A = Option Value} worlds b k (over (Ended c t)) (over (Ended c t))
ended_pair c t = record { grows = λ w. precedes_itself w; keeps = λ w l. record { few = omega arith; ahead = refl } }

pub allocated_pair : {b k : ℕ} (o : Object) → Pair worlds b k (Evaluate.allocated o) (Evaluate.allocated o)
allocated_pair o = record {
  grows = λ w. record { printed = begins_all w.printed; taken = omega arith; objects = longer w.objects };
  keeps = λ w l. record { few = omega arith; ahead = refl };
}
  where
    longer : (os : List Object) → length os ≤ length (os ++ o ∷ [])
    longer os = omega (arith, length-append os (o ∷ []))

pub truth_pair : {b k : ℕ} (at : ℕ) (v : Value) → Pair worlds b k (Evaluate.truth_of at v) (Evaluate.truth_of at v)
truth_pair at (truth t) = gives_pair t
truth_pair at (whole n) = stuck_pair at
truth_pair at (bytes s) = stuck_pair at
truth_pair at nothing = stuck_pair at
truth_pair at (object id) = stuck_pair at
truth_pair at (function x) = stuck_pair at

pub if_pair : {A : Type 0} {b k : ℕ} {l l' r r' : World → Outcome World A} (t : Bool)
    → Pair worlds b k l l' → Pair worlds b k r r' → Pair worlds b k (λ w. if t then l w else r w) (λ w. if t then l' w else r' w)
if_pair true p q = record { grows = λ s. p.grows s; keeps = λ s h. p.keeps s h }
if_pair false p q = record { grows = λ s. q.grows s; keeps = λ s h. q.keeps s h }

-- the operations on objects take none away
pub replaced_larger : (os : List Object) (id : ℕ) (o : Option Object) (os' : List Object) → replaced os id o ≡ Some os' → length os ≤ length os'
replaced_larger os id None os' e = cc
replaced_larger os id (Some x) os' e =
    let same : slice_set os id x ≡ os' = cc in
    subst (λ (y : List Object). length os ≤ length y) same (omega (arith, length-set os id x))

pub last_larger : (os : List Object) (id : ℕ) (x : Object) (o : Option Value) (p : Value × List Object) → option_map (λ v. (v, slice_set os id x)) o ≡ Some p → length os ≤ length p.1
last_larger os id x None p e = cc
last_larger os id x (Some v) p e =
    let same : slice_set os id x ≡ p.1 = ap (λ (o : Option (Value × List Object)). (unwrap_or o p).1) e in
    subst (λ (y : List Object). length os ≤ length y) same (omega (arith, length-set os id x))

pub popped_in_larger : (os : List Object) (id : ℕ) (o : Option Object) (p : Value × List Object) → popped_in os id o ≡ Some p → length os ≤ length p.1
popped_in_larger os id None p e = cc
popped_in_larger os id (Some (entries es)) p e = cc
popped_in_larger os id (Some (items vs)) p e =
    last_larger os id (items (take (length vs - 1) vs)) (slice_get vs (length vs - 1)) p e

pub popped_larger : (os : List Object) (v : Value) (p : Value × List Object) → popped os v ≡ Some p → length os ≤ length p.1
popped_larger os (object id) p e = popped_in_larger os id (slice_get os id) p e
popped_larger os (whole n) p e = cc
popped_larger os (bytes s) p e = cc
popped_larger os (truth t) p e = cc
popped_larger os nothing p e = cc
popped_larger os (function x) p e = cc

-- a function's call as one more after a tick
pub record Entered (b k : ℕ) (enter enter' : Function → List Value → World → Evaluate.Called) : Type 0 where
  pub grows : (f : Function) (vs : List Value) (w : World) → Precedes w (world_in worlds (enter' f vs w))
  pub keeps : (f : Function) (vs : List Value) → Below b k (enter f vs) (enter' f vs)

module _ (script : ScriptTree) (choices : List ℕ) (b k : ℕ) (enter enter' : Function → List Value → World → Evaluate.Called) (entered : Entered b k enter enter') where
  abbrev pub st : Evaluate.Setting
  st = record { script = script; choices = choices; enter = enter }

  abbrev pub st' : Evaluate.Setting
  st' = record { script = script; choices = choices; enter = enter' }

  pub written_pair : (at : ℕ) (vs : List Value) → Pair worlds b k (Evaluate.written at vs) (Evaluate.written at vs)
  written_pair at (bytes s ∷ []) =
      let p = write_pair {b = b} {k = k} s in tick_pair _ _ p.grows (below_of p)
  written_pair at _ = stuck_pair at

  pub picked_pair : (at : ℕ) (vs : List Value) → Pair worlds b k (Evaluate.picked at choices vs) (Evaluate.picked at choices vs)
  picked_pair at (whole (pos n) ∷ []) =
      let p = number_pair {b = b} {k = k} (λ (w : World). whole (pos (Evaluate.choice_number choices w.taken % n))) (λ n w. refl) in
      if_pair (nat_le 2 n && nat_lt n (2 ^ 32)) (tick_pair _ _ p.grows (below_of p)) (stuck_pair at)
  picked_pair at _ = stuck_pair at

  pub finished_pair : (at : ℕ) (vs : List Value) → Pair worlds b k (Evaluate.finished at vs) (Evaluate.finished at vs)
  finished_pair at (whole (pos c) ∷ bytes t ∷ []) =
      let p = ended_pair {b = b} {k = k} c t in
      if_pair (nat_lt c 256) (tick_pair _ _ p.grows (below_of p)) (stuck_pair at)
  finished_pair at _ = stuck_pair at

  pub host_pair : (at : ℕ) (h : Evaluate.Host) (vs : List Value) → Pair worlds b k (Evaluate.call_host st at h vs) (Evaluate.call_host st' at h vs)
  host_pair at Evaluate.write vs = written_pair at vs
  host_pair at Evaluate.pick vs = picked_pair at vs
  host_pair at Evaluate.finish vs = finished_pair at vs

  pub call_function_pair : (at : ℕ) (f : Option Function) (vs : List Value) → Pair worlds b k (Evaluate.call_function st at f vs) (Evaluate.call_function st' at f vs)
  call_function_pair at None vs = stuck_pair at
  call_function_pair at (Some f) vs =
      if_pair (length vs == length f.params) (tick_pair _ _ (entered.grows f vs) (entered.keeps f vs)) (stuck_pair at)

  pub call_named_pair : (at : ℕ) (h : Option Evaluate.Host) (x : Name) (vs : List Value) → Pair worlds b k (Evaluate.call_named st at h x vs) (Evaluate.call_named st' at h x vs)
  call_named_pair at None x vs = call_function_pair at (Evaluate.find_function x script.items) vs
  call_named_pair at (Some h) x vs = host_pair at h vs

  pub call_pair : (at : ℕ) (v : Value) (vs : List Value) → Pair worlds b k (Evaluate.call_value st at v vs) (Evaluate.call_value st' at v vs)
  call_pair at (function x) vs = call_named_pair at (Evaluate.host_named x) x vs
  call_pair at (whole n) vs = stuck_pair at
  call_pair at (bytes s) vs = stuck_pair at
  call_pair at (truth t) vs = stuck_pair at
  call_pair at nothing vs = stuck_pair at
  call_pair at (object id) vs = stuck_pair at

  pub given_value : (at : ℕ) (o : Option Value) → Pair worlds b k (given at o) (given at o)
  given_value at o = given_pair at (λ _. o) (λ n w. refl)

  module _ (sc : Evaluate.Scope) (ls : Locals) where
    mutual
      pub eval_pair : (e : Expr) → Pair worlds b k (Evaluate.eval st sc ls e) (Evaluate.eval st' sc ls e)
      eval_pair (tree.number at n) = given_value at (in_range (pos n))
      eval_pair (tree.string at s) = gives_pair (bytes s)
      eval_pair (tree.boolean at t) = gives_pair (truth t)
      eval_pair (tree.null at) = gives_pair nothing
      eval_pair (tree.name at x) = given_pair at (Evaluate.name_value st sc ls x) (λ n w. refl)
      eval_pair (unary at op e) = then_pair (eval_pair e) (λ v. given_value at (unary_value op v))
      eval_pair (binary at op x y) =
          then_pair (eval_pair x) (λ u. then_pair (eval_pair y) (λ v. given_pair at (λ w. binary_value w.objects op u v) (λ n w. refl)))
      eval_pair (both at x y) =
          then_pair (eval_pair x) (λ u. then_pair (truth_pair at u) (λ t. choose_pair t (eval_pair y) (gives_pair (truth false))))
      eval_pair (either at x y) =
          then_pair (eval_pair x) (λ u. then_pair (truth_pair at u) (λ t. choose_pair t (gives_pair (truth true)) (eval_pair y)))
      eval_pair (choice at test x y) =
          then_pair (eval_pair test) (λ u. then_pair (truth_pair at u) (λ t. choose_pair t (eval_pair x) (eval_pair y)))
      eval_pair (call at f es) =
          then_pair (eval_pair f) (λ u. then_pair (eval_all_pair es) (λ vs. then_pair (call_pair at u vs) (λ o. given_value at o)))
      eval_pair (index at e i) =
          then_pair (eval_pair e) (λ u. then_pair (eval_pair i) (λ v. given_pair at (λ w. element w.objects u v) (λ n w. refl)))
      eval_pair (length_of at e) = then_pair (eval_pair e) (λ u. given_pair at (λ w. length_value w.objects u) (λ n w. refl))
      eval_pair (pop at e) =
          then_pair (eval_pair e) (λ u. with_objects_pair at (λ w. popped w.objects u) (λ n w. refl) (λ w p h. popped_larger w.objects u p h))
      eval_pair (char_code_at at e i) = then_pair (eval_pair e) (λ u. then_pair (eval_pair i) (λ v. given_value at (char_code u v)))
      eval_pair (substring at e i j) =
          then_pair (eval_pair e) (λ u. then_pair (eval_pair i) (λ v. then_pair (eval_pair j) (λ x. given_value at (part_of u v x))))
      eval_pair (array at es) = then_pair (eval_all_pair es) (λ vs. allocated_pair (items vs))
      eval_pair (dictionary at) = allocated_pair (entries [])
      eval_pair (decimal_of at e) = then_pair (eval_pair e) (λ u. given_value at (decimal_text u))
      eval_pair (from_char_code at e) = then_pair (eval_pair e) (λ u. given_value at (one_byte u))

      pub eval_all_pair : (es : Exprs) → Pair worlds b k (Evaluate.eval_all st sc ls es) (Evaluate.eval_all st' sc ls es)
      eval_all_pair no_exprs = gives_pair []
      eval_all_pair (expr e es) = then_pair (eval_pair e) (λ v. then_pair (eval_all_pair es) (λ vs. gives_pair (v ∷ vs)))

    pub dropped_pair : (e : Expr) → Pair worlds b k (Evaluate.eval_dropped st sc ls e) (Evaluate.eval_dropped st' sc ls e)
    dropped_pair (call at f es) = then_pair (eval_pair f) (λ u. then_pair (eval_all_pair es) (λ vs. call_pair at u vs))
    dropped_pair e = then_pair (eval_pair e) (λ v. gives_pair (Some v))
