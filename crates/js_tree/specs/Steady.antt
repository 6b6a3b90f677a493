-- Laws, proved here for the crates above: every part of a script takes nothing back, and with too few ticks it stops on its way to what it comes to.
use Rattle.std.specs.Prelude.{◌≡◌, ◌≤◌, ◌<◌, ◌+◌, ◌-◌, ℕ, List, [], ◌∷◌, Option, Some, None, refl}
use Rattle.std.proofs.Common.{sym, ◌∙◌, ap, subst, arith}
use Rattle.gj_base.specs.Counts.{Begins}
use Rattle.js_tree.specs.Script.{Expr, Exprs, Stmt, Stmts, Function, Item, function_item, global_item, ScriptTree}
use Rattle.js_tree.specs.Value.{Value, World, Locals, Going, Ended, Stuck, Outcome, gives, throws, over, and_then, with_entry}
use Rattle.js_tree.specs.Evaluate.{Setting, setting, Scope, Called, enter_within, body_does, call_value, name_value, eval, eval_all, value, condition, exec, exec_all}
use Rattle.js_tree.specs.Static.{static_fault}
use Rattle.js_tree.specs.ScriptRun.{ScriptResult, script_run, run_if_sound, run_all, set_globals, call_start, first_world, result_of, top_scope}
use Rattle.js_tree.specs.Ticks.{Precedes, States, world_with, worlds, frames, world_in, outcome_with, Comes, GoesOn}
use Rattle.js_tree.specs.Keeping.{more, more-sum, raise, Ahead, Keeps, Pair, gives_pair, given_pair, then_pair}
use Rattle.js_tree.specs.KeepingExpr.{Entered, eval_pair, eval_all_pair, call_pair}
use Rattle.js_tree.specs.KeepingStmt.{value_pair, condition_pair, exec_pair, exec_all_pair, body_pair, entered_at}

-- with whatever fuel is enough, a part keeps together
pub record Steady {S A : Type 0} (states : States S) (script : ScriptTree) (choices : List ℕ) (part : Setting → S → Outcome S A) : Type 0 where
  pub together : (b k fuel fuel' : ℕ) → b ≤ fuel → more k b ≤ fuel' → Pair states b k (part (setting script choices fuel)) (part (setting script choices fuel'))

module _ (script : ScriptTree) (choices : List ℕ) where
  pub steady_eval : (sc : Scope) (ls : Locals) (e : Expr) → Steady worlds script choices (λ st. eval st sc ls e)
  steady_eval sc ls e = record { together = λ b k n n' l l'. eval_pair script choices b k (enter_within script choices n) (enter_within script choices n') (entered_at script choices b k n n' l l') sc ls e }

  pub steady_eval_all : (sc : Scope) (ls : Locals) (es : Exprs) → Steady worlds script choices (λ st. eval_all st sc ls es)
  steady_eval_all sc ls es = record { together = λ b k n n' l l'. eval_all_pair script choices b k (enter_within script choices n) (enter_within script choices n') (entered_at script choices b k n n' l l') sc ls es }

  pub steady_call : (at : ℕ) (v : Value) (vs : List Value) → Steady worlds script choices (λ st. call_value st at v vs)
  steady_call at v vs = record { together = λ b k n n' l l'. call_pair script choices b k (enter_within script choices n) (enter_within script choices n') (entered_at script choices b k n n' l l') at v vs }

  pub steady_body : (f : Function) (vs : List Value) → Steady worlds script choices (λ st. body_does st f vs)
  steady_body f vs = record { together = λ b k n n' l l'. body_pair script choices b k (enter_within script choices n) (enter_within script choices n') (entered_at script choices b k n n' l l') f vs }

  pub steady_value : (sc : Scope) (e : Expr) → Steady frames script choices (λ st. value st sc e)
  steady_value sc e = record { together = λ b k n n' l l'. value_pair script choices b k (enter_within script choices n) (enter_within script choices n') (entered_at script choices b k n n' l l') sc e }

  pub steady_condition : (sc : Scope) (at : ℕ) (e : Expr) → Steady frames script choices (λ st. condition st sc at e)
  steady_condition sc at e = record { together = λ b k n n' l l'. condition_pair script choices b k (enter_within script choices n) (enter_within script choices n') (entered_at script choices b k n n' l l') sc at e }

  pub steady_exec : (sc : Scope) (s : Stmt) → Steady frames script choices (λ st. exec st sc s)
  steady_exec sc s = record { together = λ b k n n' l l'. exec_pair script choices b k (enter_within script choices n) (enter_within script choices n') (entered_at script choices b k n n' l l') sc s }

  pub steady_exec_all : (sc : Scope) (ss : Stmts) → Steady frames script choices (λ st. exec_all st sc ss)
  steady_exec_all sc ss = record { together = λ b k n n' l l'. exec_all_pair script choices b k (enter_within script choices n) (enter_within script choices n') (entered_at script choices b k n n' l l') sc ss }

  globals_pair : (b k : ℕ) (enter enter' : Function → List Value → World → Called) → Entered b k enter enter' → (xs : List Item)
      → Pair worlds b k (set_globals (record { script = script; choices = choices; enter = enter }) xs) (set_globals (record { script = script; choices = choices; enter = enter' }) xs)
  globals_pair b k enter enter' entered [] = gives_pair tt
  globals_pair b k enter enter' entered (function_item f ∷ rest) = globals_pair b k enter enter' entered rest
  globals_pair b k enter enter' entered (global_item at x e ∷ rest) =
      let p = globals_pair b k enter enter' entered rest in
      then_pair (eval_pair script choices b k enter enter' entered top_scope [] e)
      (λ v. record {
        grows = λ w. record { printed = (p.grows (record w { globals = with_entry x v w.globals })).printed; taken = (p.grows (record w { globals = with_entry x v w.globals })).taken; objects = (p.grows (record w { globals = with_entry x v w.globals })).objects };
        keeps = λ w l. p.keeps (record w { globals = with_entry x v w.globals }) l;
      })

  start_pair : (b k : ℕ) (enter enter' : Function → List Value → World → Called) → Entered b k enter enter'
      → Pair worlds b k (call_start (record { script = script; choices = choices; enter = enter })) (call_start (record { script = script; choices = choices; enter = enter' }))
  start_pair b k enter enter' entered =
      then_pair (given_pair script.start_at (name_value (record { script = script; choices = choices; enter = enter }) top_scope [] script.start) (λ n w. refl))
      (λ v. call_pair script choices b k enter enter' entered script.start_at v [])

  pub steady_run : Steady worlds script choices run_all
  steady_run = record {
    together = λ b k n n' l l'.
        then_pair (globals_pair b k (enter_within script choices n) (enter_within script choices n') (entered_at script choices b k n n' l l') script.items)
        (λ _. start_pair b k (enter_within script choices n) (enter_within script choices n') (entered_at script choices b k n n' l l'));
  }

-- a steady part before others that are
pub steady_then : {S A B : Type 0} {states : States S} {script : ScriptTree} {choices : List ℕ} {part : Setting → S → Outcome S A} (next : Setting → A → S → Outcome S B)
    → Steady states script choices part → ((a : A) → Steady states script choices (λ st. next st a))
    → Steady states script choices (λ st s. and_then (part st s) (next st))
steady_then next p q = record { together = λ b k n n' l l'. then_pair (p.together b k n n' l l') (λ a. (q a).together b k n n' l l') }

module _ {S A : Type 0} {states : States S} {script : ScriptTree} {choices : List ℕ} {part : Setting → S → Outcome S A} (steady : Steady states script choices part) where
  -- what was printed stays, and so do arrays and dictionaries
  pub grows : (fuel : ℕ) (s : S) → Precedes (states.world s) (world_in states (part (setting script choices fuel) s))
  grows fuel s = (steady.together 0 0 fuel fuel (omega arith) (omega arith)).grows s

  -- no tick is given back
  pub gives_no_tick : (fuel : ℕ) (s : S) → (states.world s).left ≤ fuel → (world_in states (part (setting script choices fuel) s)).left ≤ (states.world s).left
  gives_no_tick fuel s l = ((steady.together fuel 0 fuel fuel (omega arith) (omega arith)).keeps s l).few

  -- it stopped on its way
  pub record Stopped (s : S) (o o' : Outcome S A) : Type 0 where
    pub at : World
    pub is : o ≡ over Going at
    pub after : Precedes (states.world s) at
    pub before : Precedes at (world_in states o')

  left_in_with : (n : ℕ) (o : Outcome S A) → (world_in states (outcome_with states n o)).left ≡ n
  left_in_with n (gives a s) = ap (λ w. w.left) (states.world_of_it n s)
  left_in_with n (throws at v s) = ap (λ w. w.left) (states.world_of_it n s)
  left_in_with n (over e w) = refl

  precedes_in_with : (n : ℕ) (w : World) (o : Outcome S A) → Precedes w (world_in states (outcome_with states n o)) → Precedes w (world_in states o)
  precedes_in_with n w (gives a s) h =
      let j : Precedes w (world_with n (states.world s)) = subst (λ (u : World). Precedes w u) (states.world_of_it n s) h in
      record { printed = j.printed; taken = j.taken; objects = j.objects }
  precedes_in_with n w (throws at v s) h =
      let j : Precedes w (world_with n (states.world s)) = subst (λ (u : World). Precedes w u) (states.world_of_it n s) h in
      record { printed = j.printed; taken = j.taken; objects = j.objects }
  precedes_in_with n w (over e u) h = record { printed = h.printed; taken = h.taken; objects = h.objects }

  left_of_raise : (k : ℕ) (s : S) → (states.world (raise states k s)).left ≡ more k (states.world s).left
  left_of_raise k s = ap (λ w. w.left) (states.world_of_it (more k (states.world s).left) s)

  stops : (k : ℕ) (s : S) (x o : Outcome S A) → 0 < k → Precedes (states.world s) (world_in states x) → Ahead states k x (outcome_with states 0 o) → Stopped s x o
  stops k s (gives a t) o l g e =
      absurd (omega (arith, left_in_with 0 o, ap (λ (y : Outcome S A). (world_in states y).left) e, left_of_raise k t, more-sum k (states.world t).left))
  stops k s (throws at v t) o l g e =
      absurd (omega (arith, left_in_with 0 o, ap (λ (y : Outcome S A). (world_in states y).left) e, left_of_raise k t, more-sum k (states.world t).left))
  stops k s (over Going w) o l g e = record { at = w; is = refl; after = g; before = precedes_in_with 0 w o e.0 }
  stops k s (over (Ended c u) w) o l g e =
      absurd (omega (arith, left_in_with 0 o, ap (λ (y : Outcome S A). (world_in states y).left) e, more-sum k w.left))
  stops k s (over (Stuck at) w) o l g e =
      absurd (omega (arith, left_in_with 0 o, ap (λ (y : Outcome S A). (world_in states y).left) e, more-sum k w.left))

  -- with fewer ticks than it takes, a part stops on its way
  pub cut : {s : S} {d : ℕ} {o : Outcome S A} → Comes states script choices part s d o
      → (fuel before : ℕ) → before < d → before ≤ fuel → Stopped s (part (setting script choices fuel) (states.with_left before s)) o
  cut {s} {d} {o} comes fuel before few l =
      let here = states.with_left before s in
      let k = d - before in
      let left_here : (states.world here).left ≡ before = ap (λ w. w.left) (states.world_of_it before s) in
      let kept = (steady.together before k fuel d l (omega (arith, more-sum k before))).keeps here (omega arith) in
      let raised : raise states k here ≡ states.with_left d s =
      states.the_last_counts (more k (states.world here).left) before s ∙ ap (λ n. states.with_left n s) (more-sum k (states.world here).left ∙ omega arith) in
      let there : part (setting script choices d) (raise states k here) ≡ outcome_with states 0 o =
      ap (part (setting script choices d)) raised ∙ comes.runs d d 0 (omega arith) (omega arith) in
      let from : Precedes (world_with before (states.world s)) (world_in states (part (setting script choices fuel) here)) =
      subst (λ (w : World). Precedes w (world_in states (part (setting script choices fuel) here))) (states.world_of_it before s) (grows fuel here) in
      stops k s (part (setting script choices fuel) here) o (omega arith) (record { printed = from.printed; taken = from.taken; objects = from.objects })
      (subst (λ (y : Outcome S A). Ahead states k (part (setting script choices fuel) here) y) there kept.ahead)

-- a run with enough ticks ends as its parts come to, and takes as many ticks as they do
pub run_is : {script : ScriptTree} {choices : List ℕ} {d : ℕ} {o : Called} → static_fault script ≡ None → Comes worlds script choices run_all (first_world 0) d o
    → (n : ℕ) → d ≤ n → script_run script choices n ≡ result_of d (outcome_with worlds 0 o)
run_is {script} {choices} {d} {o} sound comes n l =
    ap (λ f. run_if_sound f script choices n) sound
    ∙ ap (result_of n) (comes.runs n n (n - d) (omega arith) (omega arith))
    ∙ same o
  where
    same : (o : Called) → result_of n (outcome_with worlds (n - d) o) ≡ result_of d (outcome_with worlds 0 o)
    same (gives v w) = ap (λ t. record { printed = w.printed; taken = w.taken; ticks = t; end = Ended 0 [] }) (omega arith)
    same (throws at v w) = ap (λ t. record { printed = w.printed; taken = w.taken; ticks = t; end = Stuck at }) (omega arith)
    same (over e w) = ap (λ t. record { printed = w.printed; taken = w.taken; ticks = t; end = e }) (omega arith)

-- a run that stopped on its way
pub record StoppedRun (r : ScriptResult) (w : World) (n : ℕ) : Type 0 where
  pub end : r.end ≡ Going
  pub printed : Begins r.printed w.printed
  pub taken : r.taken ≤ w.taken
  pub ticks : r.ticks ≤ n

-- a run with too few ticks is Going
pub run_stops : {script : ScriptTree} {choices : List ℕ} {d : ℕ} {o : Called} → static_fault script ≡ None → Comes worlds script choices run_all (first_world 0) d o
    → (n : ℕ) → n < d → StoppedRun (script_run script choices n) (world_in worlds o) n
run_stops {script} {choices} {d} {o} sound comes n l =
    let stop = cut (steady_run script choices) comes n n l (omega arith) in
    let is : script_run script choices n ≡ result_of n (over Going stop.at) = ap (λ f. run_if_sound f script choices n) sound ∙ ap (result_of n) stop.is in
    subst (λ (r : ScriptResult). StoppedRun r (world_in worlds o) n) (sym is)
    (record { end = refl; printed = stop.before.printed; taken = stop.before.taken; ticks = omega arith })

-- a run with more ticks
pub more_ticks : (script : ScriptTree) (choices : List ℕ) (n k : ℕ) → GoesOn (script_run script choices n) (script_run script choices (n + k))
more_ticks script choices n k = sound (static_fault script)
  where
    compared : (x y : Called) → Keeps worlds k n x y → GoesOn (result_of n x) (result_of (n + k) y)
    compared (gives v w) y e =
        subst (λ (z : Called). result_of (n + k) z ≡ result_of n (gives v w)) (sym e.ahead)
        (ap (λ t. record { printed = w.printed; taken = w.taken; ticks = t; end = Ended 0 [] }) (let few = e.few in omega (arith, more-sum k w.left)))
    compared (throws at v w) y e =
        subst (λ (z : Called). result_of (n + k) z ≡ result_of n (throws at v w)) (sym e.ahead)
        (ap (λ t. record { printed = w.printed; taken = w.taken; ticks = t; end = Stuck at }) (let few = e.few in omega (arith, more-sum k w.left)))
    compared (over Going w) y e = (begun y e.ahead.0, taken y e.ahead.0)
      where
        begun : (y : Called) → Precedes w (world_in worlds y) → Begins w.printed (result_of (n + k) y).printed
        begun (gives v u) h = h.printed
        begun (throws at v u) h = h.printed
        begun (over end u) h = h.printed

        taken : (y : Called) → Precedes w (world_in worlds y) → w.taken ≤ (result_of (n + k) y).taken
        taken (gives v u) h = h.taken
        taken (throws at v u) h = h.taken
        taken (over end u) h = h.taken
    compared (over (Ended c t) w) y e =
        subst (λ (z : Called). result_of (n + k) z ≡ result_of n (over (Ended c t) w)) (sym e.ahead)
        (ap (λ u. record { printed = w.printed; taken = w.taken; ticks = u; end = Ended c t }) (let few = e.few in omega (arith, more-sum k w.left)))
    compared (over (Stuck at) w) y e =
        subst (λ (z : Called). result_of (n + k) z ≡ result_of n (over (Stuck at) w)) (sym e.ahead)
        (ap (λ u. record { printed = w.printed; taken = w.taken; ticks = u; end = Stuck at }) (let few = e.few in omega (arith, more-sum k w.left)))

    kept : Keeps worlds k n (run_all (setting script choices n) (first_world n)) (run_all (setting script choices (n + k)) (first_world (n + k)))
    kept =
        subst (λ (m : ℕ). Keeps worlds k n (run_all (setting script choices n) (first_world n)) (run_all (setting script choices (n + k)) (first_world m))) (more-sum k n)
        (((steady_run script choices).together n k n (n + k) (omega arith) (omega (arith, more-sum k n))).keeps (first_world n) (omega arith))

    sound : (f : Option ℕ) → GoesOn (run_if_sound f script choices n) (run_if_sound f script choices (n + k))
    sound None = compared _ _ kept
    sound (Some at) = refl
