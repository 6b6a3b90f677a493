-- Laws of the script's meaning without fuel, proved here for the crates above: what a call and a loop do where ticks are left.
use Rattle.std.specs.Prelude.{◌≡◌, ◌≤◌, ◌<◌, ℕ, zero, suc, List, Option, Bool, true, false, refl}
use Rattle.std.proofs.Common.{sym, ◌∙◌, ap, arith}
use Rattle.js_tree.specs.Script.{Name, Expr, while, forever, Stmts, Function, ScriptTree}
use Rattle.js_tree.specs.Value.{Value, Going, Ended, Stuck, World, Frame, Outcome, gives, throws, over, and_then, in_frame, choose, tick}
use Rattle.js_tree.specs.Evaluate.{setting, Scope, Flow, onward, enter_within, body_does, exec, exec_all, condition, after_turn, turns, loop}
use Rattle.js_tree.specs.Ticks.{Precedes, States, worlds, frames, world_in}
use Rattle.js_tree.specs.Keeping.{precedes_itself, Keeps, Pair, gives_frame, then_grows, then_keeps}
use Rattle.js_tree.specs.KeepingLoop.{tick_frame_grows, tick_frame_none, tick_frame_keeps, after_turn_grows, after_turn_keeps, turns_of_round, round_keeps, loop_pair}
use Rattle.js_tree.specs.KeepingStmt.{condition_pair, exec_all_pair, entered_at, enter_keeps}

-- what keeps together with no ticks more is the same
pub same_of : {S A : Type 0} (st : States S) (t : ℕ) (o o' : Outcome S A) → Keeps st 0 t o o' → o ≡ o'
same_of st t (gives a s) o' e = sym (e.ahead ∙ ap (gives a) (st.as_it_was s))
same_of st t (throws at v s) o' e = sym (e.ahead ∙ ap (throws at v) (st.as_it_was s))
same_of st t (over Going w) o' e = sym (e.ahead.1 refl)
same_of st t (over (Ended c u) w) o' e = sym e.ahead
same_of st t (over (Stuck at) w) o' e = sym e.ahead

-- 13.2.1: where ticks are left for it, a function's call does what its body does
pub call_does : (script : ScriptTree) (choices : List ℕ) (fuel : ℕ) (f : Function) (vs : List Value) (w : World) → w.left < fuel
    → (setting script choices fuel).enter f vs w ≡ body_does (setting script choices fuel) f vs w
call_does script choices fuel f vs w l =
    same_of worlds w.left (enter_within script choices fuel f vs w) (enter_within script choices (suc fuel) f vs w)
    (enter_keeps script choices 0 fuel fuel (suc fuel) (omega arith) (omega arith) f vs w l)

module _ (b : ℕ) (label : Option Name) (test : Frame → Outcome Frame Bool) (body : Frame → Outcome Frame Flow) (tests : Pair frames b 0 test test) (bodies : Pair frames b 0 body body) where
  -- a turn, and then the loop again
  abbrev pub again : Frame → Outcome Frame Flow
  again f = and_then (in_frame f.locals (tick f.world)) (λ _ f. and_then (body f) (after_turn label (loop label test body)))

  loop_grows : (f : Frame) → Precedes f.world (world_in frames (loop label test body f))
  loop_grows f = (loop_pair b 0 label test test body body tests bodies).grows f

  again_grows : (f : Frame) → Precedes f.world (world_in frames (again f))
  again_grows f =
      tick_frame_grows _ (λ g. then_grows frames g.world (body g) _ (bodies.grows g) (after_turn_grows label (loop label test body) loop_grows)) f.world.left f.locals f.world

  chosen_grows : (t : Bool) (f : Frame) → Precedes f.world (world_in frames (choose t again (gives onward) f))
  chosen_grows true f = again_grows f
  chosen_grows false f = precedes_itself f.world

  -- so many turns, where there are no more ticks, are the loop
  rest_keeps : (i t : ℕ) → t ≤ i → t ≤ b → (f : Frame) → f.world.left ≤ t → Keeps frames 0 f.world.left (turns i label test body f) (loop label test body f)
  rest_keeps i t l lb f h =
      turns_of_round b 0 label test test body body tests bodies i f.world.left (round_keeps b 0 label test test body body tests bodies i f.world.left) f (omega arith) (omega arith) (omega arith)

  round_is_again : (i : ℕ) (f : Frame) → f.world.left ≤ suc i → f.world.left ≤ b
      → Keeps frames 0 f.world.left (and_then (in_frame f.locals (tick f.world)) (λ _ f. and_then (body f) (after_turn label (turns i label test body)))) (again f)
  round_is_again i f l lb =
      tick_frame_keeps 0 f.world.left _ _ (λ g. then_grows frames g.world (body g) _ (bodies.grows g) (after_turn_grows label (loop label test body) loop_grows))
      (λ g fewer. then_keeps frames 0 g.world.left (body g) (body g) _ _ (bodies.keeps g (omega arith)) (after_turn_grows label (loop label test body) loop_grows)
      (λ flow h few. after_turn_keeps 0 g.world.left label _ _ (rest_keeps i g.world.left (omega arith) (omega arith)) flow h few))
      f.locals f.world

  unfolds : (n : ℕ) (f : Frame) → f.world.left ≡ n → n ≤ b → Keeps frames 0 f.world.left (turns n label test body f) (and_then (test f) (λ t. choose t again (gives onward)))
  unfolds zero f e lb =
      then_keeps frames 0 f.world.left (test f) (test f) _ _ (tests.keeps f (omega arith)) chosen_grows (λ t g few. go t g (omega arith))
    where
      go : (t : Bool) (g : Frame) → g.world.left ≤ 0 → Keeps frames 0 g.world.left (choose t (λ f. over Going f.world) (gives onward) g) (choose t again (gives onward) g)
      go true g l = record { few = omega arith; ahead = (again_grows g, tick_frame_none 0 g.world.left _ g.locals g.world l) }
      go false g l = record { few = omega arith; ahead = refl }
  unfolds (suc n) f e lb =
      then_keeps frames 0 f.world.left (test f) (test f) _ _ (tests.keeps f (omega arith)) chosen_grows (λ t g few. go t g (omega arith))
    where
      go : (t : Bool) (g : Frame) → g.world.left ≤ suc n → Keeps frames 0 g.world.left (choose t (λ f. and_then (in_frame f.locals (tick f.world)) (λ _ f. and_then (body f) (after_turn label (turns n label test body)))) (gives onward) g) (choose t again (gives onward) g)
      go true g l = round_is_again n g l (omega arith)
      go false g l = record { few = omega arith; ahead = refl }

  pub loop_unfolds : (f : Frame) → f.world.left ≤ b → loop label test body f ≡ and_then (test f) (λ t. choose t again (gives onward))
  loop_unfolds f l = same_of frames f.world.left _ _ (unfolds f.world.left f refl l)

-- 12.6.2: a loop tests its condition, takes a tick for a turn, and goes on from there
pub while_does : (script : ScriptTree) (choices : List ℕ) (fuel : ℕ) (sc : Scope) (at : ℕ) (label : Option Name) (test : Expr) (ss : Stmts) (f : Frame) → f.world.left ≤ fuel
    → (let st = setting script choices fuel in
    exec st sc (while at label test ss) f ≡
    and_then (condition st sc at test f) (λ t. choose t (λ f. and_then (in_frame f.locals (tick f.world)) (λ _ f. and_then (exec_all st sc ss f) (after_turn label (exec st sc (while at label test ss))))) (gives onward)))
while_does script choices fuel sc at label test ss f l =
    let entered = entered_at script choices fuel 0 fuel fuel (omega arith) (omega arith) in
    let enter = enter_within script choices fuel in
    loop_unfolds fuel label _ _ (condition_pair script choices fuel 0 enter enter entered sc at test) (exec_all_pair script choices fuel 0 enter enter entered sc ss) f l

-- 12.6.3: the same without a condition
pub forever_does : (script : ScriptTree) (choices : List ℕ) (fuel : ℕ) (sc : Scope) (at : ℕ) (label : Option Name) (ss : Stmts) (f : Frame) → f.world.left ≤ fuel
    → (let st = setting script choices fuel in
    exec st sc (forever at label ss) f ≡ and_then (in_frame f.locals (tick f.world)) (λ _ f. and_then (exec_all st sc ss f) (after_turn label (exec st sc (forever at label ss)))))
forever_does script choices fuel sc at label ss f l =
    let entered = entered_at script choices fuel 0 fuel fuel (omega arith) (omega arith) in
    let enter = enter_within script choices fuel in
    loop_unfolds fuel label _ _ (gives_frame true) (exec_all_pair script choices fuel 0 enter enter entered sc ss) f l
