-- Lemmas: loops keep together, and so does what a `try` does.
use Rattle.std.specs.Prelude.{◌≡◌, ◌≤◌, ◌<◌, ℕ, zero, suc, Option, Bool, true, false, refl}
use Rattle.std.proofs.Common.{sym, ap, subst, arith, le_trans}
use Rattle.js_tree.specs.Script.{Name}
use Rattle.js_tree.specs.Value.{Value, Going, Ended, Stuck, World, Locals, Frame, Outcome, gives, throws, over, and_then, in_frame, choose, tick, tick_from}
use Rattle.js_tree.specs.Evaluate
use Rattle.js_tree.specs.Ticks.{Precedes, world_with, worlds, frames, world_in}
use Rattle.js_tree.specs.Keeping.{precedes_itself, precedes_trans, precedes_with, more, more-suc, more-sum, raise, Keeps, Pair, weaken, then_grows, then_keeps}

pub in_frame_world : {A : Type 0} (ls : Locals) (o : Outcome World A) → world_in frames (in_frame ls o) ≡ world_in worlds o
in_frame_world ls (gives a w) = refl
in_frame_world ls (throws at v w) = refl
in_frame_world ls (over e w) = refl

pub in_frame_keeps : {A : Type 0} (k t : ℕ) (ls : Locals) (o o' : Outcome World A) → Keeps worlds k t o o' → Keeps frames k t (in_frame ls o) (in_frame ls o')
in_frame_keeps k t ls (gives a w) o' e = record { few = e.few; ahead = ap (in_frame ls) e.ahead }
in_frame_keeps k t ls (throws at v w) o' e = record { few = e.few; ahead = ap (in_frame ls) e.ahead }
in_frame_keeps k t ls (over Going w) o' e = record {
  few = e.few;
  ahead = (subst (λ (u : World). Precedes w u) (sym (in_frame_world ls o')) e.ahead.0, λ z. ap (in_frame ls) (e.ahead.1 z));
}
in_frame_keeps k t ls (over (Ended c u) w) o' e = record { few = e.few; ahead = ap (in_frame ls) e.ahead }
in_frame_keeps k t ls (over (Stuck at) w) o' e = record { few = e.few; ahead = ap (in_frame ls) e.ahead }

pub in_frame_pair : {A : Type 0} {b k : ℕ} {m m' : Locals → World → Outcome World A} → ((ls : Locals) → Pair worlds b k (m ls) (m' ls))
    → Pair frames b k (λ f. in_frame f.locals (m f.locals f.world)) (λ f. in_frame f.locals (m' f.locals f.world))
in_frame_pair {A} {b} {k} {m} {m'} p = record {
  grows = λ f. subst (λ (u : World). Precedes f.world u) (sym (in_frame_world f.locals (m' f.locals f.world))) ((p f.locals).grows f.world);
  keeps = λ f l. in_frame_keeps k f.world.left f.locals (m f.locals f.world) (m' f.locals (raise worlds k f.world)) ((p f.locals).keeps f.world l);
}

pub rescued_grows : (w : World) (o : Outcome Frame Evaluate.Flow) (h : Value → Frame → Outcome Frame Evaluate.Flow) → Precedes w (world_in frames o)
    → ((v : Value) (f : Frame) → Precedes f.world (world_in frames (h v f))) → Precedes w (world_in frames (Evaluate.rescued o h))
rescued_grows w (gives flow f) h p g = p
rescued_grows w (throws at v f) h p g = precedes_trans p (g v f)
rescued_grows w (over e u) h p g = p

pub rescued_keeps : (k t : ℕ) (o o' : Outcome Frame Evaluate.Flow) (h h' : Value → Frame → Outcome Frame Evaluate.Flow) → Keeps frames k t o o'
    → ((v : Value) (f : Frame) → Precedes f.world (world_in frames (h' v f)))
    → ((v : Value) (f : Frame) → f.world.left ≤ t → Keeps frames k f.world.left (h v f) (h' v (raise frames k f)))
    → Keeps frames k t (Evaluate.rescued o h) (Evaluate.rescued o' h')
rescued_keeps k t (gives flow f) o' h h' e g p =
    subst (λ (x : Outcome Frame Evaluate.Flow). Keeps frames k t (gives flow f) (Evaluate.rescued x h')) (sym e.ahead) (record { few = e.few; ahead = refl })
rescued_keeps k t (throws at v f) o' h h' e g p =
    subst (λ (x : Outcome Frame Evaluate.Flow). Keeps frames k t (h v f) (Evaluate.rescued x h')) (sym e.ahead) (weaken e.few (p v f e.few))
rescued_keeps k t (over Going w) o' h h' e g p = record {
  few = e.few;
  ahead = (precedes_trans e.ahead.0 (rescued_grows (world_in frames o') o' h' (precedes_itself _) g), λ z. ap (λ x. Evaluate.rescued x h') (e.ahead.1 z));
}
rescued_keeps k t (over (Ended c u) w) o' h h' e g p =
    subst (λ (x : Outcome Frame Evaluate.Flow). Keeps frames k t (over (Ended c u) w) (Evaluate.rescued x h')) (sym e.ahead) (record { few = e.few; ahead = refl })
rescued_keeps k t (over (Stuck at) w) o' h h' e g p =
    subst (λ (x : Outcome Frame Evaluate.Flow). Keeps frames k t (over (Stuck at) w) (Evaluate.rescued x h')) (sym e.ahead) (record { few = e.few; ahead = refl })

pub rescued_pair : {b k : ℕ} {m m' : Frame → Outcome Frame Evaluate.Flow} {h h' : Value → Frame → Outcome Frame Evaluate.Flow}
    → Pair frames b k m m' → ((v : Value) → Pair frames b k (h v) (h' v)) → Pair frames b k (λ f. Evaluate.rescued (m f) h) (λ f. Evaluate.rescued (m' f) h')
rescued_pair {b} {k} {m} {m'} {h} {h'} p q = record {
  grows = λ f. rescued_grows f.world (m' f) h' (p.grows f) (λ v f. (q v).grows f);
  keeps = λ f l. rescued_keeps k f.world.left (m f) (m' (raise frames k f)) h h' (p.keeps f l) (λ v f. (q v).grows f) (λ v g j. (q v).keeps g (le_trans j l));
}

-- the rest of a loop keeps together from the ticks of one turn
abbrev pub KeepsFrom : ℕ → ℕ → (Frame → Outcome Frame Evaluate.Flow) → (Frame → Outcome Frame Evaluate.Flow) → Type 0
KeepsFrom k t m m' = (f : Frame) → f.world.left ≤ t → Keeps frames k f.world.left (m f) (m' (raise frames k f))

pub after_turn_grows : (label : Option Name) (next : Frame → Outcome Frame Evaluate.Flow) → ((f : Frame) → Precedes f.world (world_in frames (next f)))
    → (flow : Evaluate.Flow) (f : Frame) → Precedes f.world (world_in frames (Evaluate.after_turn label next flow f))
after_turn_grows label next h Evaluate.onward f = h f
after_turn_grows label next h (Evaluate.breaks x) f = go (Evaluate.is_target x label)
  where
    go : (t : Bool) → Precedes f.world (world_in frames (choose t (gives Evaluate.onward) (gives (Evaluate.breaks x)) f))
    go true = precedes_itself f.world
    go false = precedes_itself f.world
after_turn_grows label next h (Evaluate.continues x) f = go (Evaluate.is_target x label)
  where
    go : (t : Bool) → Precedes f.world (world_in frames (choose t next (gives (Evaluate.continues x)) f))
    go true = h f
    go false = precedes_itself f.world
after_turn_grows label next h (Evaluate.returns v) f = precedes_itself f.world

pub after_turn_keeps : (k t : ℕ) (label : Option Name) (next next' : Frame → Outcome Frame Evaluate.Flow) → KeepsFrom k t next next'
    → (flow : Evaluate.Flow) → KeepsFrom k t (Evaluate.after_turn label next flow) (Evaluate.after_turn label next' flow)
after_turn_keeps k t label next next' h Evaluate.onward f l = h f l
after_turn_keeps k t label next next' h (Evaluate.breaks x) f l = go (Evaluate.is_target x label)
  where
    go : (c : Bool) → Keeps frames k f.world.left (choose c (gives Evaluate.onward) (gives (Evaluate.breaks x)) f) (choose c (gives Evaluate.onward) (gives (Evaluate.breaks x)) (raise frames k f))
    go true = record { few = omega arith; ahead = refl }
    go false = record { few = omega arith; ahead = refl }
after_turn_keeps k t label next next' h (Evaluate.continues x) f l = go (Evaluate.is_target x label)
  where
    go : (c : Bool) → Keeps frames k f.world.left (choose c next (gives (Evaluate.continues x)) f) (choose c next' (gives (Evaluate.continues x)) (raise frames k f))
    go true = h f l
    go false = record { few = omega arith; ahead = refl }
after_turn_keeps k t label next next' h (Evaluate.returns v) f l = record { few = omega arith; ahead = refl }

pub tick_frame_grows : (g : Frame → Outcome Frame Evaluate.Flow) → ((f : Frame) → Precedes f.world (world_in frames (g f)))
    → (t : ℕ) (ls : Locals) (w : World) → Precedes w (world_in frames (and_then (in_frame ls (tick_from t w)) (λ _ f. g f)))
tick_frame_grows g h zero ls w = precedes_itself w
tick_frame_grows g h (suc t) ls w = precedes_with t (h (Evaluate.frame ls (world_with t w)))

pub tick_frame_none : (k t : ℕ) (g : Frame → Outcome Frame Evaluate.Flow) (ls : Locals) (w : World) → t ≤ 0 → k ≡ 0
    → and_then (in_frame ls (tick_from (more k t) (world_with (more k t) w))) (λ _ f. g f) ≡ over Going (world_with t w)
tick_frame_none zero zero g ls w l e = refl
tick_frame_none zero (suc t) g ls w l e = absurd (omega arith)
tick_frame_none (suc k) t g ls w l e = absurd (omega arith)

pub tick_frame_keeps : (k t : ℕ) (g g' : Frame → Outcome Frame Evaluate.Flow) → ((f : Frame) → Precedes f.world (world_in frames (g' f)))
    → ((f : Frame) → f.world.left < t → Keeps frames k f.world.left (g f) (g' (raise frames k f)))
    → (ls : Locals) (w : World) → Keeps frames k t (and_then (in_frame ls (tick_from t (world_with t w))) (λ _ f. g f)) (and_then (in_frame ls (tick_from (more k t) (world_with (more k t) w))) (λ _ f. g' f))
tick_frame_keeps k zero g g' grows below ls w = record {
  few = omega arith;
  ahead = (precedes_with (more k zero) (tick_frame_grows g' grows (more k zero) ls (world_with (more k zero) w)), tick_frame_none k zero g' ls w (omega arith));
}
tick_frame_keeps k (suc t) g g' grows below ls w =
    subst (λ (n : ℕ). Keeps frames k (suc t) (g (Evaluate.frame ls (world_with t w))) (and_then (in_frame ls (tick_from n (world_with n w))) (λ _ f. g' f))) (sym (more-suc k t))
    (weaken (omega arith) (below (Evaluate.frame ls (world_with t w)) (omega arith)))

abbrev pub going : World → Outcome Frame Evaluate.Flow
going w = over Going w

pub going_same : (k : ℕ) (w : World) → k ≡ 0 → going (raise worlds k w) ≡ going w
going_same zero w e = refl
going_same (suc k) w e = absurd (omega arith)

pub going_keeps : (k : ℕ) (w : World) → Keeps {A = Evaluate.Flow} frames k w.left (over Going w) (over Going (raise worlds k w))
going_keeps k w = record { few = omega arith; ahead = (precedes_with (more k w.left) (precedes_itself (raise worlds k w)), going_same k w) }

module _ (b k : ℕ) (label : Option Name) (test test' : Frame → Outcome Frame Bool) (body body' : Frame → Outcome Frame Evaluate.Flow) (tests : Pair frames b k test test') (bodies : Pair frames b k body body') where
  -- a turn and those after it, once the condition has given true
  abbrev pub round : (Frame → Outcome Frame Bool) → (Frame → Outcome Frame Evaluate.Flow) → ℕ → Frame → Outcome Frame Evaluate.Flow
  round t b zero f = over Going f.world
  round t b (suc n) f = and_then (in_frame f.locals (tick f.world)) (λ _ f. and_then (b f) (Evaluate.after_turn label (Evaluate.turns n label t b)))

  pub choose_round_grows : (j : ℕ) → ((f : Frame) → Precedes f.world (world_in frames (round test' body' j f)))
      → (t : Bool) (f : Frame) → Precedes f.world (world_in frames (choose t (round test' body' j) (gives Evaluate.onward) f))
  choose_round_grows j h true f = h f
  choose_round_grows j h false f = precedes_itself f.world

  pub turns_of_round_grows : (j : ℕ) → ((f : Frame) → Precedes f.world (world_in frames (round test' body' j f))) → (f : Frame) → Precedes f.world (world_in frames (Evaluate.turns j label test' body' f))
  turns_of_round_grows zero h f = then_grows frames f.world (test' f) _ (tests.grows f) (choose_round_grows zero h)
  turns_of_round_grows (suc j) h f = then_grows frames f.world (test' f) _ (tests.grows f) (choose_round_grows (suc j) h)

  pub round_grows : (j : ℕ) (f : Frame) → Precedes f.world (world_in frames (round test' body' j f))
  round_grows zero f = precedes_itself f.world
  round_grows (suc j) f =
      tick_frame_grows _ (λ f. then_grows frames f.world (body' f) _ (bodies.grows f) (after_turn_grows label (Evaluate.turns j label test' body') (turns_of_round_grows j (round_grows j)))) f.world.left f.locals f.world

  -- enough turns on both sides
  abbrev pub RoundsKeep : ℕ → ℕ → Type 0
  RoundsKeep i j = (f : Frame) → f.world.left ≤ i → more k f.world.left ≤ j → f.world.left ≤ b → Keeps frames k f.world.left (round test body i f) (round test' body' j (raise frames k f))

  pub chosen_keeps : (i j : ℕ) → RoundsKeep i j → (t : Bool) (f : Frame) → f.world.left ≤ i → more k f.world.left ≤ j → f.world.left ≤ b
      → Keeps frames k f.world.left (choose t (round test body i) (gives Evaluate.onward) f) (choose t (round test' body' j) (gives Evaluate.onward) (raise frames k f))
  chosen_keeps i j h true f l l' lb = h f l l' lb
  chosen_keeps i j h false f l l' lb = record { few = omega arith; ahead = refl }

  pub unfolded_keeps : (i j : ℕ) → RoundsKeep i j → (f : Frame) → f.world.left ≤ i → more k f.world.left ≤ j → f.world.left ≤ b
      → Keeps frames k f.world.left (and_then (test f) (λ t. choose t (round test body i) (gives Evaluate.onward))) (and_then (test' (raise frames k f)) (λ t. choose t (round test' body' j) (gives Evaluate.onward)))
  unfolded_keeps i j h f l l' lb =
      then_keeps frames k f.world.left (test f) (test' (raise frames k f)) _ _ (tests.keeps f lb) (choose_round_grows j (round_grows j))
      (λ t g few. chosen_keeps i j h t g (le_trans few l) (omega (arith, more-sum k g.world.left, more-sum k f.world.left)) (le_trans few lb))

  pub turns_of_round : (i j : ℕ) → RoundsKeep i j → (f : Frame) → f.world.left ≤ i → more k f.world.left ≤ j → f.world.left ≤ b
      → Keeps frames k f.world.left (Evaluate.turns i label test body f) (Evaluate.turns j label test' body' (raise frames k f))
  turns_of_round zero zero h = unfolded_keeps zero zero h
  turns_of_round zero (suc j) h = unfolded_keeps zero (suc j) h
  turns_of_round (suc i) zero h = unfolded_keeps (suc i) zero h
  turns_of_round (suc i) (suc j) h = unfolded_keeps (suc i) (suc j) h

  pub round_keeps : (i j : ℕ) → RoundsKeep i j
  round_keeps zero zero f l l' lb = going_keeps k f.world
  round_keeps zero (suc j) f l l' lb = record {
    few = omega arith;
    ahead = (precedes_with (more k f.world.left) (round_grows (suc j) (raise frames k f)), tick_frame_none k f.world.left _ f.locals f.world l);
  }
  round_keeps (suc i) zero f l l' lb = none f.world.left f.world l'
    where
      none : (t : ℕ) (w : World) → more k t ≤ 0 → Keeps frames k t (and_then (in_frame f.locals (tick_from t (world_with t w))) (λ _ f. and_then (body f) (Evaluate.after_turn label (Evaluate.turns i label test body)))) (over Going (world_with (more k t) w))
      none zero w h = going_keeps k (world_with zero w)
      none (suc t) w h = absurd (omega (arith, more-sum k (suc t)))
  round_keeps (suc i) (suc j) f l l' lb =
      tick_frame_keeps k f.world.left _ _ (λ f. then_grows frames f.world (body' f) _ (bodies.grows f) (after_turn_grows label (Evaluate.turns j label test' body') (turns_of_round_grows j (round_grows j))))
      (λ g fewer. then_keeps frames k g.world.left (body g) (body' (raise frames k g)) _ _ (bodies.keeps g (omega arith))
      (after_turn_grows label (Evaluate.turns j label test' body') (turns_of_round_grows j (round_grows j)))
      (λ flow g' few. after_turn_keeps k g.world.left label _ _ (λ g'' l''. turns_of_round i j (round_keeps i j) g'' (omega arith) (omega (arith, more-sum k g''.world.left, more-sum k f.world.left)) (omega arith)) flow g' few))
      f.locals f.world

  pub loop_pair : Pair frames b k (Evaluate.loop label test body) (Evaluate.loop label test' body')
  loop_pair = record {
    grows = λ f. turns_of_round_grows f.world.left (round_grows f.world.left) f;
    keeps = λ f l. turns_of_round f.world.left (more k f.world.left) (round_keeps f.world.left (more k f.world.left)) f (omega arith) (omega arith) l;
  }
