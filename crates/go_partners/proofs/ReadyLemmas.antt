-- Ways that are ready, and goroutines that can move, gone over from the front.
use Rattle.std.proofs.Common.{refl, sym, ap, ◌∙◌, ◌+◌, add-one, append_assoc}
use Rattle.std.specs.Prelude.{◌≡◌, ◌≤◌, ◌||◌, if◌then◌else◌, ℕ, suc, List, [], ◌∷◌, ◌++◌, Bool, true, false, length, drop}
use Rattle.std.proofs.lemmas.List.{drop_all}
use Rattle.std.specs.List.{fold}
use Rattle.go_core.specs.Goroutine.{Offer, Frame, Goroutine, State}
use Rattle.go_state.specs.StateSeen.{stacked}
use Rattle.go_core.specs.Communicate.{offer_ready, ready_ways, any_ready, can_move, any_moves, has_frames}

module _ (g : ℕ) (s : State) where
  pub any_step : (os : List Offer) (i : ℕ) (o : Offer) (b : Bool) → drop i os ≡ o ∷ drop (i + 1) os → offer_ready g s o ≡ false
      → any_ready g s (drop i os) ≡ b → any_ready g s (drop (i + 1) os) ≡ b
  any_step os i o b d h k =
      let more = any_ready g s (drop (i + 1) os) in
      sym (ap (λ (c : Bool). c || more) h) ∙ sym (ap (any_ready g s) d) ∙ k

  pub any_found : (os : List Offer) (i : ℕ) (o : Offer) (b : Bool) → drop i os ≡ o ∷ drop (i + 1) os → offer_ready g s o ≡ true
      → any_ready g s (drop i os) ≡ b → true ≡ b
  any_found os i o b d h k =
      let more = any_ready g s (drop (i + 1) os) in
      sym (ap (λ (c : Bool). c || more) h) ∙ sym (ap (any_ready g s) d) ∙ k

  pub any_end : (os : List Offer) (i : ℕ) (b : Bool) → length os ≤ i → any_ready g s (drop i os) ≡ b → false ≡ b
  any_end os i b h k = sym (ap (any_ready g s) (drop_all i os h)) ∙ k

  -- ---- the places of those that are ready

  pub ways_step : (os : List Offer) (i : ℕ) (o : Offer) (found all : List ℕ) → drop i os ≡ o ∷ drop (i + 1) os → offer_ready g s o ≡ true
      → found ++ ready_ways g s i (drop i os) ≡ all → (found ++ i ∷ []) ++ ready_ways g s (i + 1) (drop (i + 1) os) ≡ all
  ways_step os i o found all d h k =
      let more = λ (n : ℕ). ready_ways g s n (drop (i + 1) os) in
      append_assoc found (i ∷ []) (more (i + 1))
      ∙ ap (λ (n : ℕ). found ++ i ∷ more n) (add-one i)
      ∙ sym (ap (λ (c : Bool). found ++ (if c then i ∷ more (suc i) else more (suc i))) h)
      ∙ sym (ap (λ (zs : List Offer). found ++ ready_ways g s i zs) d)
      ∙ k

  pub ways_past : (os : List Offer) (i : ℕ) (o : Offer) (found all : List ℕ) → drop i os ≡ o ∷ drop (i + 1) os → offer_ready g s o ≡ false
      → found ++ ready_ways g s i (drop i os) ≡ all → found ++ ready_ways g s (i + 1) (drop (i + 1) os) ≡ all
  ways_past os i o found all d h k =
      let more = λ (n : ℕ). ready_ways g s n (drop (i + 1) os) in
      ap (λ (n : ℕ). found ++ more n) (add-one i)
      ∙ sym (ap (λ (c : Bool). found ++ (if c then i ∷ more (suc i) else more (suc i))) h)
      ∙ sym (ap (λ (zs : List Offer). found ++ ready_ways g s i zs) d)
      ∙ k

-- ---- who can move

module _ (s : State) where
  pub moves_step : (xs : List Goroutine) (i : ℕ) (x : Goroutine) (b : Bool) → drop i xs ≡ x ∷ drop (i + 1) xs → can_move i s x ≡ false
      → any_moves i (drop i xs) s ≡ b → any_moves (i + 1) (drop (i + 1) xs) s ≡ b
  moves_step xs i x b d h k =
      let more = λ (n : ℕ). any_moves n (drop (i + 1) xs) s in
      ap more (add-one i) ∙ sym (ap (λ (c : Bool). c || more (suc i)) h) ∙ sym (ap (λ (zs : List Goroutine). any_moves i zs s) d) ∙ k

  pub moves_found : (xs : List Goroutine) (i : ℕ) (x : Goroutine) (b : Bool) → drop i xs ≡ x ∷ drop (i + 1) xs → can_move i s x ≡ true
      → any_moves i (drop i xs) s ≡ b → true ≡ b
  moves_found xs i x b d h k =
      let more = any_moves (suc i) (drop (i + 1) xs) s in
      sym (ap (λ (c : Bool). c || more) h) ∙ sym (ap (λ (zs : List Goroutine). any_moves i zs s) d) ∙ k

  pub moves_end : (xs : List Goroutine) (i : ℕ) (b : Bool) → length xs ≤ i → any_moves i (drop i xs) s ≡ b → false ≡ b
  moves_end xs i b h k = sym (ap (λ (zs : List Goroutine). any_moves i zs s) (drop_all i xs h)) ∙ k

-- a stack with something on it
on_frames : {A : Type 0} (f : A → Frame) (xs : List A) (y : Frame) (ys : List Frame) → has_frames (fold (λ rest x. f x ∷ rest) (y ∷ ys) xs) ≡ true
on_frames f [] y ys = refl
on_frames f (x ∷ xs) y ys = on_frames f xs (f x) (y ∷ ys)

pub frames_there : {A : Type 0} (f : A → Frame) (xs : List A) → (length xs ≡ 0 → ⊥) → has_frames (stacked f xs) ≡ true
frames_there f [] h = absurd (h refl)
frames_there f (x ∷ xs) h = on_frames f xs (f x) []
