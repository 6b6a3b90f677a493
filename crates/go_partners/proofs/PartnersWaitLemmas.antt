-- Goroutines and their ways, gone over from the front.
use Rattle.std.proofs.Common.{refl, sym, ap, ◌∙◌, ◌+◌, add-one, arith}
use Rattle.std.specs.Prelude.{◌≡◌, ◌≤◌, ◌==◌, ◌&&◌, ◌||◌, not, if◌then◌else◌, ℕ, suc, List, [], ◌∷◌, Bool, true, false, length, drop}
use Rattle.std.proofs.lemmas.List.{drop_all}
use Rattle.go_core.specs.CoreTree.{CoreProgram}
use Rattle.go_core.specs.Goroutine.{Offer, Goroutine, Move}
use Rattle.go_partners.specs.Sought.{test_of}
use Rattle.go_partners.specs.declared.partners.partners.Side.TheVariants as side
use Rattle.go_core.specs.Communicate.{sends_to, receives_from, any_offer, offers_of, has_partner, is_at, waiting_at}

module _ (test : Offer → Bool) where
  -- ---- the ways of one goroutine

  pub offer_step : (os : List Offer) (i : ℕ) (o : Offer) (b : Bool) → drop i os ≡ o ∷ drop (i + 1) os → test o ≡ false
      → any_offer test (drop i os) ≡ b → any_offer test (drop (i + 1) os) ≡ b
  offer_step os i o b d h k =
      let more = any_offer test (drop (i + 1) os) in
      sym (ap (λ (c : Bool). c || more) h) ∙ sym (ap (any_offer test) d) ∙ k

  pub offer_found : (os : List Offer) (i : ℕ) (o : Offer) (b : Bool) → drop i os ≡ o ∷ drop (i + 1) os → test o ≡ true
      → any_offer test (drop i os) ≡ b → true ≡ b
  offer_found os i o b d h k =
      let more = any_offer test (drop (i + 1) os) in
      sym (ap (λ (c : Bool). c || more) h) ∙ sym (ap (any_offer test) d) ∙ k

  pub offer_end : (os : List Offer) (i : ℕ) (b : Bool) → length os ≤ i → any_offer test (drop i os) ≡ b → false ≡ b
  offer_end os i b h k = sym (ap (any_offer test) (drop_all i os h)) ∙ k

  -- ---- another goroutine that waits so

  pub partner_step : (g : ℕ) (xs : List Goroutine) (i : ℕ) (x : Goroutine) (b : Bool) → drop i xs ≡ x ∷ drop (i + 1) xs
      → (not (g == i) && any_offer test (offers_of x.waiting)) ≡ false
      → has_partner test g i (drop i xs) ≡ b → has_partner test g (i + 1) (drop (i + 1) xs) ≡ b
  partner_step g xs i x b d h k =
      let more = λ (n : ℕ). has_partner test g n (drop (i + 1) xs) in
      ap more (add-one i) ∙ sym (ap (λ (c : Bool). c || more (suc i)) h) ∙ sym (ap (has_partner test g i) d) ∙ k

  pub partner_found : (g : ℕ) (xs : List Goroutine) (i : ℕ) (x : Goroutine) (b : Bool) → drop i xs ≡ x ∷ drop (i + 1) xs
      → (not (g == i) && any_offer test (offers_of x.waiting)) ≡ true
      → has_partner test g i (drop i xs) ≡ b → true ≡ b
  partner_found g xs i x b d h k =
      let more = has_partner test g (suc i) (drop (i + 1) xs) in
      sym (ap (λ (c : Bool). c || more) h) ∙ sym (ap (has_partner test g i) d) ∙ k

  pub partner_end : (g : ℕ) (xs : List Goroutine) (i : ℕ) (b : Bool) → length xs ≤ i → has_partner test g i (drop i xs) ≡ b → false ≡ b
  partner_end g xs i b h k = sym (ap (has_partner test g i) (drop_all i xs h)) ∙ k

-- ---- how many wait

module _ (p : CoreProgram) (g : ℕ) (free : Move) (name : ℕ) where
  pub either_is : (os : List Offer) → any_offer (test_of side.Either name) os ≡ any_offer (is_at p g free name) os
  either_is [] = refl
  either_is (o ∷ os) = ap (λ (b : Bool). (sends_to name o || receives_from name o) || b) (either_is os)

  pub waits_step : (xs : List Goroutine) (i n all : ℕ) (x : Goroutine) → drop i xs ≡ x ∷ drop (i + 1) xs
      → any_offer (is_at p g free name) (offers_of x.waiting) ≡ true
      → n + waiting_at p g free name (drop i xs) ≡ all → (n + 1) + waiting_at p g free name (drop (i + 1) xs) ≡ all
  waits_step xs i n all x d h k =
      let more = waiting_at p g free name (drop (i + 1) xs) in
      let e : waiting_at p g free name (drop i xs) ≡ suc more = ap (waiting_at p g free name) d ∙ ap (λ (c : Bool). if c then suc more else more) h in
      omega arith

  pub waits_past : (xs : List Goroutine) (i n all : ℕ) (x : Goroutine) → drop i xs ≡ x ∷ drop (i + 1) xs
      → any_offer (is_at p g free name) (offers_of x.waiting) ≡ false
      → n + waiting_at p g free name (drop i xs) ≡ all → n + waiting_at p g free name (drop (i + 1) xs) ≡ all
  waits_past xs i n all x d h k =
      let more = waiting_at p g free name (drop (i + 1) xs) in
      let e : waiting_at p g free name (drop i xs) ≡ more = ap (waiting_at p g free name) d ∙ ap (λ (c : Bool). if c then suc more else more) h in
      omega arith

  pub waits_end : (xs : List Goroutine) (i n all : ℕ) → length xs ≤ i → n + waiting_at p g free name (drop i xs) ≡ all → n ≡ all
  waits_end xs i n all h k =
      let e : waiting_at p g free name (drop i xs) ≡ 0 = ap (waiting_at p g free name) (drop_all i xs h) in
      omega arith
