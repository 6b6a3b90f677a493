-- Goroutines that wait for a gate.
use Rattle.std.proofs.Common.{ap, ◌∙◌, ◌+◌, arith}
use Rattle.std.specs.Prelude.{◌≡◌, ◌≤◌, if◌then◌else◌, ℕ, suc, List, ◌∷◌, Bool, true, false, length, drop}
use Rattle.std.proofs.lemmas.List.{drop_all}
use Rattle.go_core.specs.CoreTree.{CoreProgram}
use Rattle.go_core.specs.Goroutine.{Goroutine, Move}
use Rattle.go_core.specs.Communicate.{is_at_gate, waiting_at_gate}

module _ (p : CoreProgram) (g : ℕ) (free : Move) (base : ℕ) where
  pub waits_step : (xs : List Goroutine) (i n all : ℕ) (x : Goroutine) → drop i xs ≡ x ∷ drop (i + 1) xs
      → is_at_gate p g free base x.waiting ≡ true
      → n + waiting_at_gate p g free base (drop i xs) ≡ all → (n + 1) + waiting_at_gate p g free base (drop (i + 1) xs) ≡ all
  waits_step xs i n all x d h k =
      let more = waiting_at_gate p g free base (drop (i + 1) xs) in
      let e : waiting_at_gate p g free base (drop i xs) ≡ suc more = ap (waiting_at_gate p g free base) d ∙ ap (λ (c : Bool). if c then suc more else more) h in
      omega arith

  pub waits_past : (xs : List Goroutine) (i n all : ℕ) (x : Goroutine) → drop i xs ≡ x ∷ drop (i + 1) xs
      → is_at_gate p g free base x.waiting ≡ false
      → n + waiting_at_gate p g free base (drop i xs) ≡ all → n + waiting_at_gate p g free base (drop (i + 1) xs) ≡ all
  waits_past xs i n all x d h k =
      let more = waiting_at_gate p g free base (drop (i + 1) xs) in
      let e : waiting_at_gate p g free base (drop i xs) ≡ more = ap (waiting_at_gate p g free base) d ∙ ap (λ (c : Bool). if c then suc more else more) h in
      omega arith

  pub waits_end : (xs : List Goroutine) (i n all : ℕ) → length xs ≤ i → n + waiting_at_gate p g free base (drop i xs) ≡ all → n ≡ all
  waits_end xs i n all h k =
      let e : waiting_at_gate p g free base (drop i xs) ≡ 0 = ap (waiting_at_gate p g free base) (drop_all i xs h) in
      omega arith
