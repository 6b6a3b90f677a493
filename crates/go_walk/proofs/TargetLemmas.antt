-- What may be left, from the inside out.
use Rattle.std.proofs.Common.{◌≡◌, ◌<◌, ◌≤◌, ◌-◌, ℕ, ◌∙◌, sym, ap, List, Bool, true, false, cond, ◌||◌, not, Some, None, length, take, get_or, map}
use Rattle.std.specs.Prelude.{reverse}
use Rattle.go_typing.specs.Walk as walk
use Rattle.go_typing.specs.Statements.{innermost, is_named, target_named}
use Rattle.go_walk.specs.declared.labels.target.Target.{Target}
use Rattle.go_walk.specs.Left.{target_of}
use Rattle.go_walk.proofs.LabelsSteps.{last_of}

module _ (loops : Bool) (i : ℕ) (xs : List Target) (x : Target) (some : 0 < i) (within : i ≤ length xs) (e : x ≡ get_or xs (i - 1) x) where
  abbrev outer : List walk.Target
  outer = reverse (map target_of (take (i - 1) xs))

  pub innermost_found : (x.is_loop || not loops) ≡ true → innermost loops (reverse (map target_of (take i xs))) ≡ Some x.label.0
  innermost_found p = ap (innermost loops) (last_of target_of i xs x some within e) ∙ ap (λ (b : Bool). cond b (Some x.label.0) (innermost loops outer)) p

  pub innermost_past : (x.is_loop || not loops) ≡ false → innermost loops outer ≡ innermost loops (reverse (map target_of (take i xs)))
  innermost_past p = sym (ap (innermost loops) (last_of target_of i xs x some within e) ∙ ap (λ (b : Bool). cond b (Some x.label.0) (innermost loops outer)) p)

  pub named_found : (y : List ℕ) → is_named y x.name ≡ true → target_named loops y (reverse (map target_of (take i xs))) ≡ cond (x.is_loop || not loops) (Some x.label.0) None
  named_found y p =
      ap (target_named loops y) (last_of target_of i xs x some within e) ∙ ap (λ (b : Bool). cond b (cond (x.is_loop || not loops) (Some x.label.0) None) (target_named loops y outer)) p

  pub named_past : (y : List ℕ) → is_named y x.name ≡ false → target_named loops y outer ≡ target_named loops y (reverse (map target_of (take i xs)))
  named_past y p =
      sym (ap (target_named loops y) (last_of target_of i xs x some within e) ∙ ap (λ (b : Bool). cond b (cond (x.is_loop || not loops) (Some x.label.0) None) (target_named loops y outer)) p)
