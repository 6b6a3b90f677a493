-- What goes on after an operand was found.
use Rattle.std.proofs.Common.{◌≡◌, ◌∙◌, ◌∷◌, [], sym, ap, subst, ℕ, Bool, true, false}
use Rattle.std.specs.Prelude.{if◌then◌else◌}
use Rattle.go_core.specs.Memory as core
use Rattle.go_core.specs.Memory.{Value, with_fresh}
use Rattle.go_core.specs.Did as defined
use Rattle.go_core.specs.Did.{gives}
use Rattle.go_values.specs.OperatorsSeen.{Stops}
use Rattle.go_values.specs.declared.operators.did.Stop.{Stop}

-- a stop that was seen of an equal step
pub stops : (x : Stop) (d e : defined.Did) → d ≡ e → Stops x e → Stops x d
stops x d e h s = subst (λ (w : defined.Did). Stops x w) (sym h) s

pub if_true : {A : Type 0} (b : Bool) (x y : A) → b ≡ true → (if b then x else y) ≡ x
if_true {A} b x y h = ap (λ (c : Bool). if c then x else y) h

pub if_false : {A : Type 0} (b : Bool) (x y : A) → b ≡ false → (if b then x else y) ≡ y
if_false {A} b x y h = ap (λ (c : Bool). if c then x else y) h

-- one value and a fresh variable, said otherwise
pub made : (v xs ys : Value) (m : core.Memory) (n k : ℕ) → ys ≡ xs → k ≡ n → gives (v ∷ []) (with_fresh m xs) n ≡ gives (v ∷ []) (with_fresh m ys) k
made v xs ys m n k e h = ap (λ (zs : Value). gives (v ∷ []) (with_fresh m zs) n) (sym e) ∙ ap (λ (j : ℕ). gives (v ∷ []) (with_fresh m ys) j) (sym h)
