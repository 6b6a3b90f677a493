-- Parts by their numbers.
use Rattle.std.proofs.Common.{◌≡◌, refl, ap, sym, ◌∙◌, ℕ, List, Some, Bool, true, false, ◌&&◌, slice_get}
use Rattle.js_code.specs.Parts.{Part, as_expr, as_exprs, expr_at, exprs_at, tree_of, trees_of}
use Rattle.js_code.specs.PartLaws.{parts_stand}
use Rattle.js_simple.specs.Simple.{is_simple, IsSomeCode, IsSimpleAt, IsSimplePart}

-- the expression of a part that is there
pub expr_is : (ps : List Part) (i : ℕ) (p : Part) → IsSomeCode ps → slice_get ps i ≡ Some p → expr_at (trees_of ps) i ≡ as_expr (Some (tree_of (trees_of ps) p))
expr_is ps i p sound held = ap as_expr (parts_stand sound.0 ps sound.1 i p held)

pub exprs_is : (ps : List Part) (i : ℕ) (p : Part) → IsSomeCode ps → slice_get ps i ≡ Some p → exprs_at (trees_of ps) i ≡ as_exprs (Some (tree_of (trees_of ps) p))
exprs_is ps i p sound held = ap as_exprs (parts_stand sound.0 ps sound.1 i p held)

-- both of two tests
pub left_of : (a b : Bool) → (a && b) ≡ true → a ≡ true
left_of true b h = refl
left_of false b h = h

pub right_of : (a b : Bool) → (a && b) ≡ true → b ≡ true
right_of true b h = h
right_of false true h = refl
right_of false false h = h

-- a part that is there stands for an expression without a call
pub simple_part : (ps : List Part) (i : ℕ) (p : Part) → IsSomeCode ps → slice_get ps i ≡ Some p → IsSimpleAt ps i → IsSimplePart ps p
simple_part ps i p sound held h = record { simple = sym (ap is_simple (expr_is ps i p sound held)) ∙ h; number = i; held = held }
