-- Lists of names and values.
use Rattle.std.proofs.Common.{◌≡◌, ◌<◌, ◌+◌, ◌∙◌, refl, sym, ap, arith, List, [], ◌∷◌, ◌++◌, ℕ, zero, suc, Bool, true, false, cond, length, get_or, drop, bytes_eq}
use Rattle.js_tree.specs.Script.{Name}
use Rattle.js_tree.specs.Value.{holds}
use Rattle.js_tree.specs.Value as run
use Rattle.js_tree.specs.Evaluate.{bound}
use Rattle.js_value.specs.ValueSeen.{value_of, values_of}
use Rattle.js_value.specs.declared.value.value.Value.{Value}

pub holds-append : (x : Name) (xs ys : List Name) → holds x (xs ++ ys) ≡ cond (holds x xs) true (holds x ys)
holds-append x [] ys = refl
holds-append x (y ∷ xs) ys = go (holds-append x xs ys) (bytes_eq x y)
  where
    go : holds x (xs ++ ys) ≡ cond (holds x xs) true (holds x ys) → (b : Bool) → cond b true (holds x (xs ++ ys)) ≡ cond (cond b true (holds x xs)) true (holds x ys)
    go h true = refl
    go h false = h

-- the first parameter that is left takes the first value that is left
pub bound_step : (ps : List Name) (vs : List Value) (i : ℕ) (p : Name) (v w : Value) → i < length ps → i < length vs → p ≡ get_or ps i p → v ≡ get_or vs i v → value_of w ≡ value_of v
    → bound (drop i ps) (values_of (drop i vs)) ≡ (p, value_of w) ∷ bound (drop (i + 1) ps) (values_of (drop (i + 1) vs))
bound_step [] vs i p v w l m e h q = absurd (omega arith)
bound_step (y ∷ ps) [] i p v w l m e h q = absurd (omega arith)
bound_step (y ∷ ps) (u ∷ vs) zero p v w l m e h q =
    ap (λ (y : Name). (y, value_of u) ∷ bound ps (values_of vs)) (sym e) ∙ ap (λ (z : run.Value). (p, z) ∷ bound ps (values_of vs)) (sym (ap value_of h) ∙ sym q)
bound_step (y ∷ ps) (u ∷ vs) (suc i) p v w l m e h q =
    let k : suc i + 1 ≡ suc (i + 1) = omega arith in
    rw k (bound_step ps vs i p v w (omega arith) (omega arith) e h q)
