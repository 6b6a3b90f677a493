-- Calls nested so deep.
use Rattle.std.proofs.Common.{◌≡◌, ◌<◌, ◌-◌, refl, ap, ◌∙◌, List, ℕ, zero, suc, arith}
use mathlib.Core.Path.{fun_ext}
use Rattle.js_tree.specs.Script.{Function, ScriptTree}
use Rattle.js_tree.specs.Value.{Value, End, Going, World, over}
use Rattle.js_tree.specs.Evaluate.{Called, body_does, enter_within}
use Rattle.js_eval.specs.Limited.{Deeper, enter_limited, limited}

-- what calls nested deeper do may be what they do with as much fuel
pub enter_is : (script : ScriptTree) (choices : List ℕ) (d n : ℕ) → enter_limited (enter_within script choices) script choices d n ≡ enter_within script choices n
enter_is script choices zero n = fun_ext (λ f. fun_ext (λ vs. fun_ext (λ w. refl)))
enter_is script choices (suc d) zero = fun_ext (λ f. fun_ext (λ vs. fun_ext (λ w. refl)))
enter_is script choices (suc d) (suc n) =
    fun_ext (λ f. fun_ext (λ vs. fun_ext (λ w. ap (λ (enter : Function → List Value → World → Called). body_does (record { script = script; choices = choices; enter = enter }) f vs w) (enter_is script choices d n))))

pub too_deep : (deeper : Deeper) (script : ScriptTree) (choices : List ℕ) (d n : ℕ) (f : Function) (vs : List Value) (w : World) (e : End)
    → d ≡ 0 → ((n : ℕ) (f : Function) (vs : List Value) (w : World) → deeper n f vs w ≡ over e w) → enter_limited deeper script choices d n f vs w ≡ over e w
too_deep deeper script choices zero n f vs w e z h = h n f vs w
too_deep deeper script choices (suc d) n f vs w e z h = absurd (omega arith)

pub no_fuel : (deeper : Deeper) (script : ScriptTree) (choices : List ℕ) (d n : ℕ) (f : Function) (vs : List Value) (w : World)
    → 0 < d → n ≡ 0 → enter_limited deeper script choices d n f vs w ≡ over Going w
no_fuel deeper script choices zero n f vs w l z = absurd (omega arith)
no_fuel deeper script choices (suc d) zero f vs w l z = refl
no_fuel deeper script choices (suc d) (suc n) f vs w l z = absurd (omega arith)

pub one_deeper : (deeper : Deeper) (script : ScriptTree) (choices : List ℕ) (d n : ℕ) (f : Function) (vs : List Value) (w : World)
    → 0 < d → 0 < n → enter_limited deeper script choices d n f vs w ≡ body_does (limited deeper script choices (d - 1) (n - 1)) f vs w
one_deeper deeper script choices zero n f vs w l k = absurd (omega arith)
one_deeper deeper script choices (suc d) zero f vs w l k = absurd (omega arith)
one_deeper deeper script choices (suc d) (suc n) f vs w l k =
    let p : d ≡ suc d - 1 = omega arith in
    let q : n ≡ suc n - 1 = omega arith in
    ap (λ m. body_does (limited deeper script choices m n) f vs w) p ∙ ap (λ m. body_does (limited deeper script choices (suc d - 1) m) f vs w) q
