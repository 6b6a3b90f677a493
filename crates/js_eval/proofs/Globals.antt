-- Top-level variables, set in order.
use Rattle.std.proofs.Common.{◌≡◌, ◌<◌, ◌≤◌, ◌+◌, refl, ap, sym, ◌∙◌, ℕ, List, [], ◌∷◌, length, get_or, drop, map}
use Rattle.std.proofs.Math.ListN.{drop_of_length-le}
use Rattle.js_tree.specs.Script.{Name}
use Rattle.js_tree.specs.Value.{Value, World, Outcome, gives, and_then, with_entry}
use Rattle.js_tree.specs.Evaluate.{Setting, eval}
use Rattle.js_tree.specs.ScriptRun.{set_globals, top_scope}
use Rattle.js_tree.specs.View.{expr_view, item_view}
use Rattle.js_tree.specs.declared.tree.JsExpr.{JsExpr}
use Rattle.js_tree.specs.declared.tree.JsItem.{JsItem}
use Rattle.js_tree.specs.declared.tree.JsItem.TheVariants as item
use Rattle.js_eval.proofs.Steps.{drop_step}

-- how far the items have come
abbrev pub Set : Setting → List JsItem → ℕ → World → World → Type 0
Set st xs i w u = set_globals st (map item_view xs) w ≡ set_globals st (map item_view (drop i xs)) u

-- goes on after a variable
abbrev pub goes_on : Setting → List JsItem → ℕ → Name → Value → World → Outcome World (Unit {0})
goes_on st xs i n v w = set_globals st (map item_view (drop (i + 1) xs)) (record w { globals = with_entry n v w.globals })

global_step : (st : Setting) (xs : List JsItem) (i : ℕ) (x : JsItem) (n : Name) (e : JsExpr) (at : ℕ) (w u : World) → Set st xs i w u → i < length xs → x ≡ get_or xs i x → x ≡ item.Global n e at
    → set_globals st (map item_view xs) w ≡ and_then (eval st top_scope [] (expr_view e) u) (goes_on st xs i n)
global_step st xs i x n e at w u s l h q =
    s ∙ (ap (λ (xs : List JsItem). set_globals st (map item_view xs) u) (drop_step xs i x l h)
    ∙ ap (λ (y : JsItem). set_globals st (item_view y ∷ map item_view (drop (i + 1) xs)) u) q)

pub globals_next : (st : Setting) (xs ys : List JsItem) (i : ℕ) (x : JsItem) (n : Name) (e : JsExpr) (at : ℕ) (w u : World) → xs ≡ ys → Set st xs i w u → i < length xs → x ≡ get_or xs i x → x ≡ item.Global n e at
    → set_globals st (map item_view ys) w ≡ and_then (eval st top_scope [] (expr_view e) u) (goes_on st xs i n)
globals_next st xs ys i x n e at w u p s l h q =
    ap (λ (xs : List JsItem). set_globals st (map item_view xs) w) (sym p) ∙ global_step st xs i x n e at w u s l h q

pub globals_set : (st : Setting) (xs : List JsItem) (i : ℕ) (x : JsItem) (n : Name) (e : JsExpr) (at : ℕ) (w u k t : World) (v : Value) → Set st xs i w u → i < length xs → x ≡ get_or xs i x → x ≡ item.Global n e at
    → eval st top_scope [] (expr_view e) u ≡ gives v k → t ≡ record k { globals = with_entry n v k.globals } → Set st xs (i + 1) w t
globals_set st xs i x n e at w u k t v s l h q y z =
    global_step st xs i x n e at w u s l h q ∙ (ap (λ o. and_then o (goes_on st xs i n)) y ∙ ap (set_globals st (map item_view (drop (i + 1) xs))) (sym z))

pub globals_other : (st : Setting) (xs : List JsItem) (i : ℕ) (x : JsItem) (w u : World) → Set st xs i w u → i < length xs → x ≡ get_or xs i x
    → ((n : Name) (e : JsExpr) (at : ℕ) → x ≡ item.Global n e at → ⊥) → Set st xs (i + 1) w u
globals_other st xs i (item.Function f) w u s l h q = s ∙ ap (λ (xs : List JsItem). set_globals st (map item_view xs) u) (drop_step xs i (item.Function f) l h)
globals_other st xs i (item.Global n e at) w u s l h q = absurd (q n e at refl)

pub globals_done : (st : Setting) (xs ys : List JsItem) (i : ℕ) (w u : World) → xs ≡ ys → Set st xs i w u → length xs ≤ i → set_globals st (map item_view ys) w ≡ gives tt u
globals_done st xs ys i w u p s l =
    ap (λ (xs : List JsItem). set_globals st (map item_view xs) w) (sym p) ∙ (s ∙ ap (λ (xs : List JsItem). set_globals st (map item_view xs) u) (drop_of_length-le xs l))
