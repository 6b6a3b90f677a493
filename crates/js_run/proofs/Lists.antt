-- The first values of items, one after the other.
use Rattle.std.proofs.Common.{◌≡◌, ap, sym, ◌∙◌, subst, List, [], ◌∷◌, ◌++◌, ◌≤◌, ◌<◌, ◌+◌, ℕ, suc, length, take, get_or, map, arith}
use Rattle.std.proofs.lemmas.List.{map-append, take_all}
use Rattle.std.proofs.Math.Seq.{take-suc}
use Rattle.std.specs.Prelude.{Some}
use Rattle.js_tree.specs.Script.{Name, Expr, Item, function_item, global_item, ScriptTree}
use Rattle.js_tree.specs.View.{item_view}
use Rattle.js_tree.specs.declared.tree.JsItem.{JsItem}
use Rattle.js_code.specs.Names.{distinct, index_in, global_names}
use Rattle.js_steps.specs.Bodies.{IsValueBody}
use Rattle.js_run.specs.declared.whole.prepare.First.{First}
use Rattle.js_run.specs.Firsts.{IsFirst, AreFirsts, AddsFirst}

first_last : (script : ScriptTree) (items : List Item) (fs : List First) (at : ℕ) (x : Name) (e : Expr) (f : First) → AreFirsts script items fs → IsFirst script f x e
    → AreFirsts script (items ++ global_item at x e ∷ []) (fs ++ f ∷ [])
first_last script [] [] at x e f a h = (h, tt)
first_last script [] (g ∷ fs) at x e f a h = absurd a
first_last script (function_item y ∷ items) fs at x e f a h = first_last script items fs at x e f a h
first_last script (global_item j y z ∷ items) [] at x e f a h = absurd a
first_last script (global_item j y z ∷ items) (g ∷ fs) at x e f a h = (a.0, first_last script items fs at x e f a.1 h)

function_last : (script : ScriptTree) (items : List Item) (fs : List First) (g : Item) → AreFirsts script (g ∷ []) [] → AreFirsts script items fs → AreFirsts script (items ++ g ∷ []) fs
function_last script [] [] g h a = h
function_last script [] (f ∷ fs) g h a = absurd a
function_last script (function_item y ∷ items) fs g h a = function_last script items fs g h a
function_last script (global_item j y z ∷ items) [] g h a = absurd a
function_last script (global_item j y z ∷ items) (f ∷ fs) g h a = (a.0, function_last script items fs g h a.1)

-- those of one item more
added : (script : ScriptTree) (items : List Item) (item : Item) (old new : List First) → AreFirsts script items old → AddsFirst script item old new → AreFirsts script (items ++ item ∷ []) new
added script items (function_item g) old new a h =
    subst (AreFirsts script (items ++ function_item g ∷ [])) (sym h) (function_last script items old (function_item g) tt a)
added script items (global_item at x e) old new a h =
    subst (AreFirsts script (items ++ global_item at x e ∷ [])) (sym h.1) (first_last script items old at x e h.0 a h.2)

pub next_first : (script : ScriptTree) (items : List JsItem) (i : ℕ) (x : JsItem) (old new : List First) → i < length items → x ≡ get_or items i x → AreFirsts script (map item_view (take i items)) old
    → AddsFirst script (item_view x) old new → AreFirsts script (map item_view (take (i + 1) items)) new
next_first script items i x old new l e a h =
    let n : suc i ≡ i + 1 = omega arith in
    let q : map item_view (take i items) ++ item_view x ∷ [] ≡ map item_view (take (i + 1) items) =
    ap (λ (y : JsItem). map item_view (take i items) ++ item_view y ∷ []) e
    ∙ sym (map-append item_view (take i items) (get_or items i x ∷ []))
    ∙ ap (map item_view) (sym (take-suc items i x l))
    ∙ ap (λ (k : ℕ). map item_view (take k items)) n in
    subst (λ (xs : List Item). AreFirsts script xs new) q (added script (map item_view (take i items)) (item_view x) old new a h)

pub all_firsts : (script : ScriptTree) (items : List JsItem) (i : ℕ) (fs : List First) → length items ≤ i → AreFirsts script (map item_view (take i items)) fs → AreFirsts script (map item_view items) fs
all_firsts script items i fs l a = subst (λ (xs : List JsItem). AreFirsts script (map item_view xs) fs) (take_all i items l) a

-- the code of a variable's first value is added
pub adds_global : (script : ScriptTree) (it : JsItem) (at : ℕ) (x : Name) (e : Expr) (f : First) (old new : List First) (globals : List Name) → item_view it ≡ global_item at x e → new ≡ old ++ f ∷ []
    → globals ≡ distinct (global_names script.items) → index_in globals x ≡ Some f.slot → IsValueBody script f.body e → AddsFirst script (item_view it) old new
adds_global script it at x e f old new globals is n names slot body =
    subst (λ (y : Item). AddsFirst script y old new) (sym is) (f, n, record { slot = subst (λ (xs : List Name). index_in xs x ≡ Some f.slot) names slot; body = body })
