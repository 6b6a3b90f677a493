-- The last item of a script.
use Rattle.std.proofs.Common.{◌≡◌, ℕ, ◌+◌, ◌||◌, List, [], ◌∷◌, ◌++◌, Bool, true, false, cond, length, map, refl, ap, sym, ◌∙◌, subst, append_assoc, length-append, zero-add, eq-eqb}
use Rattle.js_tree.specs.Script as script
use Rattle.js_tree.specs.View.{item_view}
use Rattle.js_tree.specs.declared.tree.JsItem.{JsItem}
use Rattle.js_pool.specs.Names.{name_bytes}
use Rattle.js_pool.specs.Says as says
use Rattle.js_pool.specs.Says.{AllTop, Tops}
use Rattle.js_pool.specs.Stands.{Later}
use Rattle.js_pool.specs.declared.name.Name.{Name}
use Rattle.js_pool.specs.declared.node.Names.{Names}
use Rattle.js_pool.specs.declared.node.Block.{Block}
use Rattle.js_pool.specs.declared.node.Item.{Item}
use Rattle.js_pool.specs.declared.node.Item.TheVariants as item
use Rattle.js_pool.specs.declared.pool.Pool.{Pool}
use Rattle.js_emit.specs.Items.{is_reached, is_kept, kept, AddsTrees, AddsKept, EndsWith, IsLast}
use Rattle.js_emit.proofs.Kept.{kept_snoc}

-- the last tree is that of the last item
last_tree : (p : Pool) (xs : List Item) (x : Item) (ys : List JsItem) → AllTop p (xs ++ x ∷ []) (map item_view ys) → (zs : List JsItem) × (y : JsItem) × (ys ≡ zs ++ y ∷ []) × Tops p x (item_view y)
last_tree p [] x [] a = elim a [ ]
last_tree p [] x (y ∷ []) (says.top_more a b) = ([], y, refl, a)
last_tree p [] x (y ∷ z ∷ ys) (says.top_more a b) = elim b [ ]
last_tree p (w ∷ xs) x [] a = elim a [ ]
last_tree p (w ∷ xs) x (y ∷ ys) (says.top_more a b) = let r = last_tree p xs x ys b in (y ∷ r.0, r.1, ap (λ zs. y ∷ zs) r.2, r.3)

named : (p : Pool) (f : Name) (l : Names) (b : Block) (t : script.Item) → Tops p (item.Function f l b) t → (g : script.Function) × (t ≡ script.function_item g) × (g.name ≡ name_bytes f)
named p f l b _ (says.function a c) = (_, refl, refl)

or_true : (b c : Bool) → c ≡ true → (b || c) ≡ true
or_true true c e = refl
or_true false c e = e

last_kept : (reached : List Bool) (xs : List Item) (x : Item) → kept (is_kept reached (length (xs ++ x ∷ []))) 0 (xs ++ x ∷ []) ≡ kept (is_kept reached (length (xs ++ x ∷ []))) 0 xs ++ x ∷ []
last_kept reached xs x =
    let all = xs ++ x ∷ [] in
    let keeps : ℕ → Bool = is_kept reached (length all) in
    let many : length xs + 1 ≡ length all = sym (length-append xs (x ∷ [])) in
    let e : keeps (0 + length xs) ≡ true = ap keeps (zero-add (length xs)) ∙ or_true (is_reached reached (length xs)) _ (eq-eqb _ _ many) in
    subst (λ (b : Bool). kept keeps 0 all ≡ kept keeps 0 xs ++ cond b (x ∷ []) []) e (kept_snoc keeps 0 xs x)

pub is_last : (p : Pool) (reached : List Bool) (parts made : List JsItem) (x : List ℕ) → AddsKept p reached parts made → EndsWith p x → IsLast made x
is_last p reached parts made x a h =
    let z = item.Function h.1 h.2 h.3 in
    let b = subst (λ (ys : List Item). AddsTrees p (kept (is_kept reached (length ys)) 0 ys) parts made) h.5 a in
    let c = subst (λ (ys : List Item). AddsTrees p ys parts made) (last_kept reached h.0 z) b in
    let r = last_tree p _ z c.0 c.2 in
    let n = named p h.1 h.2 h.3 (item_view r.1) r.3 in
    (parts ++ r.0, r.1, n.0, c.1 ∙ ap (λ zs. parts ++ zs) r.2 ∙ sym (append_assoc parts r.0 (r.1 ∷ [])), n.1, n.2 ∙ h.4)

-- while memory lasts
pub still : (p : Pool) → p.failed ≡ false → Later p p
unfolding Later
still p e =
    record { sound = e; nodes = λ i x h. h; lists = λ i x h. h; bytes = λ i x h. h; stmts = λ i x h. h; cases = λ i x h. h; names = λ i x h. h; items = λ i x h. h }
