-- One more item, kept or not, behind those before it.
use Rattle.std.proofs.Common.{◌≡◌, ℕ, suc, ◌+◌, Bor, List, [], ◌∷◌, ◌++◌, Bool, true, false, cond, length, map, take, Some, refl, ap, sym, ◌∙◌, subst, append_assoc, add-zero, arith}
use Rattle.std.specs.List.{slice_get}
use Rattle.std.specs.Slice.{IsItemAt}
use Rattle.std.proofs.lemmas.Option.{slice_get_read}
use Rattle.js_tree.specs.Script as script
use Rattle.js_tree.specs.View.{item_view}
use Rattle.js_tree.specs.declared.tree.JsItem.{JsItem}
use Rattle.js_pool.specs.Says as says
use Rattle.js_pool.specs.Says.{AllTop}
use Rattle.js_pool.specs.declared.node.Item.{Item}
use Rattle.js_pool.specs.declared.pool.Pool.{Pool}
use Rattle.js_pool.proofs.Held.{take_more}
use Rattle.js_emit.specs.Items.{kept, AddsTrees, AddsOne}

all_append : (p : Pool) (xs ys : List Item) (ts us : List script.Item) → AllTop p xs ts → AllTop p ys us → AllTop p (xs ++ ys) (ts ++ us)
all_append p [] ys [] us says.top_none b = b
all_append p [] ys (t ∷ ts) us a b = elim a [ ]
all_append p (x ∷ xs) ys [] us a b = elim a [ ]
all_append p (x ∷ xs) ys (t ∷ ts) us (says.top_more a c) b = says.top_more a (all_append p xs ys ts us c b)

map_append : {A B : Type 0} (f : A → B) (xs ys : List A) → map f (xs ++ ys) ≡ map f xs ++ map f ys
map_append f [] ys = refl
map_append f (x ∷ xs) ys = ap (λ zs. f x ∷ zs) (map_append f xs ys)

pub adds_more : (p : Pool) (xs ys : List Item) (before middle after : List JsItem) → AddsTrees p xs before middle → AddsTrees p ys middle after → AddsTrees p (xs ++ ys) before after
adds_more p xs ys before middle after a b = (
  a.0 ++ b.0,
  b.1 ∙ ap (λ zs. zs ++ b.0) a.1 ∙ append_assoc before a.0 b.0,
  rw (map_append item_view a.0 b.0) (all_append p xs ys _ _ a.2 b.2),
)

choose : (b : Bool) (x : Item) (us vs ws : List Item) → us ≡ vs ++ ws → cond b (x ∷ us) us ≡ cond b (x ∷ vs) vs ++ ws
choose true x us vs ws e = ap (λ zs. x ∷ zs) e
choose false x us vs ws e = e

pub kept_snoc : (keeps : ℕ → Bool) (n : ℕ) (xs : List Item) (x : Item) → kept keeps n (xs ++ x ∷ []) ≡ kept keeps n xs ++ cond (keeps (n + length xs)) (x ∷ []) []
kept_snoc keeps n [] x = rw (add-zero n) refl
kept_snoc keeps n (y ∷ xs) x =
    let e : n + suc (length xs) ≡ suc n + length xs = omega arith in
    rw e (choose (keeps n) y _ _ _ (kept_snoc keeps (suc n) xs x))

-- what is kept of one more item
pub kept_more : (keeps : ℕ → Bool) (xs : List Item) (i : ℕ) (x : Item) → length (take i xs) ≡ i → slice_get xs i ≡ Some x → kept keeps 0 (take (i + 1) xs) ≡ kept keeps 0 (take i xs) ++ cond (keeps i) (x ∷ []) []
kept_more keeps xs i x l h =
    let e : 0 + length (take i xs) ≡ i = omega arith in
    rw (take_more xs i x h) (subst (λ (n : ℕ). kept keeps 0 (take i xs ++ x ∷ []) ≡ kept keeps 0 (take i xs) ++ cond (keeps n) (x ∷ []) []) e (kept_snoc keeps 0 (take i xs) x))

-- what `get` gives
pub item_at : (made xs : List Item) (n : ℕ) (x : Bor Item) → made ≡ xs → IsItemAt made n (Some x) → slice_get xs n ≡ Some x.now
item_at made xs n x e h = ap (λ (zs : List Item). slice_get zs n) (sym e) ∙ slice_get_read made (length made) n x.now refl h.3.0 h.1

-- of a loop over the items, the next turn
pub kept_turn : (p : Pool) (keeps : ℕ → Bool) (xs : List Item) (i : ℕ) (x : Item) (before middle after : List JsItem) → length (take i xs) ≡ i → slice_get xs i ≡ Some x → AddsTrees p (kept keeps 0 (take i xs)) before middle → AddsOne p (keeps i) x middle after
    → AddsTrees p (kept keeps 0 (take (i + 1) xs)) before after
kept_turn p keeps xs i x before middle after l h a b = rw (kept_more keeps xs i x l h) (adds_more p _ _ before middle after a b)
