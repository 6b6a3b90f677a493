-- The items of a script that stand behind the parts of the library.
use Rattle.std.specs.Prelude.{◌≡◌, ◌==◌, ℕ, suc, ◌+◌, List, [], ◌∷◌, ◌++◌, Bool, false, ◌||◌, if◌then◌else◌, length, map, unwrap_or}
use Rattle.std.specs.List.{slice_get}
use Rattle.js_tree.specs.Script as script
use Rattle.js_tree.specs.View.{item_view}
use Rattle.js_tree.specs.declared.tree.JsItem.{JsItem}
use Rattle.js_pool.specs.Names.{name_bytes}
use Rattle.js_pool.specs.Says.{AllTop}
use Rattle.js_pool.specs.declared.name.Name.{Name}
use Rattle.js_pool.specs.declared.node.Names.{Names}
use Rattle.js_pool.specs.declared.node.Block.{Block}
use Rattle.js_pool.specs.declared.node.Item.{Item}
use Rattle.js_pool.specs.declared.node.Item.TheVariants as item
use Rattle.js_pool.specs.declared.pool.Pool.{Pool}

-- whether the item with a number is among those that are reached
abbrev pub is_reached : List Bool → ℕ → Bool
is_reached reached n = unwrap_or (slice_get reached n) false

-- an item stands in the script where it is reached; the last one of so many always does
abbrev pub is_kept : List Bool → ℕ → ℕ → Bool
is_kept reached many n = is_reached reached n || (n + 1 == many)

-- of items, of which the first has this number, those that are kept
abbrev pub kept : (ℕ → Bool) → ℕ → List Item → List Item
kept keeps n [] = []
kept keeps n (x ∷ xs) = if keeps n then x ∷ kept keeps (suc n) xs else kept keeps (suc n) xs

-- the trees for which these items stand are added
abbrev pub AddsTrees : Pool → List Item → List JsItem → List JsItem → Type 0
AddsTrees p xs before after = (ys : List JsItem) × (after ≡ before ++ ys) × AllTop p xs (map item_view ys)

abbrev pub AddsOne : Pool → Bool → Item → List JsItem → List JsItem → Type 0
AddsOne p keeps x before after = AddsTrees p (if keeps then x ∷ [] else []) before after

-- the trees of the items of the tables that are kept are added, in order
abbrev pub AddsKept : Pool → List Bool → List JsItem → List JsItem → Type 0
AddsKept p reached before after = AddsTrees p (kept (is_kept reached (length p.items.items)) 0 p.items.items) before after

-- the last item is a function of this name
abbrev pub EndsWith : Pool → List ℕ → Type 0
EndsWith p x = (xs : List Item) × (f : Name) × (l : Names) × (b : Block) × (name_bytes f ≡ x) × (p.items.items ≡ xs ++ item.Function f l b ∷ [])

-- the last of a script's items is a function of this name
abbrev pub IsLast : List JsItem → List ℕ → Type 0
IsLast made x = (before : List JsItem) × (last : JsItem) × (f : script.Function) × (made ≡ before ++ last ∷ []) × (item_view last ≡ script.function_item f) × (f.name ≡ x)
