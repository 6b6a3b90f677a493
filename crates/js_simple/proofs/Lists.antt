-- Lists of expressions in the code, cell by cell.
use Rattle.std.proofs.Common.{◌≡◌, refl, ap, sym, ◌∙◌, ◌≤◌, arith, ℕ, zero, suc, ◌+◌, List, [], ◌∷◌, ◌++◌, length, Option, Some, None, slice_get}
use Rattle.std.specs.Prelude.{fold}
use Rattle.std.proofs.Math.Bool.{Bool-set}
use Rattle.std.proofs.Math.Logic.{∥∥₁_elim}
use Rattle.std.proofs.lemmas.List.{append-nil, length-append}
use Rattle.std.proofs.lemmas.Option.{slice_get_past}
use Rattle.js_tree.specs.Script.{Exprs, no_exprs}
use Rattle.js_tree.specs.Value.{Value, World, gives, and_then}
use Rattle.js_tree.specs.Evaluate.{eval_all}
use Rattle.js_code.specs.Places.{table_of}
use Rattle.js_code.specs.Held.{part_of}
use Rattle.js_code.specs.Parts.{Part, Tree, as_exprs, expr_at, exprs_at, tree_of, with_tree, trees_of}
use Rattle.js_code.specs.declared.code.part.Part as kept
use Rattle.js_code.specs.declared.code.part.Part.TheVariants.{More}
use Rattle.js_simple.specs.declared.list.Cell.{Cell}
use Rattle.js_simple.specs.declared.state.Context.{Context}
use Rattle.js_simple.specs.Simple.{is_simple, are_simple, IsSomeCode, IsSimpleAt, AreSimpleAt}
use Rattle.js_simple.specs.Cells.{exprs_of, count_of}
use Rattle.js_simple.specs.Seen.{Point, Stands}
use Rattle.js_simple.specs.PartDoes.{eval_at, eval_all_at}
use Rattle.js_simple.proofs.Parts.{left_of, right_of, exprs_is}
use Rattle.js_simple.proofs.Follows.{onto_more}

-- as many trees as parts
length_trees : (trees : List Tree) (parts : List Part) → length (fold with_tree trees parts) ≡ length trees + length parts
length_trees trees [] = omega arith
length_trees trees (p ∷ ps) =
    let r = length_trees (with_tree trees p) ps in
    let e = length-append trees (tree_of trees p ∷ []) in
    omega (arith, r, e)

past : {A : Type 0} (xs : List A) (i : ℕ) → slice_get xs i ≡ None → length xs ≤ i
past [] i h = omega arith
past (x ∷ xs) zero h = cc
past (x ∷ xs) (suc i) h = let r = past xs i h in omega (arith, r)

-- no part, no tree
pub no_tree : (ps : List Part) (i : ℕ) → slice_get ps i ≡ None → slice_get (trees_of ps) i ≡ None
no_tree ps i h = let k = past ps i h in slice_get_past (trees_of ps) i (omega (arith, length_trees [] ps, k))

-- a part that is no cell stands for no expressions
pub no_cell : (trees : List Tree) (q : kept.Part) → ((e es : ℕ) → q ≡ More e es → ⊥) → as_exprs (Some (tree_of trees (part_of q))) ≡ no_exprs
no_cell trees (More e es) h = absurd (h e es refl)
no_cell trees q h = refl

pub cell_is : (ps : List Part) (i : ℕ) (q : kept.Part) (o : Option Cell) → IsSomeCode ps → slice_get ps i ≡ Some (part_of q)
    → ((trees : List Tree) → as_exprs (Some (tree_of trees (part_of q))) ≡ exprs_of trees o) → exprs_at (trees_of ps) i ≡ exprs_of (trees_of ps) o
cell_is ps i q o sound held h = exprs_is ps i (part_of q) sound held ∙ h (trees_of ps)

-- a list without calls has none in its first expression, and none in the others
pub first_simple : (ps : List Part) (i : ℕ) (cell : Cell) → ∥ IsSomeCode ps ∥₁ → (IsSomeCode ps → exprs_at (trees_of ps) i ≡ exprs_of (trees_of ps) (Some cell))
    → AreSimpleAt ps i → IsSimpleAt ps cell.first
first_simple ps i cell sound h simple =
    ∥∥₁_elim sound (Bool-set _ _) (λ s. left_of (is_simple (expr_at (trees_of ps) cell.first)) (are_simple (exprs_at (trees_of ps) cell.rest)) (sym (ap are_simple (h s)) ∙ simple))

pub rest_simple : (ps : List Part) (i : ℕ) (cell : Cell) → ∥ IsSomeCode ps ∥₁ → (IsSomeCode ps → exprs_at (trees_of ps) i ≡ exprs_of (trees_of ps) (Some cell))
    → AreSimpleAt ps i → AreSimpleAt ps cell.rest
rest_simple ps i cell sound h simple =
    ∥∥₁_elim sound (Bool-set _ _) (λ s. right_of (is_simple (expr_at (trees_of ps) cell.first)) (are_simple (exprs_at (trees_of ps) cell.rest)) (sym (ap are_simple (h s)) ∙ simple))

-- the code of a context that stands for something
pub some_code : (c : Context) (p : Point) → Stands c p → IsSomeCode c.code.now
some_code c p s = (table_of p.setting.script p.scope.names, s.code)

-- the values of a list, by how it goes on
pub list_does : (c : Context) (p : Point) (s : Stands c p) (i : ℕ) (o : Option Cell) (done : List Value) (w : World)
    → (IsSomeCode c.code.now → exprs_at (trees_of c.code.now) i ≡ exprs_of (trees_of c.code.now) o)
    → eval_all_at c done i p w ≡ and_then (eval_all p.setting p.scope p.locals (exprs_of (trees_of c.code.now) o) w) (λ vs w. gives (done ++ vs) w)
list_does c p s i o done w h = ap (λ (es : Exprs). and_then (eval_all p.setting p.scope p.locals es w) (λ vs w. gives (done ++ vs) w)) (h (some_code c p s))

pub list_more : (c : Context) (p : Point) (s : Stands c p) (i : ℕ) (cell : Cell) (done more : List Value) (v : Value) (w t : World)
    → (IsSomeCode c.code.now → exprs_at (trees_of c.code.now) i ≡ exprs_of (trees_of c.code.now) (Some cell))
    → eval_at c cell.first p w ≡ gives v t → more ≡ done ++ v ∷ [] → eval_all_at c done i p w ≡ eval_all_at c more cell.rest p t
list_more c p s i cell done more v w t h e m =
    list_does c p s i (Some cell) done w h
    ∙ onto_more done (eval_at c cell.first p w) (eval_all p.setting p.scope p.locals (exprs_at (trees_of c.code.now) cell.rest)) v t e
    ∙ ap (λ (vs : List Value). eval_all_at c vs cell.rest p t) (sym m)

pub list_ends : (c : Context) (p : Point) (s : Stands c p) (i : ℕ) (done : List Value) (w : World)
    → (IsSomeCode c.code.now → exprs_at (trees_of c.code.now) i ≡ exprs_of (trees_of c.code.now) None)
    → eval_all_at c done i p w ≡ gives done w
list_ends c p s i done w h = list_does c p s i None done w h ∙ ap (λ (vs : List Value). gives vs w) (append-nil done)

-- one expression, and those that the list goes on with
pub count_more : (ps : List Part) (i : ℕ) (cell : Cell) → exprs_at (trees_of ps) i ≡ exprs_of (trees_of ps) (Some cell)
    → count_of (exprs_at (trees_of ps) i) ≡ suc (count_of (exprs_at (trees_of ps) cell.rest))
count_more ps i cell h = ap count_of h

pub count_none : (ps : List Part) (i : ℕ) → exprs_at (trees_of ps) i ≡ exprs_of (trees_of ps) None → count_of (exprs_at (trees_of ps) i) ≡ 0
count_none ps i h = ap count_of h
