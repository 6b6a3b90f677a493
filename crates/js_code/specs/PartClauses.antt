-- Own: what the laws say of the parts of expressions and statements.
use Rattle.std.specs.Prelude.{◌≡◌, ℕ, ◌<◌, List, [], ◌∷◌, ◌++◌, Some, slice_get}
use Rattle.js_tree.specs.Script.{Expr, Stmts}
use Rattle.js_code.specs.Names.{index_in}
use Rattle.js_code.specs.Places.{Table, place_of, target_of}
use Rattle.js_code.specs.Parts.{Part, number, string, boolean, null, name, unary, binary, both, either, choice, call, index, length_of, pop, char_code_at, substring, array, dictionary, decimal_of, from_char_code, no_more, more, declare, assign, store, perform, push, remove, branch, while, forever, switch, return_nothing, return, throw, break, continue, attempt, done, then, no_else, else_block, else_if, no_cases, default, case, Tree, one, block, tree_of, trees_of, last}
use Rattle.js_code.specs.ExprParts.{with_expr}
use Rattle.js_code.specs.StmtParts.{with_stmts}

-- the numbers of the parts that a part is made of, in the order in which they were added
abbrev pub parts_in : Part → List ℕ
parts_in (number at n) = []
parts_in (string at s) = []
parts_in (boolean at b) = []
parts_in (null at) = []
parts_in (name at x place) = []
parts_in (unary at op e) = e ∷ []
parts_in (binary at op a b) = a ∷ b ∷ []
parts_in (both at a b) = a ∷ b ∷ []
parts_in (either at a b) = a ∷ b ∷ []
parts_in (choice at a b c) = a ∷ b ∷ c ∷ []
parts_in (call at f es) = f ∷ es ∷ []
parts_in (index at e i) = e ∷ i ∷ []
parts_in (length_of at e) = e ∷ []
parts_in (pop at e) = e ∷ []
parts_in (char_code_at at e i) = e ∷ i ∷ []
parts_in (substring at e i j) = e ∷ i ∷ j ∷ []
parts_in (array at es) = es ∷ []
parts_in (dictionary at) = []
parts_in (decimal_of at e) = e ∷ []
parts_in (from_char_code at e) = e ∷ []
parts_in no_more = []
parts_in (more e es) = es ∷ e ∷ []
parts_in (declare at x slot e) = e ∷ []
parts_in (assign at x target e) = e ∷ []
parts_in (store at e i v) = e ∷ i ∷ v ∷ []
parts_in (perform at e) = e ∷ []
parts_in (push at e v) = e ∷ v ∷ []
parts_in (remove at e k) = e ∷ k ∷ []
parts_in (branch at e b x) = e ∷ b ∷ x ∷ []
parts_in (while at l e b) = e ∷ b ∷ []
parts_in (forever at l b) = b ∷ []
parts_in (switch at l e cs) = e ∷ cs ∷ []
parts_in (return_nothing at) = []
parts_in (return at e) = e ∷ []
parts_in (throw at e) = e ∷ []
parts_in (break at l) = []
parts_in (continue at l) = []
parts_in (attempt at b h) = b ∷ h ∷ []
parts_in done = []
parts_in (then s ss) = ss ∷ s ∷ []
parts_in no_else = []
parts_in (else_block b) = b ∷ []
parts_in (else_if at e b x) = e ∷ b ∷ x ∷ []
parts_in no_cases = []
parts_in (default b) = b ∷ []
parts_in (case n b cs) = cs ∷ b ∷ []

abbrev pub AreBelow : ℕ → List ℕ → Type 0
AreBelow n [] = Unit {0}
AreBelow n (k ∷ ks) = (k < n) × AreBelow n ks

-- a name, and a variable that is set, has the place that the table gives it
abbrev pub IsPlaced : Table → Part → Type 0
IsPlaced t (name at x place) = place ≡ place_of t x
IsPlaced t (declare at x slot e) = slot ≡ index_in t.locals x
IsPlaced t (assign at x target e) = target ≡ target_of t x
IsPlaced t _ = Unit {0}

-- each part is made of parts before it, and each name has its place
pub record IsCode (t : Table) (ps : List Part) : Type 0 where
  pub before : (i : ℕ) (p : Part) → slice_get ps i ≡ Some p → AreBelow i (parts_in p)
  pub placed : (i : ℕ) (p : Part) → slice_get ps i ≡ Some p → IsPlaced t p

-- parts were added after those that were there, the last of them stands for this, and they are code
pub record Adds (t : Table) (old new : List Part) (tree : Tree) : Type 0 where
  pub more : List Part
  pub after : new ≡ old ++ more
  pub stands : slice_get (trees_of new) (last new) ≡ Some tree
  pub sound : IsCode t old → IsCode t new

-- the parts of an expression are added, and the last of them stands for it
abbrev pub ExprHasItsTree : Type 0
ExprHasItsTree = (t : Table) (parts : List Part) (e : Expr) → Adds t parts (with_expr t parts e) (one e)

-- those of statements in order
abbrev pub StmtsHaveTheirTree : Type 0
StmtsHaveTheirTree = (t : Table) (parts : List Part) (ss : Stmts) → Adds t parts (with_stmts t parts ss) (block ss)

-- what a part of code stands for is made of what its own parts stand for
abbrev pub PartsStand : Type 0
PartsStand =
    (t : Table) (parts : List Part) → IsCode t parts
    → (i : ℕ) (p : Part) → slice_get parts i ≡ Some p → slice_get (trees_of parts) i ≡ Some (tree_of (trees_of parts) p)
