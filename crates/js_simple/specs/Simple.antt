-- Own: which expressions have no call in them.
use Rattle.std.specs.Prelude.{◌≡◌, ◌&&◌, ℕ, List, Option, Some, None, Bool, true, false, slice_get}
use Rattle.js_tree.specs.Script.{Expr, number, string, boolean, null, name, unary, binary, both, either, choice, call, index, length_of, pop, char_code_at, substring, array, dictionary, decimal_of, from_char_code, Exprs, no_exprs, expr}
use Rattle.js_code.specs.Places.{Table}
use Rattle.js_code.specs.Parts.{Part, Tree, as_expr, as_exprs, expr_at, exprs_at, tree_of, trees_of}
use Rattle.js_code.specs.PartClauses.{IsCode}

abbrev mutual
  pub is_simple : Expr → Bool
  is_simple (number at n) = true
  is_simple (string at s) = true
  is_simple (boolean at b) = true
  is_simple (null at) = true
  is_simple (name at x) = true
  is_simple (unary at op e) = is_simple e
  is_simple (binary at op a b) = is_simple a && is_simple b
  is_simple (both at a b) = is_simple a && is_simple b
  is_simple (either at a b) = is_simple a && is_simple b
  is_simple (choice at test a b) = is_simple test && (is_simple a && is_simple b)
  is_simple (call at f es) = false
  is_simple (index at e i) = is_simple e && is_simple i
  is_simple (length_of at e) = is_simple e
  is_simple (pop at e) = is_simple e
  is_simple (char_code_at at e i) = is_simple e && is_simple i
  is_simple (substring at e i j) = is_simple e && (is_simple i && is_simple j)
  is_simple (array at es) = are_simple es
  is_simple (dictionary at) = true
  is_simple (decimal_of at e) = is_simple e
  is_simple (from_char_code at e) = is_simple e

  pub are_simple : Exprs → Bool
  are_simple no_exprs = true
  are_simple (expr e es) = is_simple e && are_simple es

-- the parts are code, whatever its names
abbrev pub IsSomeCode : List Part → Type 0
IsSomeCode parts = (t : Table) × IsCode t parts

abbrev pub IsSimpleAt : List Part → ℕ → Type 0
IsSimpleAt parts i = is_simple (expr_at (trees_of parts) i) ≡ true

abbrev pub AreSimpleAt : List Part → ℕ → Type 0
AreSimpleAt parts i = are_simple (exprs_at (trees_of parts) i) ≡ true

-- a part of the code stands for an expression without a call
pub record IsSimplePart (parts : List Part) (p : Part) : Type 0 where
  pub simple : is_simple (as_expr (Some (tree_of (trees_of parts) p))) ≡ true
  pub number : ℕ
  pub held : slice_get parts number ≡ Some p

-- whatever it stands for, there is no call in it
pub record IsSimpleTree (t : Tree) : Type 0 where
  pub one : is_simple (as_expr (Some t)) ≡ true
  pub all : are_simple (as_exprs (Some t)) ≡ true

-- the mark of a part
abbrev pub mark_in : Option Bool → Bool
mark_in (Some b) = b
mark_in None = false

abbrev pub mark_at : List Bool → ℕ → Bool
mark_at marks i = mark_in (slice_get marks i)

-- there is no call in what stands at a number
abbrev pub HasNoCall : List Tree → ℕ → Type 0
HasNoCall trees i = (is_simple (expr_at trees i) ≡ true) × (are_simple (exprs_at trees i) ≡ true)

-- where there is no call in what is marked
abbrev pub AreMarks : List Tree → List Bool → Type 0
AreMarks trees marks = (i : ℕ) → mark_at marks i ≡ true → HasNoCall trees i
