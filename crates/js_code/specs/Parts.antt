-- Own: expressions and statements as a list of parts, each after the parts that it is made of, with the place of each name.
use Rattle.std.specs.Prelude.{ℕ, ◌-◌, List, [], ◌∷◌, ◌++◌, Option, Some, None, Bool, length, fold, slice_get}
use Rattle.js_tree.specs.Script as tree
use Rattle.js_tree.specs.Script.{Name, Expr, Exprs, no_exprs, expr, Stmt, Stmts, no_stmts, stmt, Else, Cases}
use Rattle.js_tree.specs.declared.tree.UnaryOp.{UnaryOp}
use Rattle.js_tree.specs.declared.tree.BinaryOp.{BinaryOp}
use Rattle.js_code.specs.declared.slots.place.Place.{Place}

-- a part by its offset, with its own parts by their numbers
pub data Part : Type 0 where
  number : (at : ℕ) (n : ℕ) → Part
  string : (at : ℕ) (bytes : List ℕ) → Part
  boolean : (at : ℕ) (b : Bool) → Part
  null : (at : ℕ) → Part
  name : (at : ℕ) (x : Name) (place : Place) → Part
  unary : (at : ℕ) (op : UnaryOp) (e : ℕ) → Part
  binary : (at : ℕ) (op : BinaryOp) (left right : ℕ) → Part
  both : (at : ℕ) (left right : ℕ) → Part
  either : (at : ℕ) (left right : ℕ) → Part
  choice : (at : ℕ) (test left right : ℕ) → Part
  call : (at : ℕ) (callee arguments : ℕ) → Part
  index : (at : ℕ) (e i : ℕ) → Part
  length_of : (at : ℕ) (e : ℕ) → Part
  pop : (at : ℕ) (e : ℕ) → Part
  char_code_at : (at : ℕ) (e i : ℕ) → Part
  substring : (at : ℕ) (e from to : ℕ) → Part
  array : (at : ℕ) (items : ℕ) → Part
  dictionary : (at : ℕ) → Part
  decimal_of : (at : ℕ) (e : ℕ) → Part
  from_char_code : (at : ℕ) (e : ℕ) → Part
  -- of expressions in order the first one, and those after it
  no_more : Part
  more : (first rest : ℕ) → Part
  -- a local with its slot, where it has one; a variable with the place that is set
  declare : (at : ℕ) (x : Name) (slot : Option ℕ) (e : ℕ) → Part
  assign : (at : ℕ) (x : Name) (target : Place) (e : ℕ) → Part
  store : (at : ℕ) (e i value : ℕ) → Part
  perform : (at : ℕ) (e : ℕ) → Part
  push : (at : ℕ) (e value : ℕ) → Part
  remove : (at : ℕ) (e key : ℕ) → Part
  branch : (at : ℕ) (test body other : ℕ) → Part
  while : (at : ℕ) (label : Option Name) (test body : ℕ) → Part
  forever : (at : ℕ) (label : Option Name) (body : ℕ) → Part
  switch : (at : ℕ) (label : Option Name) (e cases : ℕ) → Part
  return_nothing : (at : ℕ) → Part
  return : (at : ℕ) (e : ℕ) → Part
  throw : (at : ℕ) (e : ℕ) → Part
  break : (at : ℕ) (label : Option Name) → Part
  continue : (at : ℕ) (label : Option Name) → Part
  attempt : (at : ℕ) (body handler : ℕ) → Part
  -- of statements in order the first one, and those after it
  done : Part
  then : (first rest : ℕ) → Part
  -- what stands after the block of an `if`
  no_else : Part
  else_block : (body : ℕ) → Part
  else_if : (at : ℕ) (test body other : ℕ) → Part
  -- the cases of a `switch`
  no_cases : Part
  default : (body : ℕ) → Part
  case : (n : ℕ) (body rest : ℕ) → Part

-- what a part stands for
pub data Tree : Type 0 where
  one : Expr → Tree
  several : Exprs → Tree
  single : Stmt → Tree
  block : Stmts → Tree
  other : Else → Tree
  cases : Cases → Tree

abbrev pub as_expr : Option Tree → Expr
as_expr (Some (one e)) = e
as_expr _ = tree.null 0

abbrev pub as_exprs : Option Tree → Exprs
as_exprs (Some (several es)) = es
as_exprs _ = no_exprs

abbrev pub as_stmt : Option Tree → Stmt
as_stmt (Some (single s)) = s
as_stmt _ = tree.break 0 None

abbrev pub as_stmts : Option Tree → Stmts
as_stmts (Some (block ss)) = ss
as_stmts _ = no_stmts

abbrev pub as_else : Option Tree → Else
as_else (Some (other x)) = x
as_else _ = tree.no_else

abbrev pub as_cases : Option Tree → Cases
as_cases (Some (cases cs)) = cs
as_cases _ = tree.no_cases

abbrev pub expr_at : List Tree → ℕ → Expr
expr_at trees i = as_expr (slice_get trees i)

abbrev pub exprs_at : List Tree → ℕ → Exprs
exprs_at trees i = as_exprs (slice_get trees i)

abbrev pub stmt_at : List Tree → ℕ → Stmt
stmt_at trees i = as_stmt (slice_get trees i)

abbrev pub stmts_at : List Tree → ℕ → Stmts
stmts_at trees i = as_stmts (slice_get trees i)

abbrev pub else_at : List Tree → ℕ → Else
else_at trees i = as_else (slice_get trees i)

abbrev pub cases_at : List Tree → ℕ → Cases
cases_at trees i = as_cases (slice_get trees i)

-- what a part stands for, after what the parts before it stand for
abbrev pub tree_of : List Tree → Part → Tree
tree_of ts (number at n) = one (tree.number at n)
tree_of ts (string at s) = one (tree.string at s)
tree_of ts (boolean at b) = one (tree.boolean at b)
tree_of ts (null at) = one (tree.null at)
tree_of ts (name at x place) = one (tree.name at x)
tree_of ts (unary at op e) = one (tree.unary at op (expr_at ts e))
tree_of ts (binary at op a b) = one (tree.binary at op (expr_at ts a) (expr_at ts b))
tree_of ts (both at a b) = one (tree.both at (expr_at ts a) (expr_at ts b))
tree_of ts (either at a b) = one (tree.either at (expr_at ts a) (expr_at ts b))
tree_of ts (choice at a b c) = one (tree.choice at (expr_at ts a) (expr_at ts b) (expr_at ts c))
tree_of ts (call at f es) = one (tree.call at (expr_at ts f) (exprs_at ts es))
tree_of ts (index at e i) = one (tree.index at (expr_at ts e) (expr_at ts i))
tree_of ts (length_of at e) = one (tree.length_of at (expr_at ts e))
tree_of ts (pop at e) = one (tree.pop at (expr_at ts e))
tree_of ts (char_code_at at e i) = one (tree.char_code_at at (expr_at ts e) (expr_at ts i))
tree_of ts (substring at e i j) = one (tree.substring at (expr_at ts e) (expr_at ts i) (expr_at ts j))
tree_of ts (array at es) = one (tree.array at (exprs_at ts es))
tree_of ts (dictionary at) = one (tree.dictionary at)
tree_of ts (decimal_of at e) = one (tree.decimal_of at (expr_at ts e))
tree_of ts (from_char_code at e) = one (tree.from_char_code at (expr_at ts e))
tree_of ts no_more = several no_exprs
tree_of ts (more e es) = several (expr (expr_at ts e) (exprs_at ts es))
tree_of ts (declare at x slot e) = single (tree.declare at x (expr_at ts e))
tree_of ts (assign at x target e) = single (tree.assign at x (expr_at ts e))
tree_of ts (store at e i v) = single (tree.store at (expr_at ts e) (expr_at ts i) (expr_at ts v))
tree_of ts (perform at e) = single (tree.perform at (expr_at ts e))
tree_of ts (push at e v) = single (tree.push at (expr_at ts e) (expr_at ts v))
tree_of ts (remove at e k) = single (tree.remove at (expr_at ts e) (expr_at ts k))
tree_of ts (branch at e b x) = single (tree.branch at (expr_at ts e) (stmts_at ts b) (else_at ts x))
tree_of ts (while at l e b) = single (tree.while at l (expr_at ts e) (stmts_at ts b))
tree_of ts (forever at l b) = single (tree.forever at l (stmts_at ts b))
tree_of ts (switch at l e cs) = single (tree.switch at l (expr_at ts e) (cases_at ts cs))
tree_of ts (return_nothing at) = single (tree.return at None)
tree_of ts (return at e) = single (tree.return at (Some (expr_at ts e)))
tree_of ts (throw at e) = single (tree.throw at (expr_at ts e))
tree_of ts (break at l) = single (tree.break at l)
tree_of ts (continue at l) = single (tree.continue at l)
tree_of ts (attempt at b h) = single (tree.attempt at (stmts_at ts b) (stmts_at ts h))
tree_of ts done = block no_stmts
tree_of ts (then s ss) = block (stmt (stmt_at ts s) (stmts_at ts ss))
tree_of ts no_else = other tree.no_else
tree_of ts (else_block b) = other (tree.else_block (stmts_at ts b))
tree_of ts (else_if at e b x) = other (tree.else_if at (expr_at ts e) (stmts_at ts b) (else_at ts x))
tree_of ts no_cases = cases tree.no_cases
tree_of ts (default b) = cases (tree.default (stmts_at ts b))
tree_of ts (case n b cs) = cases (tree.case n (stmts_at ts b) (cases_at ts cs))

abbrev pub with_tree : List Tree → Part → List Tree
with_tree trees part = trees ++ tree_of trees part ∷ []

-- what parts stand for, one by one
abbrev pub trees_of : List Part → List Tree
trees_of parts = fold with_tree [] parts

-- the number of the last part
abbrev pub last : List Part → ℕ
last parts = length parts - 1

-- with one part more
abbrev pub with_part : List Part → Part → List Part
with_part parts part = parts ++ part ∷ []
