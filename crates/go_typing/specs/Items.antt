-- Go specification (as of Go 1.17), "Declarations and scope", "Constant declarations", "Iota", "Type declarations":
-- what the files of a package declare in its scope, in the order of the files and of their texts.
use Rattle.std.specs.Prelude.{ℕ, suc, List, [], ◌∷◌, ◌++◌, Bool, true, false, if◌then◌else◌, Option, Some, None, bytes_eq, codes}
use Rattle.go_syntax.specs.Tree as t
use Rattle.go_syntax.specs.declared.tree.Name.{Name}
use Rattle.go_typing.specs.Declare.{names_count}

-- own: a declaration of the package's scope, before it is typed
pub data Item : Type 0 where
  -- a name of a constant specification: the specification's number in its declaration, its type, the name's value, where
  -- the list has one for each name, and the whole list
  constant_item : Name → (number : ℕ) → t.MaybeExpr → Option t.Expr → t.Exprs → Item
  -- a type, by its number among the named types of the package
  type_item : Name → (number : ℕ) → t.Expr → Item
  alias_item : Name → t.Expr → Item
  -- a function by its number among all functions
  function_item : Name → (id : ℕ) → t.Sig → Item
  -- a package variable and a function `init` are not built yet
  variable_item : Name → Item
  init_item : Name → Item

abbrev pub name_of : Item → Name
name_of (constant_item n k u y all) = n
name_of (type_item n k e) = n
name_of (alias_item n e) = n
name_of (function_item n id s) = n
name_of (variable_item n) = n
name_of (init_item n) = n

abbrev pub is_init : Name → Bool
is_init n = bytes_eq n.text (codes "init")

-- ---- constants: where a list is missing the last one stands again, its type with it

abbrev pub each_name : ℕ → t.MaybeExpr → (all : t.Exprs) → List Name → t.Exprs → List Item
each_name k u all [] ys = []
each_name k u all (n ∷ ns) t.NoExprs = constant_item n k u None all ∷ each_name k u all ns t.NoExprs
each_name k u all (n ∷ ns) (t.MoreExprs y ys) = constant_item n k u (Some y) all ∷ each_name k u all ns ys

abbrev pub spec_items : ℕ → t.MaybeExpr → List Name → t.Exprs → List Item
spec_items k u ns ys = each_name k u ys ns (if names_count ns ys then ys else t.NoExprs)

abbrev pub constant_items : ℕ → t.MaybeExpr → t.Exprs → t.ValueSpecs → List Item
constant_items k u ys t.NoValues = []
constant_items k u ys (t.MoreValues ns v t.NoExprs vs) = spec_items k u ns ys ++ constant_items (suc k) u ys vs
constant_items k u ys (t.MoreValues ns v (t.MoreExprs z zs) vs) = spec_items k v ns (t.MoreExprs z zs) ++ constant_items (suc k) v (t.MoreExprs z zs) vs

-- ---- variables

abbrev pub each_variable : List Name → List Item
each_variable [] = []
each_variable (n ∷ ns) = variable_item n ∷ each_variable ns

abbrev pub variable_items : t.ValueSpecs → List Item
variable_items t.NoValues = []
variable_items (t.MoreValues ns u ys vs) = each_variable ns ++ variable_items vs

-- ---- types and functions

abbrev pub type_items : ℕ → t.TypeSpecs → List Item
type_items k t.NoTypes = []
type_items k (t.MoreTypes n true e ts) = alias_item n e ∷ type_items k ts
type_items k (t.MoreTypes n false e ts) = type_item n k e ∷ type_items (suc k) ts

abbrev pub types_after : ℕ → t.TypeSpecs → ℕ
types_after k t.NoTypes = k
types_after k (t.MoreTypes n true e ts) = types_after k ts
types_after k (t.MoreTypes n false e ts) = types_after (suc k) ts

abbrev pub function_of : Name → ℕ → t.Sig → Item
function_of n id s = if is_init n then init_item n else function_item n id s

-- ---- the whole: the numbers of the next type and of the next function go along

abbrev pub items_from : (types functions : ℕ) → List t.Decl → List Item
items_from k id [] = []
items_from k id (t.ConstDecl at vs ∷ ds) = constant_items 0 t.NoExpr t.NoExprs vs ++ items_from k id ds
items_from k id (t.TypeDecl at ts ∷ ds) = type_items k ts ++ items_from (types_after k ts) id ds
items_from k id (t.VarDecl at vs ∷ ds) = variable_items vs ++ items_from k id ds
items_from k id (t.FuncDecl at n s b ∷ ds) = function_of n id s ∷ items_from k (suc id) ds
-- methods are declared in no scope
items_from k id (t.MethodDecl at p rs n s b ∷ ds) = items_from k (suc id) ds

abbrev pub items_of : List t.Decl → List Item
items_of ds = items_from 0 0 ds
