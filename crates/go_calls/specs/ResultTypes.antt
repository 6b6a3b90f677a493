-- The types of what calls give: each function that is called by its name has one in the table.
use Rattle.std.specs.Prelude.{ℕ, ◌≡◌, ◌<◌, List, [], ◌∷◌, true, Option, Some, None, IfSome, is_some, bytes_eq, Vec}
use Rattle.std.specs.Map.{lookup}
use Rattle.std.specs.declared.alloc.Global.{Global}
use Rattle.go_type.specs.Tree.{Tys, no_tys}
use Rattle.go_type.specs.Levels.{tree_of}
use Rattle.go_type.specs.Table.{places, size}
use Rattle.go_type.specs.declared.types.TypeId.{TypeId}
use Rattle.go_type.specs.declared.table.TypeTable.{TypeTable}
use Rattle.go_typing.specs.Env as env
use Rattle.go_typing.specs.Env.{Bind, Decl, function}
use Rattle.go_typing.specs.Typing.{Callee, a_function, declared_callee}
use Rattle.go_operands.specs.declared.scopes.declared.Declared.{Declared}
use Rattle.go_operands.specs.declared.scopes.declared.Declared.TheVariants as as_
use Rattle.go_calls.specs.Function.{given_type}
use Rattle.go_calls.specs.declared.callee.gives.Gives.{Gives}

-- the type that a name has
abbrev pub gives_at : List ℕ → Gives → Option TypeId
gives_at x g = lookup (λ (k : Vec ℕ Global). bytes_eq x k.items) g.by_name.entries

-- the results of what a name stands for
abbrev pub results_in : Option Decl → Tys
results_in (Some (function id ps rs variadic)) = rs
results_in _ = no_tys

-- the same in code, where it is a function
abbrev pub results_of : Declared → Option (List TypeId)
results_of (as_.Func f s) = Some s.results
results_of _ = None

abbrev pub only_of : List TypeId → Option TypeId
only_of (t ∷ []) = Some t
only_of _ = None

-- a type of the table, that of what a call with these results gives
abbrev pub GivesThese : TypeTable → Tys → TypeId → Type 0
GivesThese table rs t = (t.0 < size table) × (tree_of (places table) t ≡ given_type rs)

-- each name that has a type has that of its results
pub record AreRight (ss : List (List Bind)) (table : TypeTable) (g : Gives) : Type 0 where
  pub right : (x : List ℕ) → IfSome (gives_at x g) (GivesThese table (results_in (env.lookup x ss)))

-- a function has a type here
abbrev pub HasType : Gives → List ℕ → Callee → Type 0
HasType g x (a_function id ps rs variadic) = is_some (gives_at x g) ≡ true
HasType g x _ = Unit {0}

abbrev pub IsGiven : List (List Bind) → Gives → List ℕ → Type 0
IsGiven ss g x = HasType g x (declared_callee (env.lookup x ss))

abbrev pub AreGiven : List (List Bind) → Gives → List (List ℕ) → Type 0
AreGiven ss g [] = Unit {0}
AreGiven ss g (x ∷ xs) = IsGiven ss g x × AreGiven ss g xs

-- the name that is called, if it is one
abbrev pub CalleeGiven : List (List Bind) → Gives → Option (List ℕ) → Type 0
CalleeGiven ss g None = Unit {0}
CalleeGiven ss g (Some x) = IsGiven ss g x

-- what is given stays so
pub record HasMore (ss : List (List Bind)) (old new : Gives) : Type 0 where
  pub more : (x : List ℕ) → IsGiven ss old x → IsGiven ss new x
