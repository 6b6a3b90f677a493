-- Go specification (as of Go 1.17), "Selectors": what a name selects in a value of a type.
use Rattle.std.specs.Prelude.{◌≡◌, ◌⊎◌, ℕ, ◌≤◌, Bool, List, [], ◌∷◌, ◌++◌, length}
use Rattle.go_type.specs.Tree.{Ty, Tys, pointer, interface}
use Rattle.go_type.specs.Levels.{tree_of}
use Rattle.go_type.specs.Named.{NamedTy}
use Rattle.go_type.specs.Underlying.{underlying}
use Rattle.go_type.specs.Members.{Sought, field, method, members_at, NoneBefore, IsShallowest}
use Rattle.go_type.specs.declared.steps.Step.{Step}
use Rattle.go_type.specs.declared.steps.Step.TheVariants as step
use Rattle.go_type.specs.declared.steps.Selected.{Selected}
use Rattle.go_type.specs.declared.steps.Selected.TheVariants.{Missing, Ambiguous, Field, Method}

-- where a search begins: in the type itself, or behind one pointer, which may not lead to a pointer or an
-- interface. Behind a defined pointer type only fields are found.
pub data Start : Type 0 where
  nowhere : Start
  at : (t : Ty) (before : List Step) → Start
  fields_at : (t : Ty) → Start

abbrev pub behind_pointer : Ty → Ty → Start
behind_pointer t (interface ms) = nowhere
behind_pointer t u = at t (step.Pointer ∷ [])

abbrev pub at_name : Ty → Ty → Start
at_name t (pointer u) = fields_at u
at_name t u = at t []

abbrev pub start_of : List NamedTy → Ty → Start
start_of ns (pointer t) = behind_pointer t (underlying ns t)
start_of ns t = at_name t (underlying ns t)

-- one member at the shallowest depth is selected, several are ambiguous
abbrev pub Selects : List NamedTy → List Ty → Sought → Ty → List Step → Selected → Type 0
Selects ns ts f t before Missing = (d : ℕ) → members_at ns f d t ≡ []
Selects ns ts f t before Ambiguous = (d : ℕ) × NoneBefore ns f t d × (2 ≤ length (members_at ns f d t))
Selects ns ts f t before (Field path) = (d : ℕ) × (p : List Step) × IsShallowest ns f t d (field p ∷ []) × (path ≡ before ++ p)
Selects ns ts f t before (Method path id) =
    (d : ℕ) × (p : List Step) × (on_pointer : Bool) × (params : Tys) × (results : Tys) × (variadic : Bool)
    × IsShallowest ns f t d (method p (tree_of ts id) on_pointer params results variadic ∷ []) × (path ≡ before ++ p)

-- a field alone: a method at the shallowest depth is none
abbrev pub SelectsField : List NamedTy → List Ty → Sought → Ty → Selected → Type 0
SelectsField ns ts f t Missing =
    ((d : ℕ) → members_at ns f d t ≡ [])
    ⊎ ((d : ℕ) × (p : List Step) × (of_ : Ty) × (on_pointer : Bool) × (params : Tys) × (results : Tys) × (variadic : Bool) × IsShallowest ns f t d (method p of_ on_pointer params results variadic ∷ []))
SelectsField ns ts f t (Method path id) = ⊥
SelectsField ns ts f t s = Selects ns ts f t (step.Pointer ∷ []) s

abbrev pub IsMissing : Selected → Type 0
IsMissing Missing = Unit {0}
IsMissing _ = ⊥

abbrev pub SelectsFrom : List NamedTy → List Ty → Sought → Start → Selected → Type 0
SelectsFrom ns ts f nowhere s = IsMissing s
SelectsFrom ns ts f (at t before) s = Selects ns ts f t before s
SelectsFrom ns ts f (fields_at t) s = SelectsField ns ts f t s

-- what the name selects in a value of the type
abbrev pub IsSelection : List NamedTy → List Ty → Sought → Ty → Selected → Type 0
IsSelection ns ts f t s = SelectsFrom ns ts f (start_of ns t) s
