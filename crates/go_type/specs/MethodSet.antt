-- Go specification (as of Go 1.17), "Method sets", "Struct types", "Interface types": which methods a type has.
use Rattle.std.specs.Prelude.{◌≡◌, ℕ, Bool, true, false, ◌||◌, List, [], ◌∷◌}
use Rattle.go_type.specs.Tree.{Ty, Tys, Specs, pointer, interface, untyped, nil, tuple, no_specs, more_specs}
use Rattle.go_type.specs.Named.{NamedTy}
use Rattle.go_type.specs.Underlying.{underlying}
use Rattle.go_type.specs.Members.{Sought, sought, method, IsShallowest}
use Rattle.go_type.specs.Hits.{has_pointer}
use Rattle.go_type.specs.declared.steps.Step.{Step}

-- where the methods of a type are looked for, and whether a pointer is followed to there: a pointer to a
-- type has the methods that are declared on the type and on its pointer, but none where the type is a
-- pointer or an interface itself
pub data Receiver : Type 0 where
  nowhere : Receiver
  from : (t : Ty) (indirect : Bool) → Receiver

abbrev pub behind_pointer : Ty → Ty → Receiver
behind_pointer t (interface ms) = nowhere
behind_pointer t u = from t true

abbrev pub receiver_of : List NamedTy → Ty → Receiver
receiver_of ns (pointer t) = behind_pointer t (underlying ns t)
receiver_of ns t = from t false

-- The one of the name at the shallowest depth is a method of this signature. Where it is on the pointer, a
-- pointer is followed to its receiver: one to the struct, or an embedded one.
pub record HasFrom (ns : List NamedTy) (f : Sought) (params results : Tys) (variadic : Bool) (t : Ty) (indirect : Bool) : Type 0 where
  pub depth : ℕ
  pub path : List Step
  pub of_ : Ty
  pub on_pointer : Bool
  pub shallowest : IsShallowest ns f t depth (method path of_ on_pointer params results variadic ∷ [])
  pub reached : on_pointer ≡ true → (has_pointer path || indirect) ≡ true

abbrev pub HasAt : List NamedTy → Sought → Tys → Tys → Bool → Receiver → Type 0
HasAt ns f params results variadic nowhere = ⊥
HasAt ns f params results variadic (from t indirect) = HasFrom ns f params results variadic t indirect

-- the method is in the method set of the type
abbrev pub HasMethod : List NamedTy → Ty → Sought → Tys → Tys → Bool → Type 0
HasMethod ns t f params results variadic = HasAt ns f params results variadic (receiver_of ns t)

-- a type implements an interface where it has each of its methods
abbrev pub Has : List NamedTy → Ty → Specs → Type 0
Has ns t no_specs = Unit {0}
Has ns t (more_specs name package_ params results variadic ms) = HasMethod ns t (sought name package_) params results variadic × Has ns t ms

-- an untyped constant has its default type, a predeclared type without methods
abbrev pub IsImplemented : List NamedTy → Ty → Specs → Type 0
IsImplemented ns (untyped basis) ms = ms ≡ no_specs
IsImplemented ns nil ms = ⊥
IsImplemented ns (tuple ts) ms = ⊥
IsImplemented ns t ms = Has ns t ms

abbrev pub IsInterfaceOf : Ty → Specs → Type 0
IsInterfaceOf (interface ms) ns = ns ≡ ms
IsInterfaceOf _ ns = ⊥

-- the type implements the interface for which the other stands
abbrev pub Implements : List NamedTy → Ty → Ty → Type 0
Implements ns v t = (ms : Specs) × IsInterfaceOf (underlying ns t) ms × IsImplemented ns v ms
