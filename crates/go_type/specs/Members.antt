-- Go specification (as of Go 1.17), "Selectors", "Struct types", "Method sets": the fields and methods of a
-- name that stand at a depth in a type.
use Rattle.std.specs.Prelude.{◌≡◌, ℕ, zero, suc, ◌+◌, ◌<◌, Bool, false, ◌&&◌, ◌||◌, if◌then◌else◌, List, [], ◌∷◌, ◌++◌, Option, Some, None, map, bytes_eq, slice_get}
use Rattle.go_type.specs.Tree.{Ty, Tys, Fields, Specs, pointer, struct, interface, named, no_fields, more_fields, no_specs, more_specs}
use Rattle.go_type.specs.Named.{NamedTy, MethodTy}
use Rattle.go_type.specs.Underlying.{underlying}
use Rattle.go_type.specs.Exported.{is_exported}
use Rattle.go_type.specs.declared.steps.Step.{Step}
use Rattle.go_type.specs.declared.steps.Step.TheVariants as step

-- a field or a method: the steps that lead to it, or to the receiver; for a method the type that declares
-- it, whether it is on the pointer, and its signature
pub data Member : Type 0 where
  field : (path : List Step) → Member
  method : (path : List Step) (of_ : Ty) (on_pointer : Bool) (params results : Tys) (variadic : Bool) → Member

-- a name as it is selected: own: its package is empty where it is exported
pub record Sought : Type 0 where
  pub name : List ℕ
  pub package_ : List ℕ

-- "Uniqueness of identifiers": names are the same where their letters are, and where they are exported or of
-- one package
abbrev pub is_sought : Sought → List ℕ → List ℕ → Bool
is_sought f name package_ = bytes_eq name f.name && bytes_eq package_ f.package_

-- the same of a method that is declared in a package
abbrev pub is_declared : Sought → List ℕ → List ℕ → Bool
is_declared f name package_ = bytes_eq name f.name && (is_exported name || bytes_eq package_ f.package_)

abbrev pub field_found : Sought → ℕ → List ℕ → List ℕ → List Member
field_found f i name package_ = if is_sought f name package_ then field (step.Field i ∷ []) ∷ [] else []

abbrev pub fields_found : Sought → ℕ → Fields → List Member
fields_found f i no_fields = []
fields_found f i (more_fields name package_ t embedded tag fs) = field_found f i name package_ ++ fields_found f (i + 1) fs

abbrev pub spec_found : Sought → Ty → List ℕ → List ℕ → Tys → Tys → Bool → List Member
spec_found f of_ name package_ params results variadic =
    if is_sought f name package_ then method [] of_ false params results variadic ∷ [] else []

abbrev pub specs_found : Sought → Ty → Specs → List Member
specs_found f of_ no_specs = []
specs_found f of_ (more_specs name package_ params results variadic ms) = spec_found f of_ name package_ params results variadic ++ specs_found f of_ ms

abbrev pub method_found : Sought → Ty → List ℕ → MethodTy → List Member
method_found f of_ package_ m =
    if is_declared f m.name package_ then method [] of_ m.pointer m.params m.results m.variadic ∷ [] else []

abbrev pub methods_found : Sought → Ty → List ℕ → List MethodTy → List Member
methods_found f of_ package_ [] = []
methods_found f of_ package_ (m ∷ ms) = method_found f of_ package_ m ++ methods_found f of_ package_ ms

-- the fields of a struct, or the methods of an interface
abbrev pub shape_found : Sought → Ty → Ty → List Member
shape_found f of_ (struct fs) = fields_found f 0 fs
shape_found f of_ (interface ms) = specs_found f of_ ms
shape_found f of_ _ = []

abbrev pub name_found : Sought → Ty → Option NamedTy → List Member
name_found f of_ None = []
name_found f of_ (Some x) = methods_found f of_ x.package_ x.methods

-- the methods that are declared for a named type
abbrev pub declared_found : List NamedTy → Sought → Ty → List Member
declared_found ns f (named id) = name_found f (named id) (slice_get ns id)
declared_found ns f t = []

-- "Selectors": what the type itself declares is at depth zero
abbrev pub own_members : List NamedTy → Sought → Ty → List Member
own_members ns f t = shape_found f t (underlying ns t) ++ declared_found ns f t

abbrev pub fields_in : Ty → Fields
fields_in (struct fs) = fs
fields_in _ = no_fields

-- "Struct types": an embedded field is of a named type, or of a pointer to one that is no interface
abbrev pub base_of : Ty → Ty
base_of (pointer t) = t
base_of t = t

abbrev pub steps_to : ℕ → Ty → List Step
steps_to i (pointer t) = step.Field i ∷ step.Pointer ∷ []
steps_to i t = step.Field i ∷ []

abbrev pub behind : List Step → Member → Member
behind steps (field path) = field (steps ++ path)
behind steps (method path of_ on_pointer params results variadic) = method (steps ++ path) of_ on_pointer params results variadic

abbrev pub through_one : (Ty → List Member) → ℕ → Ty → Bool → List Member
through_one p i t embedded = if embedded then map (behind (steps_to i t)) (p (base_of t)) else []

-- through the embedded fields, from a place on
abbrev pub through : (Ty → List Member) → ℕ → Fields → List Member
through p i no_fields = []
through p i (more_fields name package_ t embedded tag fs) = through_one p i t embedded ++ through p (i + 1) fs

-- "Selectors": what an embedded field has at a depth, the type has one deeper
unfoldable pub members_at : List NamedTy → Sought → ℕ → Ty → List Member
members_at ns f zero t = own_members ns f t
members_at ns f (suc d) t = through (members_at ns f d) 0 (fields_in (underlying ns t))

-- no shallower depth has one
pub record NoneBefore (ns : List NamedTy) (f : Sought) (t : Ty) (d : ℕ) : Type 0 where
  pub at : (e : ℕ) → e < d → members_at ns f e t ≡ []

-- the members of the name at the shallowest depth where there is one
pub record IsShallowest (ns : List NamedTy) (f : Sought) (t : Ty) (d : ℕ) (ms : List Member) : Type 0 where
  pub before : NoneBefore ns f t d
  pub here : members_at ns f d t ≡ ms

abbrev pub sought : List ℕ → List ℕ → Sought
sought name package_ = record { name = name; package_ = package_ }
