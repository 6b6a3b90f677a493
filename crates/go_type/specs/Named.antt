-- Go specification (as of Go 1.17), "Type definitions", "Method declarations": named types.
use Rattle.std.specs.Prelude.{◌≡◌, ℕ, ◌<◌, List, [], ◌∷◌, ◌++◌, Option, Some, None, Bool, map, slice_get, slice_set}
use Rattle.std.specs.List.{AllByRecursion}
use Rattle.go_type.specs.Tree.{Ty, Tys, named}
use Rattle.go_type.specs.Levels.{tree_of, trees_of, SigBelow}
use Rattle.go_type.specs.declared.types.TypeId.{TypeId}
use Rattle.go_type.specs.declared.types.Method.{Method}
use Rattle.go_type.specs.declared.types.Sig.{Sig}
use Rattle.go_type.specs.declared.types.NamedType.{NamedType}

-- a declared method: on the pointer, or on the type itself
pub record MethodTy : Type 0 where
  pub name : List ℕ
  pub pointer : Bool
  pub params : Tys
  pub results : Tys
  pub variadic : Bool

-- a named type: what it stands for once that is set, and its methods so far
pub record NamedTy : Type 0 where
  pub name : List ℕ
  pub package_ : List ℕ
  pub under : Option Ty
  pub methods : List MethodTy

abbrev pub method_of : List Ty → Method → MethodTy
method_of ts m = record { name = m.name; pointer = m.pointer; params = trees_of ts m.sig.params; results = trees_of ts m.sig.results; variadic = m.sig.variadic }

abbrev pub under_of : List Ty → Option TypeId → Option Ty
under_of ts None = None
under_of ts (Some t) = Some (tree_of ts t)

abbrev pub named_of : List Ty → NamedType → NamedTy
named_of ts n = record { name = n.name; package_ = n.package; under = under_of ts n.under; methods = map (method_of ts) n.methods }

abbrev pub UnderBelow : ℕ → Option TypeId → Type 0
UnderBelow n None = Unit {0}
UnderBelow n (Some t) = t.0 < n

abbrev pub MethodsBelow : ℕ → List Method → Type 0
MethodsBelow n ms = AllByRecursion (λ (m : Method). SigBelow n m.sig) ms

abbrev pub NamedBelow : ℕ → NamedType → Type 0
NamedBelow n x = UnderBelow n x.under × MethodsBelow n x.methods

-- what the names speak of is among the first n levels
abbrev pub NamesBelow : ℕ → List NamedType → Type 0
NamesBelow n xs = AllByRecursion (NamedBelow n) xs

-- ---- changes

abbrev pub IsUnnamed : Ty → Type 0
IsUnnamed (named id) = ⊥
IsUnnamed _ = Unit {0}

-- a name as it is added
abbrev pub new_name : List ℕ → List ℕ → NamedTy
new_name name package_ = record { name = name; package_ = package_; under = None; methods = [] }

abbrev pub with_under : Ty → NamedTy → NamedTy
with_under t x = record x { under = Some t }

abbrev pub with_method : MethodTy → NamedTy → NamedTy
with_method m x = record x { methods = x.methods ++ m ∷ [] }

abbrev pub method_with : List Ty → List ℕ → Bool → Sig → MethodTy
method_with ts name pointer s = record { name = name; pointer = pointer; params = trees_of ts s.params; results = trees_of ts s.results; variadic = s.variadic }

-- the name at a place changes so, and no other
abbrev pub SetsName : List NamedTy → ℕ → (NamedTy → NamedTy) → List NamedTy → Type 0
SetsName old i change new = (x : NamedTy) → slice_get old i ≡ Some x → new ≡ slice_set old i (change x)
