-- Go specification (as of Go 1.17), "Method sets": the whole method set of a type.
use Rattle.std.specs.Prelude.{◌≡◌, ◌⊎◌, ℕ, Bool, List, [], ◌∷◌}
use Rattle.std.specs.List.{AllByRecursion}
use Rattle.std.specs.declared.cmp.Ordering.{Ordering}
use Rattle.std.specs.declared.cmp.Ordering.TheVariants.{Less}
use Rattle.std.specs.Ordering.{nat_cmp, ordering_then}
use Rattle.std.specs.Cmp.Lexicographic.{slice_cmp}
use Rattle.go_type.specs.Tree.{Ty, Tys}
use Rattle.go_type.specs.Named.{NamedTy}
use Rattle.go_type.specs.Levels.{trees_of}
use Rattle.go_type.specs.Exported.{IsHeld}
use Rattle.go_type.specs.Members.{sought}
use Rattle.go_type.specs.MethodSet.{HasMethod}
use Rattle.go_type.specs.declared.types.MethodSpec.{MethodSpec}

-- a method of a set: its name, with its package where it isn't exported, and its signature
pub record SpecTy : Type 0 where
  pub name : List ℕ
  pub package_ : List ℕ
  pub params : Tys
  pub results : Tys
  pub variadic : Bool

abbrev pub spec_of : List Ty → MethodSpec → SpecTy
spec_of ts m = record { name = m.name; package_ = m.package; params = trees_of ts m.sig.params; results = trees_of ts m.sig.results; variadic = m.sig.variadic }

-- the method is in the method set of the type
abbrev pub IsMethodOf : List NamedTy → Ty → SpecTy → Type 0
IsMethodOf ns t x = IsHeld x.name x.package_ × HasMethod ns t (sought x.name x.package_) x.params x.results x.variadic

-- one of the list
abbrev pub Among : List SpecTy → SpecTy → Type 0
Among [] x = ⊥
Among (y ∷ ys) x = (x ≡ y) ⊎ Among ys x

-- own: methods stand in the byte order of their names, and then of their packages
abbrev pub name_cmp : List ℕ → List ℕ → List ℕ → List ℕ → Ordering
name_cmp name package_ other home = ordering_then (slice_cmp nat_cmp name other) (slice_cmp nat_cmp package_ home)

abbrev pub spec_cmp : SpecTy → SpecTy → Ordering
spec_cmp x y = name_cmp x.name x.package_ y.name y.package_

-- each stands before all later ones, so no two have one name and package
abbrev pub Ascends : List SpecTy → Type 0
Ascends [] = Unit {0}
Ascends (x ∷ xs) = AllByRecursion (λ (y : SpecTy). spec_cmp x y ≡ Less) xs × Ascends xs

-- exactly the methods of the type, in order
pub record IsMethodSet (ns : List NamedTy) (t : Ty) (xs : List SpecTy) : Type 0 where
  pub sorted : Ascends xs
  pub sound : AllByRecursion (IsMethodOf ns t) xs
  pub complete : (x : SpecTy) → IsMethodOf ns t x → Among xs x
