-- A method set that is being made: which names were tried.
use Rattle.std.specs.Prelude.{◌≡◌, ℕ, suc, Bool, true, false, not, ◌||◌, ◌&&◌, if◌then◌else◌, List, [], ◌∷◌, Option, Some, None, map, bytes_eq}
use Rattle.std.specs.List.{AllByRecursion, list_any}
use Rattle.std.specs.Ordering.{is_lt}
use Rattle.go_type.specs.Tree.{Ty}
use Rattle.go_type.specs.Named.{NamedTy}
use Rattle.go_type.specs.Levels.{SigBelow, SpecsBelow}
use Rattle.go_type.specs.Exported.{is_exported, IsHeld}
use Rattle.go_type.specs.Members.{Member, field, method, Sought, sought}
use Rattle.go_type.specs.MethodSet.{HasFrom}
use Rattle.go_type.specs.MethodList.{SpecTy, spec_of, Among, name_cmp, Ascends}
use Rattle.go_type.specs.declared.types.MethodSpec.{MethodSpec}
use Rattle.go_type.specs.declared.hits.Hit.{Hit}
use Rattle.go_type.specs.declared.hits.Hit.TheVariants.{Method}

-- the method is found from a type, where a pointer was followed to it or not
pub record IsMethodFrom (ns : List NamedTy) (t : Ty) (indirect : Bool) (x : SpecTy) : Type 0 where
  pub held : IsHeld x.name x.package_
  pub found : HasFrom ns (sought x.name x.package_) x.params x.results x.variadic t indirect

-- how many methods at the front stand before the name
abbrev pub place_of : List ℕ → List ℕ → List MethodSpec → ℕ
place_of name package_ [] = 0
place_of name package_ (m ∷ ms) = if is_lt (name_cmp m.name m.package name package_) then suc (place_of name package_ ms) else 0

abbrev pub is_named : List ℕ → List ℕ → Option MethodSpec → Bool
is_named name package_ None = false
is_named name package_ (Some m) = bytes_eq m.name name && bytes_eq m.package package_

-- the method that a hit comes to, where it is reached
abbrev pub spec_at : Hit → Bool → List ℕ → List ℕ → Option MethodSpec
spec_at (Method id on_pointer follows sig) indirect name package_ =
    if not on_pointer || (follows || indirect) then Some (record { name = name; «package» = package_; sig = sig.now }) else None
spec_at _ indirect name package_ = None

-- the name is a method of the type, or no method of the type has it
abbrev pub IsFound : ℕ → List Ty → List NamedTy → Ty → Bool → List ℕ → List ℕ → Option MethodSpec → Type 0
IsFound n ts ns t indirect name package_ None = (x : SpecTy) → x.name ≡ name → x.package_ ≡ package_ → IsMethodFrom ns t indirect x → ⊥
IsFound n ts ns t indirect name package_ (Some m) = (m.name ≡ name) × (m.package ≡ package_) × SigBelow n m.sig × IsMethodFrom ns t indirect (spec_of ts m)

-- methods of the type, in order
pub record AreMethods (n : ℕ) (ts : List Ty) (ns : List NamedTy) (t : Ty) (indirect : Bool) (ms : List MethodSpec) : Type 0 where
  pub below : SpecsBelow n ms
  pub sorted : Ascends (map (spec_of ts) ms)
  pub sound : AllByRecursion (IsMethodFrom ns t indirect) (map (spec_of ts) ms)

-- all methods of the type, in order
pub record AreAllMethods (n : ℕ) (ts : List Ty) (ns : List NamedTy) (t : Ty) (indirect : Bool) (ms : List MethodSpec) : Type 0 where
  pub are : AreMethods n ts ns t indirect ms
  pub complete : (x : SpecTy) → IsMethodFrom ns t indirect x → Among (map (spec_of ts) ms) x

-- the package with which a declared method stands in a set
abbrev pub held_package : List ℕ → List ℕ → List ℕ
held_package name package_ = if is_exported name then [] else package_

abbrev pub is_method : Member → Bool
is_method (field path) = false
is_method (method path of_ on_pointer params results variadic) = true

-- some of these members are methods
abbrev pub has_method : List Member → Bool
has_method ms = list_any is_method ms

-- the methods of the old list stay, and those of the type whose names are found there are in the new one
pub record Tries (n : ℕ) (ts : List Ty) (ns : List NamedTy) (t : Ty) (indirect : Bool) (found : Sought → List Member) (old new : List MethodSpec) : Type 0 where
  pub are : AreMethods n ts ns t indirect new
  pub kept : (x : SpecTy) → Among (map (spec_of ts) old) x → Among (map (spec_of ts) new) x
  pub tried : (x : SpecTy) → IsMethodFrom ns t indirect x → has_method (found (sought x.name x.package_)) ≡ true → Among (map (spec_of ts) new) x

-- the same of one name
pub record TriesName (n : ℕ) (ts : List Ty) (ns : List NamedTy) (t : Ty) (indirect : Bool) (name package_ : List ℕ) (old new : List MethodSpec) : Type 0 where
  pub are : AreMethods n ts ns t indirect new
  pub kept : (x : SpecTy) → Among (map (spec_of ts) old) x → Among (map (spec_of ts) new) x
  pub tried : (x : SpecTy) → IsMethodFrom ns t indirect x → x.name ≡ name → x.package_ ≡ package_ → Among (map (spec_of ts) new) x
