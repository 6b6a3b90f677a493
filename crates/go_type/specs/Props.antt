-- Why the facts that a table keeps have one proof.
use Rattle.std.specs.Prelude.{ℕ, ◌<◌, List, [], ◌∷◌, Option, Some, None}
use Rattle.std.specs.List.{AllByRecursion}
use Rattle.std.specs.Coded.{×_prop, Unit-prop, le_prop, Π_prop}
use Rattle.go_type.specs.Levels.{IdsBelow, SigBelow, Below, Rises}
use Rattle.go_type.specs.Named.{UnderBelow, NamedBelow, NamesBelow}
use Rattle.go_type.specs.declared.types.TypeId.{TypeId}
use Rattle.go_type.specs.declared.types.FieldRow.{FieldRow}
use Rattle.go_type.specs.declared.types.Sig.{Sig}
use Rattle.go_type.specs.declared.types.MethodSpec.{MethodSpec}
use Rattle.go_type.specs.declared.types.Method.{Method}
use Rattle.go_type.specs.declared.types.NamedType.{NamedType}
use Rattle.go_type.specs.declared.types.GoType.{GoType}
use Rattle.go_type.specs.declared.types.GoType.TheVariants as go

module _ {X : Type 0} (P : X → Type 0) (one : (x : X) → IsProp (P x)) where
  each_prop : (xs : List X) → IsProp (AllByRecursion P xs)
  each_prop [] = Unit-prop
  each_prop (x ∷ xs) = ×_prop (one x) (each_prop xs)

IdsBelow-prop : (n : ℕ) (is : List TypeId) → IsProp (IdsBelow n is)
IdsBelow-prop n = each_prop (λ (i : TypeId). i.0 < n) (λ i. le_prop)

SigBelow-prop : (n : ℕ) (s : Sig) → IsProp (SigBelow n s)
SigBelow-prop n s = ×_prop (IdsBelow-prop n s.params) (IdsBelow-prop n s.results)

Below-prop : (n m : ℕ) (g : GoType) → IsProp (Below n m g)
Below-prop n m go.Bool = Unit-prop
Below-prop n m go.Str = Unit-prop
Below-prop n m (go.Int name) = Unit-prop
Below-prop n m go.Nil = Unit-prop
Below-prop n m (go.Untyped basis) = Unit-prop
Below-prop n m (go.Array k t) = le_prop
Below-prop n m (go.Slice t) = le_prop
Below-prop n m (go.Struct fs) = ×_prop (each_prop (λ (f : FieldRow). f.ty.0 < n) (λ f. le_prop) fs) le_prop
Below-prop n m (go.Pointer t) = le_prop
Below-prop n m (go.Func s) = SigBelow-prop n s
Below-prop n m (go.Interface ms) = each_prop (λ (x : MethodSpec). SigBelow n x.sig) (λ x. SigBelow-prop n x.sig) ms
Below-prop n m (go.Map k v) = ×_prop le_prop le_prop
Below-prop n m (go.Chan d t) = le_prop
Below-prop n m (go.Named i) = le_prop
Below-prop n m (go.Tuple is) = IdsBelow-prop n is

pub Rises-prop : (m : ℕ) (gs : List GoType) → IsProp (Rises m gs)
Rises-prop m gs = Π_prop (λ i. Π_prop (λ g. Π_prop (λ h. Below-prop i m g)))

UnderBelow-prop : (n : ℕ) (o : Option TypeId) → IsProp (UnderBelow n o)
UnderBelow-prop n None = Unit-prop
UnderBelow-prop n (Some t) = le_prop

NamedBelow-prop : (n : ℕ) (x : NamedType) → IsProp (NamedBelow n x)
NamedBelow-prop n x = ×_prop (UnderBelow-prop n x.under) (each_prop (λ (m : Method). SigBelow n m.sig) (λ m. SigBelow-prop n m.sig) x.methods)

pub NamesBelow-prop : (n : ℕ) (xs : List NamedType) → IsProp (NamesBelow n xs)
NamesBelow-prop n = each_prop (NamedBelow n) (NamedBelow-prop n)
