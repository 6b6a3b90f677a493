-- Why the facts that an environment keeps have one proof.
use Rattle.std.specs.Prelude.{ℕ, ◌<◌, List, [], ◌∷◌}
use Rattle.std.specs.List.{AllByRecursion}
use Rattle.std.specs.Coded.{×_prop, Unit-prop, le_prop, Π_prop, Coded-set, coded_bool}
use Rattle.go_type.specs.Levels.{IdsBelow}
use Rattle.go_type.specs.declared.types.TypeId.{TypeId}
use Rattle.go_type.specs.declared.table.TypeTable.{TypeTable}
use Rattle.go_operands.specs.declared.scopes.declared.Declared.{Declared}
use Rattle.go_operands.specs.declared.scopes.declared.Declared.TheVariants as as_
use Rattle.go_operands.specs.Held.{Held, HeldPackage}
use Rattle.go_operands.specs.Within.{DeclaredBelow, HeldsBelow, ScopesBelow, PackagesBelow}
use Rattle.go_operands.specs.ScopesReady.{Begins}

module _ {X : Type 0} (P : X → Type 0) (one : (x : X) → IsProp (P x)) where
  each_prop : (xs : List X) → IsProp (AllByRecursion P xs)
  each_prop [] = Unit-prop
  each_prop (x ∷ xs) = ×_prop (one x) (each_prop xs)

IdsBelow-prop : (n : ℕ) (is : List TypeId) → IsProp (IdsBelow n is)
IdsBelow-prop n = each_prop (λ (i : TypeId). i.0 < n) (λ i. le_prop)

DeclaredBelow-prop : (n : ℕ) (d : Declared) → IsProp (DeclaredBelow n d)
DeclaredBelow-prop n (as_.Var v t) = le_prop
DeclaredBelow-prop n (as_.Global k t) = le_prop
DeclaredBelow-prop n (as_.Const k t) = le_prop
DeclaredBelow-prop n (as_.TypeName t) = le_prop
DeclaredBelow-prop n (as_.Func f s) = ×_prop (IdsBelow-prop n s.params) (IdsBelow-prop n s.results)
DeclaredBelow-prop n (as_.Import path) = Unit-prop
DeclaredBelow-prop n (as_.Builtin b) = Unit-prop
DeclaredBelow-prop n as_.Nil = Unit-prop
DeclaredBelow-prop n (as_.Refused k) = Unit-prop
DeclaredBelow-prop n as_.Unknown = Unit-prop

pub HeldsBelow-prop : (n : ℕ) (hs : List Held) → IsProp (HeldsBelow n hs)
HeldsBelow-prop n = each_prop (λ (h : Held). DeclaredBelow n h.what) (λ h. DeclaredBelow-prop n h.what)

pub ScopesBelow-prop : (n : ℕ) (ss : List (List Held)) → IsProp (ScopesBelow n ss)
ScopesBelow-prop n = each_prop (HeldsBelow n) (HeldsBelow-prop n)

pub PackagesBelow-prop : (n : ℕ) (ps : List HeldPackage) → IsProp (PackagesBelow n ps)
PackagesBelow-prop n = each_prop (λ (p : HeldPackage). HeldsBelow n p.binds) (λ p. HeldsBelow-prop n p.binds)

pub Begins-prop : (t : TypeTable) → IsProp (Begins t)
Begins-prop t = ×_prop (Π_prop (λ i. Π_prop (λ h. Coded-set coded_bool _ _))) le_prop
