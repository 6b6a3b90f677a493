-- Own: the types that declarations speak of are among the first n of a table.
use Rattle.std.specs.Prelude.{ℕ, ◌<◌, List}
use Rattle.std.specs.List.{AllByRecursion}
use Rattle.go_type.specs.Levels.{SigBelow}
use Rattle.go_operands.specs.declared.scopes.declared.Declared.{Declared}
use Rattle.go_operands.specs.declared.scopes.declared.Declared.TheVariants as as_
use Rattle.go_operands.specs.Held.{Held, HeldPackage}

abbrev pub DeclaredBelow : ℕ → Declared → Type 0
DeclaredBelow n (as_.Var v t) = t.0 < n
DeclaredBelow n (as_.Global k t) = t.0 < n
DeclaredBelow n (as_.Const k t) = t.0 < n
DeclaredBelow n (as_.TypeName t) = t.0 < n
DeclaredBelow n (as_.Func f s) = SigBelow n s
DeclaredBelow n (as_.Import path) = Unit {0}
DeclaredBelow n (as_.Builtin b) = Unit {0}
DeclaredBelow n as_.Nil = Unit {0}
DeclaredBelow n (as_.Refused k) = Unit {0}
DeclaredBelow n as_.Unknown = Unit {0}

abbrev pub HeldsBelow : ℕ → List Held → Type 0
HeldsBelow n hs = AllByRecursion (λ (h : Held). DeclaredBelow n h.what) hs

abbrev pub ScopesBelow : ℕ → List (List Held) → Type 0
ScopesBelow n ss = AllByRecursion (HeldsBelow n) ss

abbrev pub PackagesBelow : ℕ → List HeldPackage → Type 0
PackagesBelow n ps = AllByRecursion (λ (p : HeldPackage). HeldsBelow n p.binds) ps
