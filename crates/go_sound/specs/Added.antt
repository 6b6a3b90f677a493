-- Go specification (as of Go 1.17), "Type definitions": a function's own named types are added to those of the package, and change
-- nothing that is typed without them.
use Rattle.std.specs.Prelude.{◌≡◌, ℕ, List, ◌++◌, Some}
use Rattle.go_syntax.specs.Tree.{Expr}
use Rattle.go_type.specs.Tree as ty
use Rattle.go_type.specs.Tree.{Ty, Tys, no_tys, more_tys}
use Rattle.go_type.specs.Named.{NamedTy}
use Rattle.go_type.specs.Underlying.{under_at}
use Rattle.go_typing.specs.Env.{Decl, variable, global, constant, type_name, function, Bind, lookup}
use Rattle.go_typing.specs.Typing.{typing, flaws}

abbrev mutual
  -- each named type in it stands for something
  pub TypeIsSet : List NamedTy → Ty → Type 0
  TypeIsSet ns (ty.named id) = (u : Ty) × (under_at ns id ≡ Some u)
  TypeIsSet ns (ty.tuple ts) = TypesAreSet ns ts
  TypeIsSet ns t = Unit {0}

  pub TypesAreSet : List NamedTy → Tys → Type 0
  TypesAreSet ns no_tys = Unit {0}
  TypesAreSet ns (more_tys t ts) = TypeIsSet ns t × TypesAreSet ns ts

abbrev pub DeclIsSet : List NamedTy → Decl → Type 0
DeclIsSet ns (variable id t) = TypeIsSet ns t
DeclIsSet ns (global number t) = TypeIsSet ns t
DeclIsSet ns (constant k t) = TypeIsSet ns t
DeclIsSet ns (type_name t) = TypeIsSet ns t
DeclIsSet ns (function id ps rs variadic) = TypesAreSet ns ps × TypesAreSet ns rs
DeclIsSet ns d = Unit {0}

-- so is each type that is in scope
abbrev pub ScopesAreSet : List NamedTy → List (List Bind) → Type 0
ScopesAreSet ns ss = (x : List ℕ) (d : Decl) → lookup x ss ≡ Some d → DeclIsSet ns d

abbrev pub AddedTypesChangeNothing : Type 0
AddedTypesChangeNothing = (ns more : List NamedTy) (ss : List (List Bind)) → ScopesAreSet ns ss → (e : Expr) → typing (ns ++ more) ss e ≡ typing ns ss e

-- nor is anything else told
abbrev pub AddedTypesTellNothing : Type 0
AddedTypesTellNothing = (ns more : List NamedTy) (ss : List (List Bind)) → ScopesAreSet ns ss → (e : Expr) → flaws (ns ++ more) ss e ≡ flaws ns ss e
