-- The core of a typed node gives what the node is typed as.
use Rattle.std.specs.Prelude.{◌≡◌, ℕ, List, [], ◌∷◌, Bool, true, false, ◌&&◌, Option, Some, None, IsTrue}
use Rattle.go_syntax.specs.Tree.{Expr}
use Rattle.go_const.specs.declared.constant.Const.{Const}
use Rattle.go_type.specs.Tree as ty
use Rattle.go_type.specs.Tree.{Ty, Tys, no_tys, more_tys}
use Rattle.go_type.specs.Named.{NamedTy}
use Rattle.go_core.specs.CoreTree as core
use Rattle.go_core.specs.TypeOf.{types_of, listed_types}
use Rattle.go_typing.specs.Env.{Decl, variable, global, constant, type_name, function, Bind, lookup}
use Rattle.go_typing.specs.Answer.{value}
use Rattle.go_typing.specs.Typing.{typing}

-- a type that variables have: not untyped, not that of `nil`, not that of several values
abbrev pub is_single : Ty → Bool
is_single (ty.untyped b) = false
is_single ty.nil = false
is_single (ty.tuple ts) = false
is_single t = true

abbrev pub is_constant_type : Ty → Bool
is_constant_type (ty.untyped b) = true
is_constant_type t = is_single t

abbrev pub all_single : Tys → Bool
all_single no_tys = true
all_single (more_tys t ts) = is_single t && all_single ts

abbrev pub FitsDecl : Decl → Type 0
FitsDecl (variable id t) = IsTrue (is_single t)
FitsDecl (global number t) = IsTrue (is_single t)
FitsDecl (constant k t) = IsTrue (is_constant_type t)
FitsDecl (type_name t) = IsTrue (is_single t)
FitsDecl (function id ps rs variadic) = IsTrue (all_single rs)
FitsDecl d = Unit {0}

-- each variable, constant, type and result in scope has such a type
abbrev pub FitsScopes : List (List Bind) → Type 0
FitsScopes ss = (x : List ℕ) (d : Decl) → lookup x ss ≡ Some d → FitsDecl d

-- the types of the core's values: an untyped boolean that is no constant is a `bool`, a tuple has those of its values
abbrev pub value_types : Ty → Option Const → List Ty
value_types (ty.tuple ts) v = listed_types ts
value_types (ty.untyped b) None = ty.bool ∷ []
value_types t v = t ∷ []

abbrev pub TypesFit : Type 0
TypesFit = (ns : List NamedTy) (ss : List (List Bind)) → FitsScopes ss → (e : Expr) (c : core.Expr) (t : Ty) (v : Option Const)
    → typing ns ss e ≡ value c t v → types_of ns c ≡ value_types t v
