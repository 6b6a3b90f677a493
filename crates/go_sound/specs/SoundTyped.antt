-- Go specification (as of Go 1.17), "Expressions": a node that is typed has a core that has a meaning, where what is in scope
-- has one.
use Rattle.std.specs.Prelude.{◌≡◌, ℕ, List, Bool, true, false, Option, Some, None, IsTrue, slice_get}
use Rattle.gj_base.specs.declared.kind.Op.{Op}
use Rattle.gj_base.specs.declared.kind.Op.TheVariants as operator
use Rattle.go_const.specs.declared.constant.Const.{Const}
use Rattle.go_syntax.specs.Tree.{Expr, ParenExpr, UnaryExpr, BinaryExpr, IndexExpr, SliceExpr, CallExpr, MaybeExpr, NoExpr, AnExpr, Exprs, NoExprs, MoreExprs}
use Rattle.go_type.specs.Tree as ty
use Rattle.go_type.specs.Tree.{Ty, Tys, no_tys, more_tys}
use Rattle.go_type.specs.Underlying.{underlying}
use Rattle.go_core.specs.CoreTree as core
use Rattle.go_core.specs.CoreTree.{CoreProgram}
use Rattle.go_core.specs.TypeOf.{types_of, listed_types}
use Rattle.go_core.specs.SoundNode.{Around, Fits, CallsFunction, IsRowOf}
use Rattle.go_core.specs.Sound.{Gives, LiesAt, SoundExpr, SoundStmt}
use Rattle.go_typing.specs.Env.{Decl, variable, global, constant, type_name, function, Bind, lookup}
use Rattle.go_typing.specs.Answer.{value, does}
use Rattle.go_typing.specs.Operand.{constant_of}
use Rattle.go_typing.specs.Convert.{is_scalar}
use Rattle.go_typing.specs.Wanted.{wanted, wanted_alone}
use Rattle.go_typing.specs.Typing.{typing, place_of}

-- ---- trees

-- the operators between operands
abbrev pub is_binary : Op → Bool
is_binary operator.Plus = false
is_binary operator.Neg = false
is_binary operator.Not = false
is_binary operator.Compl = false
is_binary (operator.To k) = false
is_binary _ = true

abbrev mutual
  -- between operands stand the operators that the grammar has there
  pub HasOperators : Expr → Type 0
  HasOperators (ParenExpr at x) = HasOperators x
  HasOperators (UnaryExpr at op x) = HasOperators x
  HasOperators (BinaryExpr at x op y) = IsTrue (is_binary op) × HasOperators x × HasOperators y
  HasOperators (IndexExpr at x i) = HasOperators x × HasOperators i
  HasOperators (SliceExpr at x low high most) = HasOperators x × BoundHasOperators low × BoundHasOperators high × BoundHasOperators most
  HasOperators (CallExpr at f xs spread) = HasOperators f × AllHaveOperators xs
  HasOperators _ = Unit {0}

  pub BoundHasOperators : MaybeExpr → Type 0
  BoundHasOperators NoExpr = Unit {0}
  BoundHasOperators (AnExpr x) = HasOperators x

  pub AllHaveOperators : Exprs → Type 0
  AllHaveOperators NoExprs = Unit {0}
  AllHaveOperators (MoreExprs x xs) = HasOperators x × AllHaveOperators xs

-- ---- scopes

-- a boolean, integer or string type, or one that stands for such a type
abbrev pub IsScalarType : CoreProgram → Ty → Type 0
IsScalarType p t = IsTrue (is_scalar (underlying p.names t))

abbrev pub AreScalarTypes : CoreProgram → Tys → Type 0
AreScalarTypes p no_tys = Unit {0}
AreScalarTypes p (more_tys t ts) = IsScalarType p t × AreScalarTypes p ts

-- a constant of a type is a value of it
abbrev pub IsConstantOf : CoreProgram → Ty → Const → Type 0
IsConstantOf p (ty.untyped b) k = Unit {0}
IsConstantOf p t k = IsScalarType p t × Fits (underlying p.names t) (constant_of k)

abbrev pub DeclIsSound : CoreProgram → Around → Decl → Type 0
DeclIsSound p a (variable id t) = IsScalarType p t × LiesAt p a.vars (core.local_ id) t
DeclIsSound p a (global number t) = IsScalarType p t × LiesAt p a.vars (core.global number) t
DeclIsSound p a (constant k t) = IsConstantOf p t k
DeclIsSound p a (type_name t) = IsScalarType p t
DeclIsSound p a (function id ps rs true) = Unit {0}
DeclIsSound p a (function id ps rs false) =
    CallsFunction (slice_get p.funcs id) a.vars (listed_types ps) rs × (IsRowOf p id → ⊥) × AreScalarTypes p ps × AreScalarTypes p rs
DeclIsSound p a d = Unit {0}

abbrev pub OptionIsSound : CoreProgram → Around → Option Decl → Type 0
OptionIsSound p a None = Unit {0}
OptionIsSound p a (Some d) = DeclIsSound p a d

-- variables in scope lie where they are in scope, types are scalar, functions are those of the program
abbrev pub ScopesAreSound : CoreProgram → Around → List (List Bind) → Type 0
ScopesAreSound p a ss = (x : List ℕ) → OptionIsSound p a (lookup x ss)

-- ---- laws

-- what has no type of its own has no core of its own either: untyped constants, and `nil`
abbrev pub IsSoundValue : CoreProgram → Around → core.Expr → Ty → Option Const → Type 0
IsSoundValue p a c (ty.untyped b) (Some k) = Unit {0}
IsSoundValue p a c (ty.untyped b) None = SoundExpr p a c × Gives p c ty.bool
IsSoundValue p a c ty.nil v = Unit {0}
IsSoundValue p a c (ty.tuple ts) v = SoundExpr p a c × (types_of p.names c ≡ listed_types ts)
IsSoundValue p a c t v = SoundExpr p a c × Gives p c t

-- the core of a typed node
abbrev pub NodesAreSound : Type 0
NodesAreSound = (p : CoreProgram) (a : Around) (ss : List (List Bind)) → ScopesAreSound p a ss → (e : Expr) → HasOperators e
    → (c : core.Expr) (t : Ty) (v : Option Const) → typing p.names ss e ≡ value c t v → IsSoundValue p a c t v

-- the core of a value where one of a type is wanted
abbrev pub WantedAreSound : Type 0
WantedAreSound = (p : CoreProgram) (a : Around) (ss : List (List Bind)) → ScopesAreSound p a ss → (e : Expr) → HasOperators e
    → (u : Ty) → IsScalarType p u → (c : core.Expr) (t : Ty) (v : Option Const) → wanted p.names (place_of e) u (typing p.names ss e) ≡ value c t v
    → SoundExpr p a c × Gives p c u

-- the same where any value is wanted: it has the type that it is typed as
abbrev pub AloneAreSound : Type 0
AloneAreSound = (p : CoreProgram) (a : Around) (ss : List (List Bind)) → ScopesAreSound p a ss → (e : Expr) → HasOperators e
    → (c : core.Expr) (t : Ty) (v : Option Const) → wanted_alone p.names (place_of e) (typing p.names ss e) ≡ value c t v
    → SoundExpr p a c × Gives p c t × IsScalarType p t

-- a call that is a statement of its own
abbrev pub PrintsAreSound : Type 0
PrintsAreSound = (p : CoreProgram) (a : Around) (ss : List (List Bind)) → ScopesAreSound p a ss → (e : Expr) → HasOperators e
    → (s : core.Stmt) → typing p.names ss e ≡ does s → SoundStmt p a s
