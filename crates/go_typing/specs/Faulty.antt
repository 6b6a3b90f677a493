-- Faulty nodes, said apart from any order in which they are found.
use Rattle.std.specs.Prelude.{◌≡◌, ◌⊎◌, ◌↔◌, List, [], ◌∷◌, ◌++◌, IsTrue, false, Option}
use Rattle.go_syntax.specs.Tree.{Expr, NameExpr, IntExpr, RuneExpr, StrExpr, ParenExpr, UnaryExpr, BinaryExpr, SelectExpr, IndexExpr, SliceExpr, AssertExpr, CallExpr, LiteralExpr, FuncExpr, ArrayType, SliceType, StructType, FuncType, InterfaceType, MapType, ChanType, MaybeExpr, NoExpr, AnExpr, Exprs, NoExprs, MoreExprs}
use Rattle.go_type.specs.Named.{NamedTy}
use Rattle.go_type.specs.Tree.{Ty}
use Rattle.go_core.specs.CoreTree as core
use Rattle.go_const.specs.declared.constant.Const.{Const}
use Rattle.go_typing.specs.Env.{Bind}
use Rattle.go_typing.specs.Answer.{Flaw, value, untyped_part, own, is_known}
use Rattle.go_typing.specs.Wanted.{wanted}
use Rattle.go_typing.specs.Call.{is_built}
use Rattle.go_typing.specs.Typing.{Callee, a_function, a_built_in, by_value, callee_of, place_of, typing, flaws, is_built_prefix}

abbrev pub IsIn : Flaw → List Flaw → Type 0
IsIn f [] = ⊥
IsIn f (g ∷ gs) = (g ≡ f) ⊎ IsIn f gs

-- of what is called and of the arguments, as far as they are looked at: the name of a function that is called is no
-- node of its own, and nothing is looked at in a call of a built-in function that is not built yet
abbrev pub InCall : Callee → Type 0 → Type 0 → Type 0
InCall (a_function id ps rs variadic) F X = X
InCall (a_built_in b) F X = IsTrue (is_built b) × X
InCall by_value F X = F ⊎ X

module _ (ss : List (List Bind)) where
  abbrev mutual
    -- the first is the second or a node in it; nothing is looked at in a form that is not built yet
    pub Inside : Expr → Expr → Type 0
    Inside n (NameExpr at x) = n ≡ NameExpr at x
    Inside n (IntExpr at x) = n ≡ IntExpr at x
    Inside n (RuneExpr at x) = n ≡ RuneExpr at x
    Inside n (StrExpr at x) = n ≡ StrExpr at x
    Inside n (ParenExpr at x) = (n ≡ ParenExpr at x) ⊎ Inside n x
    Inside n (UnaryExpr at op x) = (n ≡ UnaryExpr at op x) ⊎ (IsTrue (is_built_prefix op) × Inside n x)
    Inside n (BinaryExpr at x op y) = (n ≡ BinaryExpr at x op y) ⊎ (Inside n x ⊎ Inside n y)
    Inside n (SelectExpr at x name) = n ≡ SelectExpr at x name
    Inside n (IndexExpr at x i) = (n ≡ IndexExpr at x i) ⊎ (Inside n x ⊎ Inside n i)
    Inside n (SliceExpr at x low high most) =
        (n ≡ SliceExpr at x low high most) ⊎ (Inside n x ⊎ (InsideBound n low ⊎ (InsideBound n high ⊎ InsideBound n most)))
    Inside n (AssertExpr at x t) = n ≡ AssertExpr at x t
    Inside n (CallExpr at f xs spread) = (n ≡ CallExpr at f xs spread) ⊎ InCall (callee_of ss f) (Inside n f) (InsideAny n xs)
    Inside n (LiteralExpr at t es) = n ≡ LiteralExpr at t es
    Inside n (FuncExpr at sig b) = n ≡ FuncExpr at sig b
    Inside n (ArrayType at m t) = n ≡ ArrayType at m t
    Inside n (SliceType at t) = n ≡ SliceType at t
    Inside n (StructType at fs) = n ≡ StructType at fs
    Inside n (FuncType at sig) = n ≡ FuncType at sig
    Inside n (InterfaceType at ms) = n ≡ InterfaceType at ms
    Inside n (MapType at k t) = n ≡ MapType at k t
    Inside n (ChanType at d t) = n ≡ ChanType at d t

    pub InsideBound : Expr → MaybeExpr → Type 0
    InsideBound n NoExpr = ⊥
    InsideBound n (AnExpr x) = Inside n x

    pub InsideAny : Expr → Exprs → Type 0
    InsideAny n NoExprs = ⊥
    InsideAny n (MoreExprs x xs) = Inside n x ⊎ InsideAny n xs

  abbrev pub IsBound : Expr → MaybeExpr → Type 0
  IsBound n NoExpr = ⊥
  IsBound n (AnExpr x) = n ≡ x

  abbrev pub IsOneOf : Expr → Exprs → Type 0
  IsOneOf n NoExprs = ⊥
  IsOneOf n (MoreExprs x xs) = (n ≡ x) ⊎ IsOneOf n xs

  -- the first is a part of the second, one that is looked at
  abbrev pub IsPart : Expr → Expr → Type 0
  IsPart n (ParenExpr at x) = n ≡ x
  IsPart n (UnaryExpr at op x) = IsTrue (is_built_prefix op) × (n ≡ x)
  IsPart n (BinaryExpr at x op y) = (n ≡ x) ⊎ (n ≡ y)
  IsPart n (IndexExpr at x i) = (n ≡ x) ⊎ (n ≡ i)
  IsPart n (SliceExpr at x low high most) = (n ≡ x) ⊎ (IsBound n low ⊎ (IsBound n high ⊎ IsBound n most))
  IsPart n (CallExpr at f xs spread) = InCall (callee_of ss f) (n ≡ f) (IsOneOf n xs)
  IsPart n _ = ⊥

module _ (ns : List NamedTy) (ss : List (List Bind)) where
  -- a node of the expression has this fault
  abbrev pub HasFault : Expr → Flaw → Type 0
  HasFault e f = (n : Expr) × Inside ss n e × IsIn f (own (typing ns ss n))

  -- the expression is a value of this type, with this core; and it is this constant, if any
  abbrev pub IsTyped : Expr → core.Expr → Ty → Option Const → Type 0
  IsTyped e c t v = typing ns ss e ≡ value c t v

  -- the same where a value of a type is wanted
  abbrev pub IsTypedAt : Ty → Expr → core.Expr → Option Const → Type 0
  IsTypedAt t e c v = wanted ns (place_of e) t (typing ns ss e) ≡ value c t v

  abbrev pub HasFaultAt : Ty → Expr → Flaw → Type 0
  HasFaultAt t e f = HasFault e f ⊎ IsIn f (own (wanted ns (place_of e) t (typing ns ss e)))

  abbrev pub flaws_at : Ty → Expr → List Flaw
  flaws_at t e = flaws ns ss e ++ own (wanted ns (place_of e) t (typing ns ss e))

-- ---- laws

-- the list has exactly the faults of the faulty nodes
abbrev pub ListsExactly : Type 0
ListsExactly = (ns : List NamedTy) (ss : List (List Bind)) (e : Expr) (f : Flaw) → IsIn f (flaws ns ss e) ↔ HasFault ns ss e f

-- the same where a value of a type is wanted
abbrev pub ListsExactlyAt : Type 0
ListsExactlyAt = (ns : List NamedTy) (ss : List (List Bind)) (t : Ty) (e : Expr) (f : Flaw) → IsIn f (flaws_at ns ss t e) ↔ HasFaultAt ns ss t e f

-- a node with a part that isn't typed isn't typed and has no fault of its own
abbrev pub NoneAround : Type 0
NoneAround = (ns : List NamedTy) (ss : List (List Bind)) (m n : Expr) → IsPart ss m n → is_known (typing ns ss m) ≡ false → typing ns ss n ≡ untyped_part
