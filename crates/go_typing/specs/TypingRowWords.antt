-- Short words for the rows: small expressions with their places, the scope that they stand in, and what is told of them.
use Rattle.std.specs.Prelude.{ℕ, pos, List, [], ◌∷◌, ◌++◌, true, false, Some, None, codes}
use Rattle.gj_base.specs.declared.place.Place.{Place}
use Rattle.gj_base.specs.declared.kind.Op.{Op}
use Rattle.go_const.specs.declared.constant.Const.TheVariants as form
use Rattle.go_syntax.specs.Tree as t
use Rattle.go_syntax.specs.declared.tree.Prefix.{Prefix}
use Rattle.go_type.specs.declared.types.Basis.TheVariants as basis
use Rattle.go_type.specs.declared.types.IntName.TheVariants as integer
use Rattle.go_type.specs.Tree as ty
use Rattle.go_type.specs.Tree.{Ty, Tys, no_tys, more_tys}
use Rattle.go_type.specs.Named.{NamedTy}
use Rattle.go_type.specs.Predeclared.{predeclared_names}
use Rattle.go_core.specs.CoreTree as core
use Rattle.go_typing.specs.Env.{variable, constant, type_name, function, unknown, Bind, universe, predeclared}
use Rattle.go_typing.specs.Answer.{Flaw, Answer, value, bad}
use Rattle.go_typing.specs.Operand.{constant_at, typed_constant, untyped_constant}
use Rattle.go_typing.specs.Typing.{place_of, typing, flaws}
use Rattle.go_typing.specs.Wanted.{wanted, wanted_alone, wanted_type}
use Rattle.go_typing.specs.Faulty.{flaws_at}

-- ---- expressions, each with the offset of its first byte where its parts don't say it

abbrev pub at : ℕ → Place
at n = record { file = 0; offset = n }

abbrev pub name : List ℕ → ℕ → t.Expr
name text n = t.NameExpr (at n) text

abbrev pub num : List ℕ → ℕ → t.Expr
num text n = t.IntExpr (at n) text

abbrev pub rune : List ℕ → ℕ → t.Expr
rune text n = t.RuneExpr (at n) text

abbrev pub str : List ℕ → ℕ → t.Expr
str text n = t.StrExpr (at n) text

abbrev pub paren : ℕ → t.Expr → t.Expr
paren n x = t.ParenExpr (at n) x

abbrev pub pre : ℕ → Prefix → t.Expr → t.Expr
pre n op x = t.UnaryExpr (at n) op x

abbrev pub two : t.Expr → Op → t.Expr → t.Expr
two x op y = t.BinaryExpr (place_of x) x op y

abbrev pub at_index : t.Expr → t.Expr → t.Expr
at_index x i = t.IndexExpr (place_of x) x i

abbrev pub exprs : List t.Expr → t.Exprs
exprs [] = t.NoExprs
exprs (x ∷ xs) = t.MoreExprs x (exprs xs)

abbrev pub call : t.Expr → List t.Expr → t.Expr
call f xs = t.CallExpr (place_of f) f (exprs xs) false

-- with `...` after the last argument
abbrev pub call_spread : t.Expr → List t.Expr → t.Expr
call_spread f xs = t.CallExpr (place_of f) f (exprs xs) true

-- ---- the scope of the rows

abbrev pub int : Ty
int = ty.int integer.Int

abbrev pub int64 : Ty
int64 = ty.int integer.Int64

abbrev pub uint8 : Ty
uint8 = ty.int integer.Uint8

abbrev pub uint : Ty
uint = ty.int integer.Uint

abbrev pub int32 : Ty
int32 = ty.int integer.Int32

-- `type N int`, `type B bool` and `type S string`
abbrev pub named_int : Ty
named_int = ty.named 1

abbrev pub named_bool : Ty
named_bool = ty.named 2

abbrev pub named_str : Ty
named_str = ty.named 3

abbrev pub named_as : List ℕ → Ty → NamedTy
named_as x u = record { name = x; package_ = codes "main"; under = Some u; methods = [] }

abbrev pub names : List NamedTy
names = predeclared_names ++ named_as (codes "N") int ∷ named_as (codes "B") ty.bool ∷ named_as (codes "S") ty.str ∷ []

abbrev pub one_type : Ty → Tys
one_type u = more_tys u no_tys

abbrev pub two_types : Ty → Ty → Tys
two_types u v = more_tys u (one_type v)

-- var b bool; var i int; var w int64; var u uint8; var s string; var m uint; var n N; var d B; var z S
-- const c uint8 = 200; const k = 4
-- func f(int, string) int; func g() (int, string); func h(); func j(string) S
-- `lost` is declared, and its declaration isn't typed
abbrev pub declared : List Bind
declared =
    predeclared (codes "b") (variable 0 ty.bool) ∷ predeclared (codes "i") (variable 1 int) ∷ predeclared (codes "w") (variable 2 int64)
    ∷ predeclared (codes "u") (variable 3 uint8) ∷ predeclared (codes "s") (variable 4 ty.str) ∷ predeclared (codes "m") (variable 5 uint)
    ∷ predeclared (codes "n") (variable 6 named_int) ∷ predeclared (codes "d") (variable 7 named_bool) ∷ predeclared (codes "z") (variable 8 named_str)
    ∷ predeclared (codes "c") (constant (form.Int (pos 200)) uint8) ∷ predeclared (codes "k") (constant (form.Int (pos 4)) (ty.untyped basis.Int))
    ∷ predeclared (codes "N") (type_name named_int) ∷ predeclared (codes "B") (type_name named_bool) ∷ predeclared (codes "S") (type_name named_str)
    ∷ predeclared (codes "f") (function 10 (two_types int ty.str) (one_type int) false) ∷ predeclared (codes "g") (function 12 no_tys (two_types int ty.str) false)
    ∷ predeclared (codes "h") (function 14 no_tys no_tys false) ∷ predeclared (codes "j") (function 15 (one_type ty.str) (one_type named_str) false)
    ∷ predeclared (codes "lost") unknown ∷ []

abbrev pub scopes : List (List Bind)
scopes = universe None ∷ declared ∷ []

abbrev pub typed : t.Expr → Answer
typed x = typing names scopes x

abbrev pub told : t.Expr → List Flaw
told x = flaws names scopes x

-- where a value of this type is wanted
abbrev pub typed_as : Ty → t.Expr → Answer
typed_as u x = wanted names (place_of x) u (typed x)

abbrev pub told_as : Ty → t.Expr → List Flaw
told_as u x = flaws_at names scopes u x

-- where any value is wanted
abbrev pub typed_alone : t.Expr → Answer
typed_alone x = wanted_alone names (place_of x) (typed x)

-- where a type is wanted
abbrev pub typed_type : t.Expr → Answer
typed_type x = wanted_type (place_of x) (typed x)

-- ---- what rows say

-- one fault
abbrev pub faulty : ℕ → ℕ → Answer
faulty n code = bad (at n) code

abbrev pub fault : ℕ → ℕ → Flaw
fault n code = record { place = at n; code = code; name = [] }

abbrev pub named_fault : ℕ → ℕ → List ℕ → Flaw
named_fault n code x = record { place = at n; code = code; name = x }

-- a variable's value
abbrev pub var : Ty → ℕ → core.Expr
var u v = core.read u (core.local_ v)

abbrev pub b_ : core.Expr
b_ = var ty.bool 0

abbrev pub i_ : core.Expr
i_ = var int 1

abbrev pub w_ : core.Expr
w_ = var int64 2

abbrev pub u_ : core.Expr
u_ = var uint8 3

abbrev pub s_ : core.Expr
s_ = var ty.str 4

abbrev pub m_ : core.Expr
m_ = var uint 5

abbrev pub n_ : core.Expr
n_ = var named_int 6

abbrev pub d_ : core.Expr
d_ = var named_bool 7

abbrev pub z_ : core.Expr
z_ = var named_str 8

-- a value that is no constant
abbrev pub a_value : core.Expr → Ty → Answer
a_value c u = value c u None

abbrev pub a_truth : core.Expr → Answer
a_truth c = value c (ty.untyped basis.Bool) None

-- whole numbers, untyped and of a type
abbrev pub whole : ℕ → Answer
whole n = untyped_constant (form.Int (pos n))

abbrev pub whole_of : Ty → ℕ → Answer
whole_of u n = typed_constant u (form.Int (pos n))

-- the core of a number of a type
abbrev pub num_at : Ty → ℕ → core.Expr
num_at u n = constant_at u (form.Int (pos n))

abbrev pub text_at : Ty → List ℕ → core.Expr
text_at u bytes = constant_at u (form.Text bytes)

abbrev pub args : List core.Expr → core.Exprs
args [] = core.no_exprs
args (c ∷ cs) = core.expr c (args cs)

-- `x[low:high:most]`
abbrev pub part_of : t.Expr → t.MaybeExpr → t.MaybeExpr → t.MaybeExpr → t.Expr
part_of x low high most = t.SliceExpr (place_of x) x low high most

-- `x.name`, with the offset of the name
abbrev pub select : t.Expr → List ℕ → ℕ → t.Expr
select x text n = t.SelectExpr (place_of x) x (record { place = at n; text = text })
