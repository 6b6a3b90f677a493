-- What each node is typed as, from what its parts are, for scalar programs. A form that is not
-- built yet is a fault (0) at the node's first byte, whatever its parts are.
-- Go specification (as of Go 1.17), "Expressions", "Declarations and scope", "Constants".
use Rattle.std.specs.Prelude.{ℕ, pos, List, [], ◌∷◌, ◌++◌, Bool, true, false, Option, Some, None, if◌then◌else◌}
use Rattle.gj_base.specs.declared.place.Place.{Place}
use Rattle.gj_base.specs.declared.kind.Op.{Op}
use Rattle.gj_base.specs.declared.kind.Op.TheVariants as operator
use Rattle.go_const.specs.declared.constant.Const.TheVariants as form
use Rattle.go_syntax.specs.Tree.{Expr, NameExpr, IntExpr, RuneExpr, StrExpr, ParenExpr, UnaryExpr, BinaryExpr, SelectExpr, IndexExpr, SliceExpr, AssertExpr, CallExpr, LiteralExpr, FuncExpr, ArrayType, SliceType, StructType, FuncType, InterfaceType, MapType, ChanType, MaybeExpr, NoExpr, AnExpr, Exprs, NoExprs, MoreExprs}
use Rattle.go_syntax.specs.declared.tree.Prefix.{Prefix}
use Rattle.go_syntax.specs.declared.tree.Prefix.TheVariants as «prefix»
use Rattle.go_type.specs.Tree as ty
use Rattle.go_type.specs.Tree.{Tys}
use Rattle.go_type.specs.Named.{NamedTy}
use Rattle.go_core.specs.CoreTree as core
use Rattle.go_typing.specs.Env.{Builtin, Complex, Imag, Real, Decl, variable, global, constant, type_name, function, imported, nil_value, refused, unknown, Bind, lookup, is_blank}
use Rattle.go_typing.specs.Env as env
use Rattle.go_typing.specs.Answer.{Flaw, Answer, value, type_, package_, built_in, blank, wrong, untyped_part, bad, bad_name, own, Part}
use Rattle.go_typing.specs.Literal.{int_value, rune_value}
use Rattle.go_typing.specs.Operand.{constant_at, untyped_constant}
use Rattle.go_typing.specs.Unary.{unary_row}
use Rattle.go_typing.specs.Shift.{shift_row}
use Rattle.go_typing.specs.Binary.{Arithmetic, Comparison, Logical, binary_row}
use Rattle.go_typing.specs.Index.{index_row, slice_row}
use Rattle.go_typing.specs.Call.{function_row, built_in_row, called_row, is_built}

-- the first byte of a node
abbrev pub place_of : Expr → Place
place_of (NameExpr at x) = at
place_of (IntExpr at x) = at
place_of (RuneExpr at x) = at
place_of (StrExpr at x) = at
place_of (ParenExpr at x) = at
place_of (UnaryExpr at op x) = at
place_of (BinaryExpr at x op y) = at
place_of (SelectExpr at x name) = at
place_of (IndexExpr at x i) = at
place_of (SliceExpr at x low high most) = at
place_of (AssertExpr at x t) = at
place_of (CallExpr at f xs spread) = at
place_of (LiteralExpr at t es) = at
place_of (FuncExpr at sig b) = at
place_of (ArrayType at n t) = at
place_of (SliceType at t) = at
place_of (StructType at fs) = at
place_of (FuncType at sig) = at
place_of (InterfaceType at ms) = at
place_of (MapType at k t) = at
place_of (ChanType at d t) = at

-- ---- a name

-- own: what is not in the profile (71)
abbrev pub built_in_name : Place → Builtin → Answer
built_in_name at Complex = bad at 71
built_in_name at Imag = bad at 71
built_in_name at Real = bad at 71
built_in_name at b = built_in b

-- as its declaration says (50). A function's name that isn't called is not built yet.
abbrev pub declared_row : Place → List ℕ → Option Decl → Answer
declared_row at x None = bad_name at 50 x
declared_row at x (Some (variable id t)) = value (core.read t (core.local_ id)) t None
declared_row at x (Some (global number t)) = value (core.read t (core.global number)) t None
declared_row at x (Some (constant k t)) = value (constant_at t k) t (Some k)
declared_row at x (Some (type_name t)) = type_ t
declared_row at x (Some (function id ps rs variadic)) = bad at 0
declared_row at x (Some (imported path)) = package_ path
declared_row at x (Some (env.built_in b)) = built_in_name at b
declared_row at x (Some nil_value) = value (core.zero_value ty.nil) ty.nil None
declared_row at x (Some (refused code)) = bad at code
declared_row at x (Some unknown) = untyped_part

abbrev pub name_row : Place → List ℕ → List (List Bind) → Answer
name_row at x ss = if is_blank x then blank else declared_row at x (lookup x ss)

-- ---- parentheses are as what they hold
abbrev pub paren_row : Answer → Answer
paren_row (wrong f fs) = untyped_part
paren_row a = a

module _ (ns : List NamedTy) where
  -- ---- `+ - ^ !`; `*`, `&` and `<-` are not built yet
  abbrev pub prefix_row : Place → Prefix → Part → Answer
  prefix_row at «prefix».Plus x = unary_row ns at operator.Plus x
  prefix_row at «prefix».Neg x = unary_row ns at operator.Neg x
  prefix_row at «prefix».Not x = unary_row ns at operator.Not x
  prefix_row at «prefix».Compl x = unary_row ns at operator.Compl x
  prefix_row at _ x = bad at 0

  -- ---- operators between operands
  abbrev pub operator_row : Place → Op → Part → Part → Answer
  operator_row at operator.Shl x y = shift_row ns at operator.Shl x y
  operator_row at operator.Shr x y = shift_row ns at operator.Shr x y
  operator_row at operator.Eq x y = binary_row ns Comparison at operator.Eq x y
  operator_row at operator.Ne x y = binary_row ns Comparison at operator.Ne x y
  operator_row at operator.Lt x y = binary_row ns Comparison at operator.Lt x y
  operator_row at operator.Le x y = binary_row ns Comparison at operator.Le x y
  operator_row at operator.Gt x y = binary_row ns Comparison at operator.Gt x y
  operator_row at operator.Ge x y = binary_row ns Comparison at operator.Ge x y
  operator_row at operator.AndThen x y = binary_row ns Logical at operator.AndThen x y
  operator_row at operator.OrElse x y = binary_row ns Logical at operator.OrElse x y
  operator_row at op x y = binary_row ns Arithmetic at op x y

-- ---- what a call calls

pub data Callee : Type 0 where
  a_function : (id : ℕ) → (params results : Tys) → (variadic : Bool) → Callee
  a_built_in : Builtin → Callee
  -- anything else: a type, a value
  by_value : Callee

abbrev pub declared_callee : Option Decl → Callee
declared_callee (Some (function id ps rs variadic)) = a_function id ps rs variadic
declared_callee (Some (env.built_in b)) = a_built_in b
declared_callee _ = by_value

-- a name, also in parentheses
abbrev pub callee_of : List (List Bind) → Expr → Callee
callee_of ss (NameExpr at x) = if is_blank x then by_value else declared_callee (lookup x ss)
callee_of ss (ParenExpr at x) = callee_of ss x
callee_of ss _ = by_value

abbrev pub call_row : List NamedTy → Place → Callee → Part → (spread : Bool) → List Part → Answer
call_row ns at (a_function id ps rs variadic) f spread xs = function_row ns at id ps rs variadic spread xs
call_row ns at (a_built_in b) f spread xs = built_in_row ns at b spread xs
call_row ns at by_value f spread xs = called_row ns at f spread xs

-- ---- what is looked at

-- whether the operand of a prefix operator is looked at
abbrev pub is_built_prefix : Prefix → Bool
is_built_prefix «prefix».Star = false
is_built_prefix «prefix».Address = false
is_built_prefix «prefix».Receive = false
is_built_prefix _ = true

abbrev pub where_true : Bool → List Flaw → List Flaw
where_true true fs = fs
where_true false fs = []

-- the faults of what is called and of the arguments, as far as they are looked at
abbrev pub call_flaws : Callee → List Flaw → List Flaw → List Flaw
call_flaws (a_function id ps rs variadic) f xs = xs
call_flaws (a_built_in b) f xs = where_true (is_built b) xs
call_flaws by_value f xs = f ++ xs

-- ---- the whole

module _ (ns : List NamedTy) (ss : List (List Bind)) where
  abbrev mutual
    -- what a node is typed as, from what its parts are
    pub typing : Expr → Answer
    typing (NameExpr at x) = name_row at x ss
    -- an untyped constant
    typing (IntExpr at x) = untyped_constant (form.Int (pos (int_value x)))
    typing (RuneExpr at x) = untyped_constant (form.Rune (pos (rune_value x)))
    typing (StrExpr at x) = untyped_constant (form.Text x)
    typing (ParenExpr at x) = paren_row (typing x)
    typing (UnaryExpr at op x) = prefix_row ns at op (record { place = place_of x; answer = typing x })
    typing (BinaryExpr at x op y) = operator_row ns at op (record { place = place_of x; answer = typing x }) (record { place = place_of y; answer = typing y })
    -- a selector
    typing (SelectExpr at x name) = bad at 0
    typing (IndexExpr at x i) = index_row ns at (record { place = place_of x; answer = typing x }) (record { place = place_of i; answer = typing i })
    typing (SliceExpr at x low high most) = slice_row ns at (record { place = place_of x; answer = typing x }) (bound_part low) (bound_part high) (bound_part most)
    -- an assertion
    typing (AssertExpr at x t) = bad at 0
    typing (CallExpr at f xs spread) = call_row ns at (callee_of ss f) (record { place = place_of f; answer = typing f }) spread (parts xs)
    -- literals of composite types and of functions
    typing (LiteralExpr at t es) = bad at 0
    typing (FuncExpr at sig b) = bad at 0
    -- types but names and parentheses
    typing (ArrayType at n t) = bad at 0
    typing (SliceType at t) = bad at 0
    typing (StructType at fs) = bad at 0
    typing (FuncType at sig) = bad at 0
    typing (InterfaceType at ms) = bad at 0
    typing (MapType at k t) = bad at 0
    typing (ChanType at d t) = bad at 0

    pub bound_part : MaybeExpr → Option Part
    bound_part NoExpr = None
    bound_part (AnExpr x) = Some (record { place = place_of x; answer = typing x })

    pub parts : Exprs → List Part
    parts NoExprs = []
    parts (MoreExprs x xs) = record { place = place_of x; answer = typing x } ∷ parts xs

  -- ---- all faults of an expression

  abbrev mutual
    -- those of the parts, and then the node's own
    pub flaws : Expr → List Flaw
    flaws (NameExpr at x) = own (typing (NameExpr at x))
    flaws (IntExpr at x) = []
    flaws (RuneExpr at x) = []
    flaws (StrExpr at x) = []
    flaws (ParenExpr at x) = flaws x
    flaws (UnaryExpr at op x) = where_true (is_built_prefix op) (flaws x) ++ own (typing (UnaryExpr at op x))
    flaws (BinaryExpr at x op y) = (flaws x ++ flaws y) ++ own (typing (BinaryExpr at x op y))
    flaws (SelectExpr at x name) = own (typing (SelectExpr at x name))
    flaws (IndexExpr at x i) = (flaws x ++ flaws i) ++ own (typing (IndexExpr at x i))
    flaws (SliceExpr at x low high most) = (flaws x ++ (bound_flaws low ++ (bound_flaws high ++ bound_flaws most))) ++ own (typing (SliceExpr at x low high most))
    flaws (AssertExpr at x t) = own (typing (AssertExpr at x t))
    flaws (CallExpr at f xs spread) = call_flaws (callee_of ss f) (flaws f) (all_flaws xs) ++ own (typing (CallExpr at f xs spread))
    flaws (LiteralExpr at t es) = own (typing (LiteralExpr at t es))
    flaws (FuncExpr at sig b) = own (typing (FuncExpr at sig b))
    flaws (ArrayType at n t) = own (typing (ArrayType at n t))
    flaws (SliceType at t) = own (typing (SliceType at t))
    flaws (StructType at fs) = own (typing (StructType at fs))
    flaws (FuncType at sig) = own (typing (FuncType at sig))
    flaws (InterfaceType at ms) = own (typing (InterfaceType at ms))
    flaws (MapType at k t) = own (typing (MapType at k t))
    flaws (ChanType at d t) = own (typing (ChanType at d t))

    pub bound_flaws : MaybeExpr → List Flaw
    bound_flaws NoExpr = []
    bound_flaws (AnExpr x) = flaws x

    pub all_flaws : Exprs → List Flaw
    all_flaws NoExprs = []
    all_flaws (MoreExprs x xs) = flaws x ++ all_flaws xs
