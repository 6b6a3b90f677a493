-- Go specification (as of Go 1.17), "Expressions", "Statements", "Declarations and scope": which nodes of a core
-- program have the parts that their kind takes. own: a value goes only to a variable of its own type; where the
-- source lets it go to another, a Wrap or a Convert stands between.
use Rattle.std.specs.Prelude.{◌≡◌, ◌<◌, ◌≤◌, ◌⊎◌, ℕ, List, [], ◌∷◌, Bool, true, Option, Some, None, Contains, slice_get, IsTrue, codes}
use Rattle.gj_base.specs.declared.kind.Kind.TheVariants as kinds
use Rattle.gj_base.specs.declared.kind.Op.{Op}
use Rattle.gj_base.specs.declared.kind.Op.TheVariants as operator
use Rattle.go_type.specs.Tree as ty
use Rattle.go_type.specs.declared.types.IntName.{IntName}
use Rattle.go_type.specs.declared.types.IntName.TheVariants as integer
use Rattle.go_type.specs.Tree.{Ty, Tys, no_tys, more_tys, Specs, no_specs}
use Rattle.go_type.specs.Underlying.{underlying}
use Rattle.go_type.specs.MethodSet.{HasMethod}
use Rattle.go_type.specs.Members.{Sought}
use Rattle.go_type.specs.Exported.{IsHeld}
use Rattle.go_type.specs.Assignability.{IsAssignable}
use Rattle.go_core.specs.Layout.{kind_of, is_key_type, holds_by_value, shape_of, size}
use Rattle.go_core.specs.Arithmetic.{wrapped}
use Rattle.go_core.specs.Untagged.{IsAlike}
use Rattle.go_core.specs.StepInterfaces.{row_of}
use Rattle.go_core.specs.CoreTree as core
use Rattle.go_core.specs.CoreTree.{Constant, truth_constant, whole_constant, text_constant, Expr, Exprs, no_exprs, expr, CorePlace, Bound, no_bound, bound, Elements, no_elements, element, Pairs, no_pairs, pair, Callee, Target, BranchKind, break_, continue_, Communication, Stmt, Stmts, no_stmts, stmt, Tests, no_tests, test, Clauses, no_clauses, clause, Cases, no_cases, case, Var, MethodName, MethodRow, CoreFunc, CoreProgram}
use Rattle.go_core.specs.TypeOf.{listed_types, types_of, var_type, one_type, FieldTy, field_in, int_type, Signature, method_in, spec_in}

-- what stands around a node: the variables in scope, those that may be declared, the results of the function, and
-- the labels that can be left and continued
pub record Around : Type 0 where
  pub vars : List Var
  pub declarable : List Var
  pub results : Tys
  pub breaks : List ℕ
  pub continues : List ℕ

abbrev pub with_var : Var → Around → Around
with_var v a = record a { vars = v ∷ a.vars }

abbrev pub with_all : List Var → Around → Around
with_all [] a = a
with_all (v ∷ vs) a = with_all vs (with_var v a)

abbrev pub with_break : ℕ → Around → Around
with_break label a = record a { breaks = label ∷ a.breaks }

abbrev pub with_loop : ℕ → Around → Around
with_loop label a = record a { breaks = label ∷ a.breaks; continues = label ∷ a.continues }

-- ---- types

abbrev pub IsInt : Ty → Type 0
IsInt (ty.int name) = Unit {0}
IsInt _ = ⊥

abbrev pub IsBool : Ty → Type 0
IsBool ty.bool = Unit {0}
IsBool _ = ⊥

abbrev pub IsText : Ty → Type 0
IsText ty.str = Unit {0}
IsText _ = ⊥

abbrev pub IsPrintable : Ty → Type 0
IsPrintable ty.bool = Unit {0}
IsPrintable (ty.int name) = Unit {0}
IsPrintable ty.str = Unit {0}
IsPrintable _ = ⊥

abbrev pub IsInterface : Ty → Type 0
IsInterface (ty.interface ms) = Unit {0}
IsInterface _ = ⊥

abbrev pub IsSlice : Ty → Type 0
IsSlice (ty.slice t) = Unit {0}
IsSlice _ = ⊥

abbrev pub IsStruct : Ty → Type 0
IsStruct (ty.struct fs) = Unit {0}
IsStruct _ = ⊥

abbrev pub IsArray : Ty → Type 0
IsArray (ty.array n t) = Unit {0}
IsArray _ = ⊥

abbrev pub IsMap : Ty → Type 0
IsMap (ty.mapping k v) = Unit {0}
IsMap _ = ⊥

abbrev pub IsChannel : Ty → Type 0
IsChannel (ty.chan d t) = Unit {0}
IsChannel _ = ⊥

abbrev pub every : Ty → Bool
every t = true

-- each named type that it holds by value is set, and none holds itself; and it has at most 2^20 scalars
pub record IsWhole (p : CoreProgram) (t : Ty) : Type 0 where
  pub is_finite : IsTrue (holds_by_value every p.names t)
  pub is_small : size (shape_of p.names t) ≤ 1048576

-- a map has a key type of the profile
abbrev pub HasKey : CoreProgram → Ty → Type 0
HasKey p (ty.mapping k v) = IsTrue (is_key_type p.names k)
HasKey p _ = Unit {0}

pub record IsGoodType (p : CoreProgram) (t : Ty) : Type 0 where
  pub is_whole : IsWhole p t
  pub has_key : HasKey p (underlying p.names t)

-- the constant is a value of the type
abbrev pub Fits : Ty → Constant → Type 0
Fits ty.bool (truth_constant b) = Unit {0}
Fits (ty.int name) (whole_constant n) = wrapped (kind_of name) n ≡ n
Fits ty.str (text_constant bytes) = Unit {0}
Fits _ c = ⊥

-- ---- gates

-- own: a field of package `sync` that is a pointer to `int`
abbrev pub IsGate : Option FieldTy → Type 0
IsGate None = ⊥
IsGate (Some f) = (f.package_ ≡ codes "sync") × (f.type_ ≡ ty.pointer int_type)

abbrev pub IsGateField : CoreProgram → Ty → ℕ → Type 0
IsGateField p t n = IsGate (field_in (underlying p.names t) n)

abbrev pub IsField : Option FieldTy → Type 0
IsField None = ⊥
IsField (Some f) = Unit {0}

-- ---- operators

abbrev pub IsUnary : Op → Type 0
IsUnary operator.Plus = Unit {0}
IsUnary operator.Neg = Unit {0}
IsUnary operator.Compl = Unit {0}
IsUnary _ = ⊥

abbrev pub IsArithmetic : Op → Type 0
IsArithmetic operator.Add = Unit {0}
IsArithmetic operator.Sub = Unit {0}
IsArithmetic operator.Mul = Unit {0}
IsArithmetic operator.Div = Unit {0}
IsArithmetic operator.Rem = Unit {0}
IsArithmetic operator.And = Unit {0}
IsArithmetic operator.Or = Unit {0}
IsArithmetic operator.Xor = Unit {0}
IsArithmetic operator.AndNot = Unit {0}
IsArithmetic _ = ⊥

abbrev pub IsShift : Op → Type 0
IsShift operator.Shl = Unit {0}
IsShift operator.Shr = Unit {0}
IsShift _ = ⊥

abbrev pub IsOrder : Op → Type 0
IsOrder operator.Lt = Unit {0}
IsOrder operator.Le = Unit {0}
IsOrder operator.Gt = Unit {0}
IsOrder operator.Ge = Unit {0}
IsOrder _ = ⊥

abbrev pub IsOrdered : Ty → Type 0
IsOrdered (ty.int name) = Unit {0}
IsOrdered ty.str = Unit {0}
IsOrdered _ = ⊥

-- ---- "Conversions"

abbrev pub IsByteOrRune : Ty → Type 0
IsByteOrRune (ty.int integer.Uint8) = Unit {0}
IsByteOrRune (ty.int integer.Int32) = Unit {0}
IsByteOrRune _ = ⊥

-- integers, strings and slices of bytes or runes, by their underlying types
abbrev pub Converts : CoreProgram → Ty → Ty → Type 0
Converts p (ty.int a) (ty.int b) = Unit {0}
Converts p (ty.int a) ty.str = Unit {0}
Converts p ty.str (ty.slice t) = IsByteOrRune (underlying p.names t)
Converts p (ty.slice t) ty.str = IsByteOrRune (underlying p.names t)
Converts p a b = ⊥

-- pointer types that no name stands for
abbrev pub ConvertsPointer : CoreProgram → Ty → Ty → Type 0
ConvertsPointer p (ty.pointer a) (ty.pointer b) = IsAlike (underlying p.names a) (underlying p.names b)
ConvertsPointer p a b = ⊥

-- no value is of the type of an untyped constant, of `nil` or of a call's several results
abbrev pub IsTyped : Ty → Type 0
IsTyped (ty.untyped basis) = ⊥
IsTyped ty.nil = ⊥
IsTyped (ty.tuple ts) = ⊥
IsTyped _ = Unit {0}

-- an interface value goes to an interface type whose methods its own type has
abbrev pub AsksNoMore : Ty → Ty → Type 0
AsksNoMore (ty.interface ms) (ty.interface more) = (name package_ : List ℕ) (s : Signature) → spec_in name package_ more ≡ Some s → spec_in name package_ ms ≡ Some s
AsksNoMore _ _ = Unit {0}

abbrev pub IsConversion : CoreProgram → Ty → Ty → Type 0
IsConversion p from to =
    IsAlike (underlying p.names from) (underlying p.names to)
    ⊎ Converts p (underlying p.names from) (underlying p.names to)
    ⊎ ConvertsPointer p from to
    ⊎ IsAssignable p.names from to × (IsInterface (underlying p.names from) ⊎ (IsInterface (underlying p.names to) → ⊥))
    × IsTyped (underlying p.names from) × AsksNoMore (underlying p.names from) (underlying p.names to)

-- what can be sliced, and what of
abbrev pub SlicesTo : CoreProgram → Ty → Ty → Ty → Type 0
SlicesTo p ty.str from to = from ≡ to
SlicesTo p (ty.slice t) from to = from ≡ to
SlicesTo p (ty.pointer a) from to = (n : ℕ) × (u : Ty) × (underlying p.names a ≡ ty.array n u) × (to ≡ ty.slice u)
SlicesTo p _ from to = ⊥

-- ---- "Method sets": what an interface value can be asked for

-- a method of the type has its row, whose function has its signature
pub record HasRow (p : CoreProgram) (t : Ty) (f : Sought) (params results : Tys) (variadic : Bool) : Type 0 where
  pub at : ℕ
  pub row : MethodRow
  pub function : CoreFunc
  pub found : row_of p (record { type_ = t; name = f.name; package_ = f.package_ }) ≡ Some at
  pub is_row : slice_get p.methods at ≡ Some row
  pub is_function : slice_get p.funcs row.func ≡ Some function
  pub params_fit : function.params ≡ params
  pub results_fit : function.results ≡ results
  pub variadic_fits : function.variadic ≡ variadic

-- each method of the type has its row, by its name as it is selected
abbrev pub HasRows : CoreProgram → Ty → Type 0
HasRows p t =
    (f : Sought) (params results : Tys) (variadic : Bool) → IsHeld f.name f.package_ → HasMethod p.names t f params results variadic → HasRow p t f params results variadic

-- each method of the interface has its row, whose function has its signature
abbrev pub Answers : CoreProgram → Ty → Specs → Type 0
Answers p t ms =
    (name package_ : List ℕ) (s : Signature) → spec_in name package_ ms ≡ Some s → HasRow p t (record { name = name; package_ = package_ }) s.params s.results s.variadic

-- a value of the type can be one of the interface type
abbrev pub AnswersTo : CoreProgram → Ty → Ty → Type 0
AnswersTo p t (ty.interface ms) = Answers p t ms
AnswersTo p t _ = ⊥

-- "Type assertions": a value of the interface type is asked for an interface, or for a type that has its methods
abbrev pub MayBe : CoreProgram → Ty → Ty → Type 0
MayBe p t (ty.interface ms) = IsInterface (underlying p.names t) ⊎ Answers p t ms
MayBe p t _ = ⊥

-- ---- callees

-- some row has the function, so its first operand is a receiver
abbrev pub IsRowOf : CoreProgram → ℕ → Type 0
IsRowOf p k = (row : MethodRow) × Contains p.methods row × (row.func ≡ k)

abbrev pub AreInScope : List ℕ → List Var → Type 0
AreInScope [] vars = Unit {0}
AreInScope (v ∷ vs) vars = ((t : Ty) × (var_type v vars ≡ Some t)) × AreInScope vs vars

-- the function may be called here with operands of these types, and gives these
abbrev pub CallsFunction : Option CoreFunc → List Var → List Ty → Tys → Type 0
CallsFunction None vars operands results = ⊥
CallsFunction (Some f) vars operands results =
    AreInScope f.captured vars × (operands ≡ listed_types f.params) × (results ≡ f.results)

-- by a row; the receiver comes first
pub record CallsMethod (p : CoreProgram) (n : MethodName) (operands : List Ty) (results : Tys) : Type 0 where
  pub at : ℕ
  pub row : MethodRow
  pub function : CoreFunc
  pub found : row_of p n ≡ Some at
  pub is_row : slice_get p.methods at ≡ Some row
  pub is_function : slice_get p.funcs row.func ≡ Some function
  pub operands_fit : operands ≡ n.type_ ∷ listed_types function.params
  pub results_fit : results ≡ function.results

abbrev pub CallsValue : Option Ty → List Ty → Tys → Type 0
CallsValue (Some (ty.func ps rs v)) operands results = (operands ≡ listed_types ps) × (results ≡ rs)
CallsValue _ operands results = ⊥

abbrev pub CallsDynamic : Option Signature → List Ty → Tys → Type 0
CallsDynamic None operands results = ⊥
CallsDynamic (Some s) operands results = (operands ≡ listed_types s.params) × (results ≡ s.results)

abbrev pub under_one : CoreProgram → Option Ty → Option Ty
under_one p None = None
under_one p (Some t) = Some (underlying p.names t)

abbrev pub method_at : List ℕ → List ℕ → Option Ty → Option Signature
method_at name package_ None = None
method_at name package_ (Some t) = method_in name package_ t

abbrev pub Calls : CoreProgram → List Var → Callee → List Ty → Tys → Type 0
Calls p vars (core.function f) operands results = CallsFunction (slice_get p.funcs f) vars operands results × (IsRowOf p f → ⊥)
Calls p vars (core.method n) operands results = CallsMethod p n operands results
Calls p vars (core.func_value e) operands results = CallsValue (under_one p (one_type (types_of p.names e))) operands results
Calls p vars (core.dynamic name package_ e) operands results = CallsDynamic (method_at name package_ (under_one p (one_type (types_of p.names e)))) operands results

-- a function as a value of a type
abbrev pub HasFuncType : Option CoreFunc → List Var → Ty → Type 0
HasFuncType None vars t = ⊥
HasFuncType (Some f) vars t = AreInScope f.captured vars × (t ≡ ty.func f.params f.results f.variadic)

abbrev pub IsSignature : Option Signature → Ty → Type 0
IsSignature None t = ⊥
IsSignature (Some s) t = t ≡ ty.func s.params s.results s.variadic

-- what is the method's signature, by its row
abbrev pub HasMethodType : CoreProgram → MethodName → Ty → Type 0
HasMethodType p n t = (f : CoreFunc) × CallsMethod p n (n.type_ ∷ listed_types f.params) f.results × (t ≡ ty.func f.params f.results f.variadic)

-- what can be appended to, or copied into, a slice with these elements
abbrev pub GoesInto : CoreProgram → Ty → Ty → Type 0
GoesInto p (ty.slice a) (ty.slice b) = a ≡ b
GoesInto p (ty.slice a) ty.str = (name : IntName) × (underlying p.names a ≡ ty.int name) × (kind_of name ≡ kinds.U8)
GoesInto p _ _ = ⊥

abbrev pub HasLength : CoreProgram → Ty → Type 0
HasLength p ty.str = Unit {0}
HasLength p (ty.slice t) = Unit {0}
HasLength p (ty.array n t) = Unit {0}
HasLength p (ty.mapping k v) = Unit {0}
HasLength p (ty.chan d t) = Unit {0}
HasLength p (ty.pointer t) = IsArray (underlying p.names t)
HasLength p _ = ⊥

abbrev pub HasCapacity : CoreProgram → Ty → Type 0
HasCapacity p (ty.slice t) = Unit {0}
HasCapacity p (ty.array n t) = Unit {0}
HasCapacity p (ty.chan d t) = Unit {0}
HasCapacity p (ty.pointer t) = IsArray (underlying p.names t)
HasCapacity p _ = ⊥

-- the type of an element of what is built at an index, which is below the count of a slice
abbrev pub BuildsPart : CoreProgram → Ty → Ty → ℕ → ℕ → Option Ty → Type 0
BuildsPart p t (ty.slice u) count i (Some v) = (i < count) × (u ≡ v)
BuildsPart p t (ty.array n u) count i (Some v) = (i < n) × (u ≡ v)
BuildsPart p t (ty.struct fs) count i (Some v) =
    (f : FieldTy) × (field_in (ty.struct fs) i ≡ Some f) × (f.type_ ≡ v) × (IsGateField p t i → ⊥)
BuildsPart p t _ count i v = ⊥

abbrev pub IsBuilt : Ty → Type 0
IsBuilt (ty.slice t) = Unit {0}
IsBuilt (ty.array n t) = Unit {0}
IsBuilt (ty.struct fs) = Unit {0}
IsBuilt _ = ⊥

abbrev pub types_of_vars : List Var → List Ty
types_of_vars [] = []
types_of_vars (v ∷ vs) = v.type_ ∷ types_of_vars vs

abbrev pub AreDeclarable : List Var → List Var → Type 0
AreDeclarable [] declarable = Unit {0}
AreDeclarable (v ∷ vs) declarable = Contains declarable v × AreDeclarable vs declarable
