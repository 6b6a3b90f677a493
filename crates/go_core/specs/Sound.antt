-- Go specification (as of Go 1.17), "Expressions", "Statements", "Declarations and scope", "Packages": the core
-- programs that have a meaning.
use Rattle.std.specs.Prelude.{◌≡◌, ◌⊎◌, ℕ, zero, suc, List, [], ◌∷◌, Option, Some, None, Contains, slice_get, IsTrue, length}
use Rattle.gj_base.specs.declared.kind.Op.{Op}
use Rattle.go_type.specs.Tree as ty
use Rattle.go_type.specs.declared.types.IntName.TheVariants as integer
use Rattle.go_type.specs.Tree.{Ty, Tys, no_tys, more_tys, no_specs}
use Rattle.go_type.specs.Underlying.{underlying}
use Rattle.go_core.specs.Layout.{is_comparable}
use Rattle.go_core.specs.CoreTree as core
use Rattle.go_core.specs.CoreTree.{Constant, Expr, Exprs, no_exprs, expr, CorePlace, Bound, no_bound, bound, Elements, no_elements, element, Pairs, no_pairs, pair, Callee, Target, BranchKind, break_, continue_, Communication, Stmt, Stmts, no_stmts, stmt, Tests, no_tests, test, Clauses, no_clauses, clause, Cases, no_cases, case, Var, MethodName, MethodRow, CoreFunc, PackageVar, PackageRow, CoreProgram}
use Rattle.go_core.specs.TypeOf.{listed_types, types_of, all_types, var_type, place_type, one_type, field_in, int_type}
use Rattle.go_core.specs.SoundNode.{Around, with_var, with_all, with_break, with_loop, IsInt, IsBool, IsText, IsPrintable, IsInterface, IsSlice, IsArray, IsMap, IsChannel, IsGoodType, Fits, IsGateField, IsField, IsUnary, IsArithmetic, IsShift, IsOrder, IsOrdered, IsConversion, SlicesTo, HasRows, AnswersTo, MayBe, IsRowOf, Calls, HasFuncType, IsSignature, HasMethodType, GoesInto, HasLength, HasCapacity, BuildsPart, IsBuilt, types_of_vars, AreDeclarable, method_at, under_one}

-- the empty interface
abbrev pub empty_interface : Ty
empty_interface = ty.interface no_specs

-- an expression gives exactly one value, of this type
abbrev pub Gives : CoreProgram → Expr → Ty → Type 0
Gives p e t = types_of p.names e ≡ t ∷ []

-- one value whose underlying type is so
abbrev pub GivesSome : CoreProgram → Expr → (Ty → Type 0) → Type 0
GivesSome p e Is = (t : Ty) × Gives p e t × Is (underlying p.names t)

-- the shift's operand has the shift's type, and the count is any integer
abbrev pub BinaryFits : CoreProgram → Op → Ty → Expr → Expr → Type 0
BinaryFits p op t a b = (IsArithmetic op × Gives p a t × Gives p b t) ⊎ (IsShift op × Gives p a t × GivesSome p b IsInt)

-- what lies at a place is of this type
abbrev pub LiesAt : CoreProgram → List Var → CorePlace → Ty → Type 0
LiesAt p vars place t = place_type p vars place ≡ Some t

-- a slice, a map and a function are compared with nil alone
abbrev pub IsZero : Expr → Type 0
IsZero (core.zero_value t) = Unit {0}
IsZero _ = ⊥

abbrev pub MayCompare : CoreProgram → Ty → Expr → Expr → Type 0
MayCompare p t l r = IsTrue (is_comparable p.names t) ⊎ IsZero l ⊎ IsZero r

abbrev pub IsMapOf : Ty → Ty → Ty → Type 0
IsMapOf (ty.mapping k v) key value = (k ≡ key) × (v ≡ value)
IsMapOf _ key value = ⊥

abbrev pub HasKeyType : Ty → Ty → Type 0
HasKeyType (ty.mapping k v) key = k ≡ key
HasKeyType _ key = ⊥

abbrev pub IsChannelOf : Ty → Ty → Type 0
IsChannelOf (ty.chan d t) u = t ≡ u
IsChannelOf _ u = ⊥

abbrev mutual
  -- one line for each kind: its parts are sound, and have the types that it takes
  pub SoundExpr : CoreProgram → Around → Expr → Type 0
  SoundExpr p a (core.constant t c) = Fits (underlying p.names t) c
  SoundExpr p a (core.zero_value t) = IsGoodType p t
  SoundExpr p a (core.read t place) = SoundPlace p a place × LiesAt p a.vars place t
  SoundExpr p a (core.address t place) = SoundPlace p a place × (u : Ty) × LiesAt p a.vars place u × (t ≡ ty.pointer u)
  SoundExpr p a (core.unary op t e) = SoundExpr p a e × IsUnary op × Gives p e t × IsInt (underlying p.names t)
  SoundExpr p a (core.binary op t l r) = SoundExpr p a l × SoundExpr p a r × IsInt (underlying p.names t) × BinaryFits p op t l r
  SoundExpr p a (core.concat t l r) = SoundExpr p a l × SoundExpr p a r × Gives p l t × Gives p r t × IsText (underlying p.names t)
  SoundExpr p a (core.equal negated t u l r) = SoundExpr p a l × SoundExpr p a r × Gives p l t × Gives p r t × MayCompare p t l r × IsBool (underlying p.names u)
  SoundExpr p a (core.less op t u l r) = SoundExpr p a l × SoundExpr p a r × IsOrder op × Gives p l t × Gives p r t × IsOrdered (underlying p.names t) × IsBool (underlying p.names u)
  SoundExpr p a (core.and_then t l r) = SoundExpr p a l × SoundExpr p a r × Gives p l t × Gives p r t × IsBool (underlying p.names t)
  SoundExpr p a (core.or_else t l r) = SoundExpr p a l × SoundExpr p a r × Gives p l t × Gives p r t × IsBool (underlying p.names t)
  SoundExpr p a (core.not_ t e) = SoundExpr p a e × Gives p e t × IsBool (underlying p.names t)
  SoundExpr p a (core.convert from t e) = SoundExpr p a e × Gives p e from × IsGoodType p t × IsConversion p from t
  SoundExpr p a (core.byte_at e i) = SoundExpr p a e × SoundExpr p a i × GivesSome p e IsText × GivesSome p i IsInt
  SoundExpr p a (core.slice_of from t e low high limit) =
      SoundExpr p a e × SoundBound p a low × SoundBound p a high × SoundBound p a limit × Gives p e from × SlicesTo p (underlying p.names from) from t
  SoundExpr p a (core.build t count es) = SoundElements p a t count es × IsGoodType p t × IsBuilt (underlying p.names t)
  SoundExpr p a (core.build_map t ps) = SoundPairs p a t ps × IsGoodType p t × IsMap (underlying p.names t)
  SoundExpr p a (core.closure t f) = HasFuncType (slice_get p.funcs f) a.vars t × (IsRowOf p f → ⊥)
  SoundExpr p a (core.bind t n e) = SoundExpr p a e × Gives p e n.type_ × HasMethodType p n t
  SoundExpr p a (core.bind_dynamic t name package_ e) =
      SoundExpr p a e × IsSignature (method_at name package_ (under_one p (one_type (types_of p.names e)))) t
  SoundExpr p a (core.call results callee es) = SoundCallee p a callee × SoundExprs p a es × Calls p a.vars callee (all_types p.names es) results
  SoundExpr p a (core.map_get t ok e key) = SoundExpr p a e × SoundExpr p a key × Gives p e t × (k : Ty) × Gives p key k × HasKeyType (underlying p.names t) k
  SoundExpr p a (core.len from e) = SoundExpr p a e × Gives p e from × HasLength p (underlying p.names from)
  SoundExpr p a (core.cap from e) = SoundExpr p a e × Gives p e from × HasCapacity p (underlying p.names from)
  SoundExpr p a (core.append t from e es) = SoundExpr p a e × SoundExpr p a es × Gives p e t × Gives p es from × GoesInto p (underlying p.names t) (underlying p.names from)
  SoundExpr p a (core.copy_elems t from e es) = SoundExpr p a e × SoundExpr p a es × Gives p e t × Gives p es from × GoesInto p (underlying p.names t) (underlying p.names from)
  SoundExpr p a (core.make_slice t n capacity) = SoundExpr p a n × SoundBound p a capacity × GivesSome p n IsInt × IsGoodType p t × IsSlice (underlying p.names t)
  SoundExpr p a (core.make_map t count) = SoundBound p a count × IsGoodType p t × IsMap (underlying p.names t)
  SoundExpr p a (core.make_chan t capacity) = SoundBound p a capacity × IsGoodType p t × IsChannel (underlying p.names t)
  SoundExpr p a (core.new_ t) = IsGoodType p t
  SoundExpr p a (core.wrap from t e) =
      SoundExpr p a e × Gives p e from × AnswersTo p from (underlying p.names t) × (IsInterface (underlying p.names from) → ⊥) × HasRows p from
  SoundExpr p a (core.assert_ t ok e) = SoundExpr p a e × GivesSome p e (MayBe p t) × IsGoodType p t
  SoundExpr p a (core.basic t e) = SoundExpr p a e × Gives p e t × (underlying p.names t ≡ empty_interface)
  SoundExpr p a (core.receive t ok e) = SoundExpr p a e × Gives p e t × IsChannel (underlying p.names t)
  SoundExpr p a (core.recover_ t) = underlying p.names t ≡ empty_interface
  -- it stands only as the cell of a gate's operation
  SoundExpr p a (core.gate_make e) = ⊥
  SoundExpr p a (core.gate_add cell n) = SoundGate p a cell × SoundExpr p a n × Gives p n int_type
  SoundExpr p a (core.let_in vars es body) =
      SoundExprs p a es × AreDeclarable vars a.declarable × (all_types p.names es ≡ types_of_vars vars) × SoundExpr p (with_all vars a) body

  -- the Address of a gate field, and no other cell
  pub SoundGate : CoreProgram → Around → Expr → Type 0
  SoundGate p a (core.gate_make (core.address t (core.field st n place))) = SoundPlace p a place × LiesAt p a.vars place st × IsGateField p st n
  SoundGate p a e = ⊥

  -- nothing else names a gate field
  pub SoundPlace : CoreProgram → Around → CorePlace → Type 0
  SoundPlace p a (core.local_ v) = (t : Ty) × LiesAt p a.vars (core.local_ v) t
  SoundPlace p a (core.global n) = (t : Ty) × LiesAt p a.vars (core.global n) t
  SoundPlace p a (core.deref e) = SoundExpr p a e × (t : Ty) × LiesAt p a.vars (core.deref e) t
  SoundPlace p a (core.field t n place) =
      SoundPlace p a place × LiesAt p a.vars place t × IsField (field_in (underlying p.names t) n) × (IsGateField p t n → ⊥)
  SoundPlace p a (core.elem t place i) = SoundPlace p a place × SoundExpr p a i × LiesAt p a.vars place t × IsArray (underlying p.names t) × GivesSome p i IsInt
  SoundPlace p a (core.slice_elem t e i) = SoundExpr p a e × SoundExpr p a i × Gives p e t × IsSlice (underlying p.names t) × GivesSome p i IsInt

  pub SoundExprs : CoreProgram → Around → Exprs → Type 0
  SoundExprs p a no_exprs = Unit {0}
  SoundExprs p a (expr e es) = SoundExpr p a e × SoundExprs p a es

  -- a size or a bound is an integer
  pub SoundBound : CoreProgram → Around → Bound → Type 0
  SoundBound p a no_bound = Unit {0}
  SoundBound p a (bound e) = SoundExpr p a e × GivesSome p e IsInt

  pub SoundElements : CoreProgram → Around → Ty → ℕ → Elements → Type 0
  SoundElements p a t count no_elements = Unit {0}
  SoundElements p a t count (element i e es) =
      SoundExpr p a e × BuildsPart p t (underlying p.names t) count i (one_type (types_of p.names e)) × SoundElements p a t count es

  pub SoundPairs : CoreProgram → Around → Ty → Pairs → Type 0
  SoundPairs p a t no_pairs = Unit {0}
  SoundPairs p a t (pair key e ps) =
      SoundExpr p a key × SoundExpr p a e × ((k : Ty) × (v : Ty) × Gives p key k × Gives p e v × IsMapOf (underlying p.names t) k v) × SoundPairs p a t ps

  pub SoundCallee : CoreProgram → Around → Callee → Type 0
  SoundCallee p a (core.function f) = Unit {0}
  SoundCallee p a (core.method n) = Unit {0}
  SoundCallee p a (core.func_value e) = SoundExpr p a e
  SoundCallee p a (core.dynamic name package_ e) = SoundExpr p a e

-- ---- statements

-- a left side takes a value of a type
abbrev pub SoundTarget : CoreProgram → Around → Target → Ty → Type 0
SoundTarget p a core.blank t = Unit {0}
SoundTarget p a (core.to_place u place) t = SoundPlace p a place × LiesAt p a.vars place u × (u ≡ t)
SoundTarget p a (core.to_entry m e key) t =
    SoundExpr p a e × SoundExpr p a key × Gives p e m × (k : Ty) × Gives p key k × IsMapOf (underlying p.names m) k t

-- as many left sides as values
abbrev pub SoundTargets : CoreProgram → Around → List Target → List Ty → Type 0
SoundTargets p a [] [] = Unit {0}
SoundTargets p a (x ∷ xs) (t ∷ ts) = SoundTarget p a x t × SoundTargets p a xs ts
SoundTargets p a _ _ = ⊥

-- what a range over an array, a slice or a string gives as its value
abbrev pub RangesElement : Ty → Ty → Type 0
RangesElement (ty.array n u) v = v ≡ u
RangesElement _ v = ⊥

abbrev pub RangesValue : CoreProgram → Ty → Ty → Type 0
RangesValue p (ty.array n u) v = v ≡ u
RangesValue p (ty.slice u) v = v ≡ u
RangesValue p (ty.pointer u) v = RangesElement (underlying p.names u) v
RangesValue p (ty.mapping k u) v = v ≡ u
RangesValue p ty.str v = v ≡ ty.int integer.Int32
RangesValue p _ v = ⊥

abbrev pub RangesKey : Ty → Ty → Type 0
RangesKey (ty.mapping k u) v = v ≡ k
RangesKey _ v = v ≡ int_type

abbrev pub IfThere : Option Var → (Ty → Type 0) → Type 0
IfThere None Is = Unit {0}
IfThere (Some v) Is = Is v.type_

abbrev pub IsRanged : CoreProgram → Ty → Type 0
IsRanged p (ty.int name) = Unit {0}
IsRanged p (ty.array n t) = Unit {0}
IsRanged p (ty.slice t) = Unit {0}
IsRanged p (ty.pointer t) = IsArray (underlying p.names t)
IsRanged p ty.str = Unit {0}
IsRanged p (ty.mapping k v) = Unit {0}
IsRanged p _ = ⊥

-- without a value only the length of the array of a pointer is asked for, which is a range over a number
abbrev pub ReadsArray : Ty → Option Var → Type 0
ReadsArray (ty.pointer t) None = ⊥
ReadsArray _ value = Unit {0}

abbrev pub InScope : List Var → Option Var → Type 0
InScope vars None = Unit {0}
InScope vars (Some v) = var_type v.id vars ≡ Some v.type_

-- the variables of a clause that receives: the value, and whether it was sent
abbrev pub ReceivesInto : Ty → List Var → Type 0
ReceivesInto t [] = Unit {0}
ReceivesInto t (v ∷ []) = v.type_ ≡ t
ReceivesInto t (v ∷ w ∷ []) = (v.type_ ≡ t) × (w.type_ ≡ ty.bool)
ReceivesInto t _ = ⊥

abbrev pub SoundCommunication : CoreProgram → Around → Communication → Type 0
SoundCommunication p a (core.sends t e v) = SoundExpr p a e × SoundExpr p a v × Gives p e t × (u : Ty) × Gives p v u × IsChannelOf (underlying p.names t) u
SoundCommunication p a (core.receives t e vars) =
    SoundExpr p a e × Gives p e t × AreDeclarable vars a.declarable × (u : Ty) × IsChannelOf (underlying p.names t) u × ReceivesInto u vars

abbrev pub vars_of : Communication → List Var
vars_of (core.sends t e v) = []
vars_of (core.receives t e vars) = vars

abbrev pub labels_for : BranchKind → Around → List ℕ
labels_for break_ a = a.breaks
labels_for continue_ a = a.continues

-- own: a label isn't used again inside its statement
abbrev pub IsNew : ℕ → Around → Type 0
IsNew label a = Contains a.breaks label → ⊥

abbrev pub HasClause : Clauses → ℕ → Type 0
HasClause no_clauses n = ⊥
HasClause (clause body falls cs) zero = Unit {0}
HasClause (clause body falls cs) (suc n) = HasClause cs n

abbrev pub HasDefault : Clauses → Option ℕ → Type 0
HasDefault cs None = Unit {0}
HasDefault cs (Some n) = HasClause cs n

-- the variable that a statement declares is in scope after it
abbrev pub after_stmt : Stmt → Around → Around
after_stmt (core.declare v) a = with_var v a
after_stmt s a = a

abbrev pub SoundTests : CoreProgram → Around → Tests → Clauses → Type 0
SoundTests p a no_tests cs = Unit {0}
SoundTests p a (test e n ts) cs = SoundExpr p a e × GivesSome p e IsBool × HasClause cs n × SoundTests p a ts cs

abbrev pub ArePrintable : CoreProgram → List Ty → Type 0
ArePrintable p [] = Unit {0}
ArePrintable p (t ∷ ts) = IsPrintable (underlying p.names t) × ArePrintable p ts

abbrev pub SoundCondition : CoreProgram → Around → Bound → Type 0
SoundCondition p a no_bound = Unit {0}
SoundCondition p a (bound e) = SoundExpr p a e × GivesSome p e IsBool

-- what is returned: nothing where the results have names, else one value for each
abbrev pub Returns : Tys → List Ty → Type 0
Returns results [] = Unit {0}
Returns results (t ∷ ts) = listed_types results ≡ t ∷ ts

abbrev mutual
  pub SoundStmt : CoreProgram → Around → Stmt → Type 0
  SoundStmt p a (core.sequence ss) = SoundStmts p a ss
  SoundStmt p a (core.perform e n) = SoundExpr p a e × (length (types_of p.names e) ≡ n)
  SoundStmt p a (core.declare v) = Contains a.declarable v × IsGoodType p v.type_
  SoundStmt p a (core.store ts es) = SoundExprs p a es × SoundTargets p a ts (all_types p.names es)
  SoundStmt p a (core.map_delete t e key) = SoundExpr p a e × SoundExpr p a key × Gives p e t × (k : Ty) × Gives p key k × HasKeyType (underlying p.names t) k
  SoundStmt p a (core.if_ e ss us) = SoundExpr p a e × GivesSome p e IsBool × SoundStmts p a ss × SoundStmts p a us
  SoundStmt p a (core.loop label c body post) = IsNew label a × SoundCondition p a c × SoundStmts p (with_loop label a) body × SoundStmts p a post
  SoundStmt p a (core.switch_on label ts clauses d) = IsNew label a × SoundTests p a ts clauses × SoundClauses p (with_break label a) clauses × HasDefault clauses d
  SoundStmt p a (core.range_over label from e key value body) =
      IsNew label a × SoundExpr p a e × Gives p e from × IsRanged p (underlying p.names from) × InScope a.vars key × InScope a.vars value
      × IfThere key (RangesKey (underlying p.names from)) × IfThere value (RangesValue p (underlying p.names from)) × SoundStmts p (with_loop label a) body
      × ReadsArray (underlying p.names from) value
  SoundStmt p a (core.labeled label body) = IsNew label a × SoundStmts p (with_break label a) body
  SoundStmt p a (core.branch kind label) = Contains (labels_for kind a) label
  SoundStmt p a (core.send t e v) = SoundExpr p a e × SoundExpr p a v × Gives p e t × (u : Ty) × Gives p v u × IsChannelOf (underlying p.names t) u
  SoundStmt p a (core.close_ e) = SoundExpr p a e × GivesSome p e IsChannel
  SoundStmt p a (core.select_step label cases has_default body) = IsNew label a × SoundCases p (with_break label a) cases × SoundStmts p (with_break label a) body
  SoundStmt p a (core.gate_take cell) = SoundGate p a cell
  SoundStmt p a (core.gate_await cell) = SoundGate p a cell
  SoundStmt p a core.yield_ = Unit {0}
  SoundStmt p a (core.go_call callee es) = SoundCallee p a callee × SoundExprs p a es × (results : Tys) × Calls p a.vars callee (all_types p.names es) results
  SoundStmt p a (core.defer_call callee es) = SoundCallee p a callee × SoundExprs p a es × (results : Tys) × Calls p a.vars callee (all_types p.names es) results
  SoundStmt p a (core.return_ es) = SoundExprs p a es × Returns a.results (all_types p.names es)
  SoundStmt p a (core.panic_ e) = SoundExpr p a e × GivesSome p e IsInterface
  SoundStmt p a (core.print es ends_line) = SoundExprs p a es × ArePrintable p (all_types p.names es)
  SoundStmt p a (core.exit_ e) = SoundExpr p a e × GivesSome p e IsInt
  SoundStmt p a (core.fatal_ e) = SoundExpr p a e × GivesSome p e IsText

  pub SoundStmts : CoreProgram → Around → Stmts → Type 0
  SoundStmts p a no_stmts = Unit {0}
  SoundStmts p a (stmt s ss) = SoundStmt p a s × SoundStmts p (after_stmt s a) ss

  pub SoundClauses : CoreProgram → Around → Clauses → Type 0
  SoundClauses p a no_clauses = Unit {0}
  SoundClauses p a (clause body falls cs) = SoundStmts p a body × SoundClauses p a cs

  pub SoundCases : CoreProgram → Around → Cases → Type 0
  SoundCases p a no_cases = Unit {0}
  SoundCases p a (case c body cs) = SoundCommunication p a c × SoundStmts p (with_all (vars_of c) a) body × SoundCases p a cs
