-- What a parser waits for in the middle of a file: frames, the top one first.
--
-- The top frame stands at the next token. A frame below waits for the tree that the frame above it
-- makes. A list of expressions, fields and so on stands in a frame as the list of those so far.
use Rattle.std.specs.Prelude.{ℕ, Bool, true, false, List, Option}
use Rattle.gj_base.specs.declared.place.Place.{Place}
use Rattle.gj_base.specs.declared.kind.Op.{Op}
use Rattle.go_syntax.specs.Tree as t
use Rattle.go_syntax.specs.declared.tree.Name.{Name}
use Rattle.go_syntax.specs.declared.tree.Prefix.{Prefix}
use Rattle.go_grammar.specs.Limits.{one_deeper}

-- what is open round an expression or a type: how much that counts, how many blocks; whether it
-- stands in a header outside all brackets, and whether `.(type)` may end it
pub record Ctx : Type 0 where
  pub depth : ℕ
  pub blocks : ℕ
  pub header : Bool
  pub guard : Bool

abbrev pub new_ctx : ℕ → Ctx
new_ctx b = record { depth = 0; blocks = b; header = false; guard = false }

abbrev pub header_ctx : ℕ → Ctx
header_ctx b = record { depth = 0; blocks = b; header = true; guard = false }

-- after a prefix
abbrev pub deeper : Ctx → Ctx
deeper c = record c { depth = one_deeper c.depth }

-- in brackets
abbrev pub inside : Ctx → Ctx
inside c = record { depth = one_deeper c.depth; blocks = c.blocks; header = false; guard = false }

-- what a simple statement stands in: a list after so many labels; a header or a `case` of a `select`;
-- the header of a `for` at its start; that of a `switch` at its start, or after its `;`
pub data Mode : Type 0 where
  Listed : ℕ → Mode
  Headed : Mode
  InFor : Mode
  InSwitch : Mode
  InTag : Mode

-- where a simple statement stands, and its first token's place
pub record Spot : Type 0 where
  pub ctx : Ctx
  pub mode : Mode
  pub place : Place

-- a tree that is done
pub data Value : Type 0 where
  AnExpr : t.Expr → Value
  -- an operand of a chain of so many operators so far
  AChain : ℕ → t.Expr → Value
  -- `x := e.(type`, the `)` still to come
  AGuard : Option Name → t.Expr → Value
  -- `x, y = range` or `x, y := range`
  ARanging : List t.Expr → Bool → Value
  ASig : t.Sig → Value
  ABlock : t.Block → Value
  AStmt : t.Stmt → Value
  ADecl : t.Decl → Value

pub data ExprFrame : Type 0 where
  -- want: Unary
  Operand : Ctx → ExprFrame
  -- an operand with so many parts; want: a part, or what comes after
  Tail : Ctx → ℕ → t.Expr → ExprFrame
  -- `-`; wait: Unary
  Before : Place → Prefix → ExprFrame
  -- wait: the first operand of a chain
  Chain : Ctx → ExprFrame
  -- `x +`, the operator being the so manieth; wait: the right operand
  Left : Ctx → ℕ → t.Expr → Op → ExprFrame
  -- `(`; wait: Expr
  InParens : Ctx → Place → ExprFrame
  -- wait: the type that is an operand
  TypeOperand : Ctx → ExprFrame
  -- `func`; wait: Sig
  AtFunc : Ctx → Place → ExprFrame
  -- `func` Sig; wait: Block
  AtBody : Ctx → Place → t.Sig → ExprFrame

-- the operand of a part, with what is open round it and how many parts it has
pub record Base : Type 0 where
  pub ctx : Ctx
  pub count : ℕ
  pub expr : t.Expr

-- the `{` of a literal, with its type where it has one
pub record Braces : Type 0 where
  pub ctx : Ctx
  pub count : ℕ
  pub place : Place
  pub ty : Option t.Expr

-- elements so far: each puts itself before the rest
abbrev pub Elems : Type 0
Elems = List (t.Elems → t.Elems)

pub data PartFrame : Type 0 where
  -- `x.`; want: name or `(`
  Dot : Base → PartFrame
  -- `x.(`; want: Type or `type`
  AssertOpen : Base → PartFrame
  -- `x.(`; wait: Type
  Asserted : Base → PartFrame
  -- `x[`; want: Expr or `:`
  Bracket : Base → PartFrame
  -- `x[`; wait: Expr
  Index : Base → PartFrame
  -- `x[i:`; want: Expr or `]`
  High : Base → Option t.Expr → PartFrame
  -- `x[i:`; wait: Expr
  HighExpr : Base → Option t.Expr → PartFrame
  -- `x[i:j:`; wait: Expr
  Most : Base → Option t.Expr → t.Expr → PartFrame
  -- `f(x,`; want: Expr or `)`
  Args : Base → List t.Expr → PartFrame
  -- `f(x,`; wait: Expr
  Arg : Base → List t.Expr → PartFrame
  -- `f(x...`, and whether `,` is past; want: `,` or `)`
  Spread : Base → List t.Expr → Bool → PartFrame
  -- `T{x,`; want: Value or `}`
  InBraces : Braces → Elems → PartFrame
  -- `T{x,` and a key; wait: Value
  Element : Braces → Elems → Option t.Expr → PartFrame
  -- `T{x, k:`; want: Value
  Keyed : Braces → Elems → t.Expr → PartFrame

pub data TypeFrame : Type 0 where
  -- want: Type
  AType : Ctx → TypeFrame
  -- `T`; want: `.`, or what comes after
  TypeName : t.Expr → TypeFrame
  -- `p.`; want: name
  TypeDot : t.Expr → TypeFrame
  -- `(`; wait: Type
  TypeParens : Place → TypeFrame
  -- `*`; wait: Type
  Star : Place → TypeFrame
  -- `[`; want: `]`, `...` or Expr
  TypeBracket : Ctx → Place → TypeFrame
  -- `[...`; want: `]`
  Dots : Ctx → Place → TypeFrame
  -- `[`; wait: Expr
  Len : Ctx → Place → TypeFrame
  -- `[]`; wait: Type
  SliceOf : Place → TypeFrame
  -- `[n]` or `[...]`; wait: Type
  ArrayOf : Place → Option t.Expr → TypeFrame
  -- `map`; want: `[`
  MapOpen : Ctx → Place → TypeFrame
  -- `map[`; wait: Type
  Key : Ctx → Place → TypeFrame
  -- `map[K]`; wait: Type
  MapOf : Place → t.Expr → TypeFrame
  -- `chan`; want: `<-` or Type
  ChanOpen : Ctx → Place → TypeFrame
  -- `chan`; wait: Type
  BothOf : Place → TypeFrame
  -- `chan<-`; wait: Type
  SendOf : Place → TypeFrame
  -- `<-`; want: `chan`
  Arrow : Ctx → Place → TypeFrame
  -- `<-chan`; wait: Type
  ReceiveOf : Place → TypeFrame
  -- `func`; wait: Sig
  FuncOf : Place → TypeFrame
  -- `struct`; want: `{`
  StructOpen : Ctx → Place → TypeFrame
  -- `interface`; want: `{`
  InterfaceOpen : Ctx → Place → TypeFrame

-- `struct {` and fields
pub record StructPart : Type 0 where
  pub ctx : Ctx
  pub place : Place
  pub fields : List (t.Fields → t.Fields)

-- `interface {` and members
pub record InterfacePart : Type 0 where
  pub ctx : Ctx
  pub place : Place
  pub members : List (t.Members → t.Members)

-- an embedded field: its first token's place, whether there is a `*`, and its type so far
pub record Embedded : Type 0 where
  pub place : Place
  pub star : Bool
  pub ty : t.Expr

pub data FieldFrame : Type 0 where
  -- want: Field or `}`
  InStruct : StructPart → FieldFrame
  -- `x`; want: what makes it a field's name, or a type
  FieldName : StructPart → Name → FieldFrame
  -- `x,`; want: name
  NextField : StructPart → List Name → FieldFrame
  -- `x, y`; want: `,` or Type
  FieldNames : StructPart → List Name → FieldFrame
  -- `x, y`; wait: Type
  Named : StructPart → List Name → FieldFrame
  -- `*`; want: name
  FieldStar : StructPart → Place → FieldFrame
  -- `*T`; want: `.`, a tag, or the field's end
  EmbeddedName : StructPart → Embedded → FieldFrame
  -- `p.`; want: name
  FieldDot : StructPart → Embedded → FieldFrame
  -- `p.T`; want: a tag, or the field's end
  EmbeddedEnd : StructPart → Embedded → FieldFrame
  -- want: the field's end
  FieldEnd : StructPart → FieldFrame
  -- want: a member or `}`
  InInterface : InterfacePart → FieldFrame
  -- `m`; want: `(`, `.` or the member's end
  MemberName : InterfacePart → Name → FieldFrame
  -- `p.`; want: name
  MemberDot : InterfacePart → t.Expr → FieldFrame
  -- want: the member's end
  MemberEnd : InterfacePart → FieldFrame
  -- `m`; wait: Sig
  Method : InterfacePart → Name → FieldFrame

abbrev pub Params : Type 0
Params = List (t.Params → t.Params)

-- what a parameter list is: the parameters of a signature, its results after these parameters, or the
-- receiver of the function whose `func` stands there
pub data Role : Type 0 where
  OfParams : Role
  OfResults : Place → Params → Role
  OfReceiver : Place → Role

-- `(` and parameters
pub record ParamsPart : Type 0 where
  pub ctx : Ctx
  pub place : Place
  pub items : Params
  pub role : Role

pub data SigFrame : Type 0 where
  -- want: `(`
  SigOpen : Ctx → SigFrame
  -- want: Param or `)`
  InParams : ParamsPart → SigFrame
  -- `x`; want: what makes it a parameter's name or a type
  ParamName : ParamsPart → Name → SigFrame
  -- place, name, whether there is a `...`; wait: Type
  Param : ParamsPart → Place → Option Name → Bool → SigFrame
  -- Params; want: Params, Type, or what comes after
  AfterParams : Ctx → Place → Params → SigFrame
  -- Params; wait: Type
  Result : Place → Params → SigFrame

pub data StmtFrame : Type 0 where
  -- `{` and statements; want: Stmt, `;` or `}`; wait: Stmt
  InBlock : ℕ → Place → List t.Stmt → StmtFrame
  -- wait: Decl
  Declared : StmtFrame
  -- wait: Block
  Inner : StmtFrame
  -- `go`; wait: Expr
  AtGo : Place → StmtFrame
  -- `defer`; wait: Expr
  AtDefer : Place → StmtFrame
  -- `return`; want: Expr, or what comes after
  AtReturn : ℕ → Place → StmtFrame
  -- `return x,`; wait: Expr
  Returned : ℕ → Place → List t.Expr → StmtFrame
  -- `break`, and where the last part is false `continue`; want: name, or what comes after
  AtBreak : Place → Bool → StmtFrame
  -- `x:` and how many labels; want: Stmt, or what comes after
  AfterLabel : ℕ → ℕ → StmtFrame
  -- `x:`; wait: Stmt
  Labeled : Name → StmtFrame
  -- `x,`; wait: Expr
  Simple : Spot → List t.Expr → StmtFrame
  -- `x, y =` or, where the last part is true, `x, y :=`; want: Expr or `range`
  Right : Spot → List t.Expr → Bool → StmtFrame
  -- `x, y = z,` or `x += z,`; wait: Expr
  Assigned : Spot → List t.Expr → Option Op → List t.Expr → StmtFrame
  -- `x, y := z,`; wait: Expr
  Defined : Spot → List t.Expr → List t.Expr → StmtFrame
  -- `x <-`; wait: Expr
  Sent : Place → List t.Expr → StmtFrame

-- `if`: blocks open round it, its place, how many `else` are before it, the statement before its condition
pub record IfPart : Type 0 where
  pub blocks : ℕ
  pub place : Place
  pub elses : ℕ
  pub init : t.MaybeStmt

-- `for`: blocks open round it, its place
pub record ForPart : Type 0 where
  pub blocks : ℕ
  pub place : Place

pub data ControlFrame : Type 0 where
  -- `if`; want: Simple or `;`; wait: Stmt
  AtIf : IfPart → ControlFrame
  -- `if x;`; want: Expr; wait: Expr
  Condition : IfPart → ControlFrame
  -- wait: Block
  Then : IfPart → t.Expr → ControlFrame
  -- `else`; want: `if` or `{`
  AtElse : IfPart → t.Expr → t.Block → ControlFrame
  -- wait: Stmt or Block
  Other : IfPart → t.Expr → t.Block → ControlFrame
  -- `for`; want: all that may follow; wait: Stmt or Ranging
  AtFor : ForPart → ControlFrame
  -- `for x;`; want: Expr or `;`; wait: Expr
  ForCondition : ForPart → t.MaybeStmt → ControlFrame
  -- `for x; y;`; want: Simple or `{`; wait: Stmt
  Post : ForPart → t.MaybeStmt → t.MaybeExpr → ControlFrame
  -- wait: Block
  ForBody : ForPart → t.MaybeStmt → t.MaybeExpr → t.MaybeStmt → ControlFrame
  -- `for x = range`; wait: Expr
  AtRange : ForPart → List t.Expr → Bool → ControlFrame
  -- wait: Block
  RangeBody : ForPart → List t.Expr → Bool → t.Expr → ControlFrame

-- what a `switch` is on
pub data Subject : Type 0 where
  OnTag : t.MaybeExpr → Subject
  OnGuard : Option Name → t.Expr → Subject

-- `switch` with its `{` and clauses: blocks open in it, its place, the statement before, what it is on
pub record SwitchPart : Type 0 where
  pub blocks : ℕ
  pub place : Place
  pub init : t.MaybeStmt
  pub subject : Subject
  pub clauses : List (t.Clauses → t.Clauses)

-- `select {` and its clauses
pub record SelectPart : Type 0 where
  pub blocks : ℕ
  pub place : Place
  pub comms : List (t.Comms → t.Comms)

pub data SwitchFrame : Type 0 where
  -- `switch`; want: Simple, `;` or `{`; wait: Stmt or Guard
  SwitchHead : ℕ → Place → SwitchFrame
  -- `switch x;`; want: Expr, a guard or `{`; wait: Stmt or Guard
  SwitchTag : ℕ → Place → t.MaybeStmt → SwitchFrame
  -- `switch x; y := z.(type)`; want: `{`
  GuardEnd : ℕ → Place → t.MaybeStmt → Option Name → t.Expr → SwitchFrame
  -- want: `case`, `default` or `}`
  InSwitchBraces : SwitchPart → SwitchFrame
  -- `case x,`; wait: Expr
  Case : SwitchPart → Place → List t.Expr → SwitchFrame
  -- `default`; want: `:`
  Default : SwitchPart → Place → SwitchFrame
  -- `case x:` and statements; want: Stmt, `;` or the clause's end; wait: Stmt
  ClauseBody : SwitchPart → Place → List t.Expr → List t.Stmt → SwitchFrame
  -- `select`; want: `{`
  SelectOpen : ℕ → Place → SwitchFrame
  -- want: `case`, `default` or `}`
  InSelect : SelectPart → SwitchFrame
  -- `case`; want: Simple; wait: Stmt
  CommCase : SelectPart → Place → SwitchFrame
  -- `default`; want: `:`
  CommDefault : SelectPart → Place → SwitchFrame
  -- `case x:` and statements; want: Stmt, `;` or the clause's end; wait: Stmt
  CommBody : SelectPart → Place → t.MaybeStmt → List t.Stmt → SwitchFrame

-- `const` or `var`: blocks open round it, its place, whether it is `const`, whether it is a group
pub record ValuesPart : Type 0 where
  pub blocks : ℕ
  pub place : Place
  pub constant : Bool
  pub group : Bool
  pub specs : List (t.ValueSpecs → t.ValueSpecs)

-- `type`: blocks open round it, its place, whether it is a group
pub record TypesPart : Type 0 where
  pub blocks : ℕ
  pub place : Place
  pub group : Bool
  pub specs : List (t.TypeSpecs → t.TypeSpecs)

pub data DeclFrame : Type 0 where
  -- `const`; want: name or `(`
  AtValues : ValuesPart → DeclFrame
  -- `const (`; want: name or `)`
  ValueGroup : ValuesPart → DeclFrame
  -- `const x,`; want: name
  NextValue : ValuesPart → List Name → DeclFrame
  -- `const x, y`; want: `,`, `=`, Type, or what comes after
  ValueNames : ValuesPart → List Name → DeclFrame
  -- `const x, y`; wait: Type
  ValueType : ValuesPart → List Name → DeclFrame
  -- `const x, y T = z,`; wait: Expr
  ValueExprs : ValuesPart → List Name → t.MaybeExpr → List t.Expr → DeclFrame
  -- `type`; want: name or `(`
  AtTypes : TypesPart → DeclFrame
  -- `type (`; want: name or `)`
  TypeGroup : TypesPart → DeclFrame
  -- `type x`; want: `=` or Type
  DeclaredName : TypesPart → Name → DeclFrame
  -- `type x =`, and whether there is a `=`; wait: Type
  DeclaredType : TypesPart → Name → Bool → DeclFrame

-- the file so far
pub record FilePart : Type 0 where
  pub «package» : Name
  pub imports : List t.Import
  pub decls : List t.Decl

pub data FileFrame : Type 0 where
  -- want: `package`
  Start : FileFrame
  -- `package`; want: name
  AtPackage : FileFrame
  -- `package x`; want: `;`
  PackageEnd : Name → FileFrame
  -- want: `import`, Top or End; wait: Decl
  Top : FilePart → FileFrame
  -- `import`; want: Spec or `(`
  AtImport : FilePart → FileFrame
  -- `import (`; want: Spec or `)`
  ImportGroup : FilePart → FileFrame
  -- whether it is in a group, the name; want: string
  ImportName : FilePart → Bool → Name → FileFrame
  -- after a Spec, and whether it is in a group; want: `;` or `)`
  ImportEnd : FilePart → Bool → FileFrame
  -- `func`; want: name or `(`
  TopFunc : Place → FileFrame
  -- `func (r T)`; want: name
  FuncName : Place → Place → Params → FileFrame
  -- `func x`, with its receiver; wait: Sig
  FuncSig : Place → Option (Place × Params) → Name → FileFrame
  -- wait: Block
  TopBody : Place → Option (Place × Params) → Name → t.Sig → FileFrame
  -- after End
  Whole : t.File → FileFrame

pub data Frame : Type 0 where
  OfExpr : ExprFrame → Frame
  OfPart : PartFrame → Frame
  OfType : TypeFrame → Frame
  OfField : FieldFrame → Frame
  OfSig : SigFrame → Frame
  OfStmt : StmtFrame → Frame
  OfControl : ControlFrame → Frame
  OfSwitch : SwitchFrame → Frame
  OfDecl : DeclFrame → Frame
  OfFile : FileFrame → Frame
  -- a tree that is done, before any token
  Done : Value → Frame

abbrev pub Stack : Type 0
Stack = List Frame

-- what a frame does at a token
pub data Flow : Type 0 where
  -- it takes the token
  Goes : Stack → Flow
  -- it is over before the token, with this tree
  Over : Value → Stack → Flow
  -- no file goes on with the token
  Stuck : Flow
  -- the token makes the nesting too deep
  Deep : Flow
  -- a chain is too long, at this place
  Long : Place → Flow
