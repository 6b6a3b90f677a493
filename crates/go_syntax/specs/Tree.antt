-- Trees as contracts see them: a form for each production of the grammar, with the production's
-- parts in order. The first part of a form is its place, that of its first token.
use Rattle.std.specs.Prelude.{ℕ, List, Option, Bool}
use Rattle.gj_base.specs.declared.place.Place.{Place}
use Rattle.gj_base.specs.declared.kind.Op.{Op}
use Rattle.go_syntax.specs.declared.tree.Name.{Name}
use Rattle.go_syntax.specs.declared.tree.Prefix.{Prefix}
use Rattle.go_syntax.specs.declared.tree.ChanDir.{ChanDir}

mutual
  -- an expression or a type
  pub data Expr : Type 0 where
    NameExpr : Place → List ℕ → Expr
    IntExpr : Place → List ℕ → Expr
    RuneExpr : Place → List ℕ → Expr
    StrExpr : Place → List ℕ → Expr
    ParenExpr : Place → Expr → Expr
    UnaryExpr : Place → Prefix → Expr → Expr
    BinaryExpr : Place → Expr → Op → Expr → Expr
    SelectExpr : Place → Expr → Name → Expr
    IndexExpr : Place → Expr → Expr → Expr
    -- operand, low, high, max
    SliceExpr : Place → Expr → MaybeExpr → MaybeExpr → MaybeExpr → Expr
    AssertExpr : Place → Expr → Expr → Expr
    -- function, arguments, whether `...` follows the last one
    CallExpr : Place → Expr → Exprs → Bool → Expr
    LiteralExpr : Place → MaybeExpr → Elems → Expr
    FuncExpr : Place → Sig → Block → Expr
    -- length, or none for `...`, and element
    ArrayType : Place → MaybeExpr → Expr → Expr
    SliceType : Place → Expr → Expr
    StructType : Place → Fields → Expr
    FuncType : Place → Sig → Expr
    InterfaceType : Place → Members → Expr
    MapType : Place → Expr → Expr → Expr
    ChanType : Place → ChanDir → Expr → Expr

  pub data MaybeExpr : Type 0 where
    NoExpr : MaybeExpr
    AnExpr : Expr → MaybeExpr

  pub data Exprs : Type 0 where
    NoExprs : Exprs
    MoreExprs : Expr → Exprs → Exprs

  -- elements of a literal: key and value
  pub data Elems : Type 0 where
    NoElems : Elems
    MoreElems : MaybeExpr → Expr → Elems → Elems

  -- parameters, with the place of `(`, and results
  pub data Sig : Type 0 where
    SigOf : Place → Params → Results → Sig

  pub data Results : Type 0 where
    NoResults : Results
    -- one type, without parentheses
    OneResult : Expr → Results
    ManyResults : Place → Params → Results

  -- parameters as they are written: place, name, whether there is a `...`, type
  pub data Params : Type 0 where
    NoParams : Params
    MoreParams : Place → Option Name → Bool → Expr → Params → Params

  -- fields of a struct type, with their tags
  pub data Fields : Type 0 where
    NoFields : Fields
    NamedFields : List Name → Expr → Option (List ℕ) → Fields → Fields
    -- place, whether there is a `*`, the type's name
    EmbeddedField : Place → Bool → Expr → Option (List ℕ) → Fields → Fields

  -- members of an interface type
  pub data Members : Type 0 where
    NoMembers : Members
    MethodMember : Name → Sig → Members → Members
    EmbeddedMember : Expr → Members → Members

  -- the places of both braces
  pub data Block : Type 0 where
    BlockOf : Place → Stmts → Place → Block

  pub data Stmts : Type 0 where
    NoStmts : Stmts
    MoreStmts : Stmt → Stmts → Stmts

  pub data MaybeStmt : Type 0 where
    NoStmt : MaybeStmt
    AStmt : Stmt → MaybeStmt

  -- a statement
  pub data Stmt : Type 0 where
    EmptyStmt : Place → Stmt
    -- here and in the next two forms one expression is due, and the types stage refuses several
    ExprStmt : Place → Exprs → Stmt
    SendStmt : Place → Exprs → Expr → Stmt
    -- whether it is `++`
    IncDecStmt : Place → Exprs → Bool → Stmt
    AssignStmt : Place → Exprs → Option Op → Exprs → Stmt
    DefineStmt : Place → Exprs → Exprs → Stmt
    DeclStmt : Place → Decl → Stmt
    BlockStmt : Place → Block → Stmt
    -- statement before the condition, condition, block, what follows `else`
    IfStmt : Place → MaybeStmt → Expr → Block → MaybeStmt → Stmt
    -- statement before, condition, statement after each turn, block
    ForStmt : Place → MaybeStmt → MaybeExpr → MaybeStmt → Block → Stmt
    -- left side, whether it is `:=`, what it goes over, block
    RangeStmt : Place → Exprs → Bool → Expr → Block → Stmt
    SwitchStmt : Place → MaybeStmt → MaybeExpr → Clauses → Stmt
    TypeSwitchStmt : Place → MaybeStmt → Option Name → Expr → Clauses → Stmt
    SelectStmt : Place → Comms → Stmt
    GoStmt : Place → Expr → Stmt
    DeferStmt : Place → Expr → Stmt
    ReturnStmt : Place → Exprs → Stmt
    BreakStmt : Place → Option Name → Stmt
    ContinueStmt : Place → Option Name → Stmt
    FallthroughStmt : Place → Stmt
    LabeledStmt : Place → Name → Stmt → Stmt

  -- clauses of a switch: place, expressions, of which `default` has none, statements
  pub data Clauses : Type 0 where
    NoClauses : Clauses
    MoreClauses : Place → Exprs → Stmts → Clauses → Clauses

  -- clauses of a select: place, communication, which `default` lacks, statements
  pub data Comms : Type 0 where
    NoComms : Comms
    MoreComms : Place → MaybeStmt → Stmts → Comms → Comms

  -- a declaration
  pub data Decl : Type 0 where
    ConstDecl : Place → ValueSpecs → Decl
    TypeDecl : Place → TypeSpecs → Decl
    VarDecl : Place → ValueSpecs → Decl
    FuncDecl : Place → Name → Sig → Block → Decl
    -- with its receiver list and the place of that list's `(`
    MethodDecl : Place → Place → Params → Name → Sig → Block → Decl

  -- names, type and values of constants or variables
  pub data ValueSpecs : Type 0 where
    NoValues : ValueSpecs
    MoreValues : List Name → MaybeExpr → Exprs → ValueSpecs → ValueSpecs

  -- name, whether it is an alias, type
  pub data TypeSpecs : Type 0 where
    NoTypes : TypeSpecs
    MoreTypes : Name → Bool → Expr → TypeSpecs → TypeSpecs

-- `name "path"`
pub record Import : Type 0 where
  pub place : Place
  pub name : Option Name
  pub path : List ℕ
  pub path_place : Place

-- a source file
pub record File : Type 0 where
  pub «package» : Name
  pub imports : List Import
  pub decls : List Decl
