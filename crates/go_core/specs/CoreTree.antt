-- The whole core program as contracts see it: what is left of Go's source once types are known. Parts are
-- evaluated from left to right. A type that a node holds is that of its value, or what its line says.
use Rattle.std.specs.Prelude.{ℕ, ℤ, List, Bool, Option}
use Rattle.gj_base.specs.declared.place.Place.{Place}
use Rattle.gj_base.specs.declared.kind.Op.{Op}
use Rattle.go_type.specs.Tree.{Ty, Tys}
use Rattle.go_type.specs.Named.{NamedTy}

-- a constant: whole numbers are in the range of their type
pub data Constant : Type 0 where
  truth_constant : (value : Bool) → Constant
  whole_constant : (value : ℤ) → Constant
  text_constant : (bytes : List ℕ) → Constant

-- a variable with its type
pub record Var : Type 0 where
  pub id : ℕ
  pub type_ : Ty

-- a method by the type whose row it has, its name, and its package where the name isn't exported
pub record MethodName : Type 0 where
  pub type_ : Ty
  pub name : List ℕ
  pub package_ : List ℕ

mutual
  pub data Expr : Type 0 where
    constant : (type_ : Ty) (value : Constant) → Expr
    zero_value : (type_ : Ty) → Expr
    read : (type_ : Ty) (place : CorePlace) → Expr
    -- the pointer to a place
    address : (type_ : Ty) (place : CorePlace) → Expr
    -- `+`, `-`, `^` on integers
    unary : (op : Op) (type_ : Ty) (operand : Expr) → Expr
    -- arithmetic and shifts on integers
    binary : (op : Op) (type_ : Ty) (left right : Expr) → Expr
    concat : (type_ : Ty) (left right : Expr) → Expr
    -- whether the operands, both of the operand type, are equal; or, where it is negated, aren't
    equal : (negated : Bool) (operands type_ : Ty) (left right : Expr) → Expr
    -- `<`, `<=`, `>` or `>=` of two integers or two strings
    less : (op : Op) (operands type_ : Ty) (left right : Expr) → Expr
    and_then : (type_ : Ty) (left right : Expr) → Expr
    or_else : (type_ : Ty) (left right : Expr) → Expr
    not_ : (type_ : Ty) (operand : Expr) → Expr
    convert : (from type_ : Ty) (operand : Expr) → Expr
    byte_at : (text index : Expr) → Expr
    -- a part of a string, of a slice, or of the array that a pointer points to
    slice_of : (from type_ : Ty) (operand : Expr) (low high capacity : Bound) → Expr
    -- a struct, an array, or a slice of so many elements; what no element is given for is zero
    build : (type_ : Ty) (count : ℕ) (elements : Elements) → Expr
    build_map : (type_ : Ty) (pairs : Pairs) → Expr
    -- a function with those variables that it captures
    closure : (type_ : Ty) (func : ℕ) → Expr
    -- a method value: of a method's row, or of an interface value
    bind : (type_ : Ty) (method : MethodName) (receiver : Expr) → Expr
    bind_dynamic : (type_ : Ty) (name package_ : List ℕ) (receiver : Expr) → Expr
    -- as many values as the function has results
    call : (results : Tys) (callee : Callee) (operands : Exprs) → Expr
    -- the value for a key; also whether it is there
    map_get : (map_type : Ty) (with_ok : Bool) (operand key : Expr) → Expr
    len : (from : Ty) (operand : Expr) → Expr
    cap : (from : Ty) (operand : Expr) → Expr
    -- a slice with the elements of another, or the bytes of a string, after its own
    append : (type_ : Ty) (from : Ty) (operand elements : Expr) → Expr
    copy_elems : (type_ : Ty) (from : Ty) (target source : Expr) → Expr
    make_slice : (type_ : Ty) (length : Expr) (capacity : Bound) → Expr
    make_map : (type_ : Ty) (count : Bound) → Expr
    make_chan : (type_ : Ty) (capacity : Bound) → Expr
    -- the pointer to a fresh zero
    new_ : (type_ : Ty) → Expr
    -- an interface value of a value of a type that is no interface
    wrap : (from type_ : Ty) (operand : Expr) → Expr
    -- the value of a type in an interface value; also whether it is of that type
    assert_ : (type_ : Ty) (with_ok : Bool) (operand : Expr) → Expr
    basic : (type_ : Ty) (operand : Expr) → Expr
    -- a value from a channel; also whether it was sent
    receive : (channel : Ty) (with_ok : Bool) (operand : Expr) → Expr
    recover_ : (type_ : Ty) → Expr
    -- the pointer to a gate's cell, which is made where the hidden pointer is nil
    gate_make : (pointer : Expr) → Expr
    -- adds to a gate, and gives the new value
    gate_add : (cell number : Expr) → Expr
    -- own: fresh variables with these values, in an expression: for operands that no place holds
    let_in : (vars : List Var) (values : Exprs) (body : Expr) → Expr

  -- what denotes storage
  pub data CorePlace : Type 0 where
    local_ : (var : ℕ) → CorePlace
    global : (number : ℕ) → CorePlace
    deref : (pointer : Expr) → CorePlace
    -- the field with this number of a struct of this type
    field : (struct_type : Ty) (number : ℕ) (place : CorePlace) → CorePlace
    elem : (array_type : Ty) (place : CorePlace) (index : Expr) → CorePlace
    slice_elem : (slice_type : Ty) (operand index : Expr) → CorePlace

  -- operands, from left to right
  pub data Exprs : Type 0 where
    no_exprs : Exprs
    expr : (first : Expr) (others : Exprs) → Exprs

  -- an operand that may be missing
  pub data Bound : Type 0 where
    no_bound : Bound
    bound : Expr → Bound

  -- elements with their places, in the order of the text
  pub data Elements : Type 0 where
    no_elements : Elements
    element : (index : ℕ) (value : Expr) (others : Elements) → Elements

  pub data Pairs : Type 0 where
    no_pairs : Pairs
    pair : (key value : Expr) (others : Pairs) → Pairs

  -- what is called
  pub data Callee : Type 0 where
    -- a function by its number
    function : (func : ℕ) → Callee
    -- a method by its row; the first operand is the receiver
    method : (name : MethodName) → Callee
    -- a function value
    func_value : (callee : Expr) → Callee
    -- a method of an interface value
    dynamic : (name package_ : List ℕ) (receiver : Expr) → Callee

-- a left side
pub data Target : Type 0 where
  blank : Target
  to_place : (type_ : Ty) (place : CorePlace) → Target
  to_entry : (map_type : Ty) (operand key : Expr) → Target

pub data BranchKind : Type 0 where
  break_ : BranchKind
  continue_ : BranchKind

-- a communication of a select
pub data Communication : Type 0 where
  sends : (channel : Ty) (operand value : Expr) → Communication
  -- what was received, and whether it was sent, go to fresh variables, as many as there are
  receives : (channel : Ty) (operand : Expr) (vars : List Var) → Communication

mutual
  pub data Stmt : Type 0 where
    sequence : Stmts → Stmt
    -- an expression whose values are dropped, so many
    perform : (operand : Expr) (values : ℕ) → Stmt
    -- a fresh variable
    declare : (var : Var) → Stmt
    -- operands of the left, then the right sides, then one assignment after another
    store : (targets : List Target) (values : Exprs) → Stmt
    map_delete : (map_type : Ty) (operand key : Expr) → Stmt
    if_ : (condition : Expr) (when_true when_false : Stmts) → Stmt
    loop : (label : ℕ) (condition : Bound) (body post : Stmts) → Stmt
    -- tests in order; the first that holds chooses a clause, else the default does
    switch_on : (label : ℕ) (tests : Tests) (clauses : Clauses) (default_ : Option ℕ) → Stmt
    -- the elements of an array, of the array of a pointer, of a slice, a string or a map, or so many numbers
    range_over : (label : ℕ) (from : Ty) (operand : Expr) (key value : Option Var) (body : Stmts) → Stmt
    -- a statement that `break` can leave
    labeled : (label : ℕ) (body : Stmts) → Stmt
    branch : (kind : BranchKind) (label : ℕ) → Stmt
    send : (channel : Ty) (operand value : Expr) → Stmt
    close_ : (operand : Expr) → Stmt
    -- `default` where it is there
    select_step : (label : ℕ) (cases : Cases) (has_default : Bool) (default_ : Stmts) → Stmt
    gate_take : (cell : Expr) → Stmt
    gate_await : (cell : Expr) → Stmt
    yield_ : Stmt
    go_call : (callee : Callee) (operands : Exprs) → Stmt
    defer_call : (callee : Callee) (operands : Exprs) → Stmt
    return_ : (values : Exprs) → Stmt
    panic_ : (operand : Expr) → Stmt
    -- `println` of the operands where it ends the line, else `print`
    print : (operands : Exprs) (ends_line : Bool) → Stmt
    exit_ : (status : Expr) → Stmt
    fatal_ : (text : Expr) → Stmt

  pub data Stmts : Type 0 where
    no_stmts : Stmts
    stmt : (first : Stmt) (others : Stmts) → Stmts

  -- a condition, and the number of the clause that it chooses
  pub data Tests : Type 0 where
    no_tests : Tests
    test : (condition : Expr) (clause : ℕ) (others : Tests) → Tests

  -- clauses by number; from one that falls through control goes on to the next one
  pub data Clauses : Type 0 where
    no_clauses : Clauses
    clause : (body : Stmts) (falls_through : Bool) (others : Clauses) → Clauses

  pub data Cases : Type 0 where
    no_cases : Cases
    case : (communication : Communication) (body : Stmts) (others : Cases) → Cases

-- a function: `vars` are the receiver, the parameters, the results, and then what it declares
pub record CoreFunc : Type 0 where
  pub name : List ℕ
  pub params : Tys
  pub results : Tys
  pub variadic : Bool
  pub vars : List Var
  pub captured : List ℕ
  pub body : Stmts
  pub place : Place

-- a package variable: the first of those that one initialiser sets holds it
pub record PackageVar : Type 0 where
  pub name : List ℕ
  pub package_ : List ℕ
  pub type_ : Ty
  pub place : Place
  pub initialiser : Bound
  -- the variables that the initialiser declares
  pub vars : List Var
  -- its number of declaration, and that of the first variable of its initialiser
  pub number : ℕ
  pub first : ℕ

pub record PackageRow : Type 0 where
  pub path : List ℕ
  pub imports : List (List ℕ)
  -- `init` functions in the order of the text
  pub inits : List ℕ

pub record MethodRow : Type 0 where
  pub type_ : Ty
  pub name : List ℕ
  pub package_ : List ℕ
  pub func : ℕ

pub record CoreProgram : Type 0 where
  pub types : List Ty
  pub names : List NamedTy
  pub funcs : List CoreFunc
  pub globals : List PackageVar
  pub methods : List MethodRow
  pub main : ℕ
  pub packages : List PackageRow
  -- the type of run-time panics
  pub hidden : Ty

-- what is done before `main`: the package variable at this place is set, with those that its initialiser sets
-- too; or an `init` function is called
pub data InitStep : Type 0 where
  initialise : (global : ℕ) → InitStep
  call_init : (func : ℕ) → InitStep
