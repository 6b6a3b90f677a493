-- ECMA-262 5.1, 11 to 14: the tree of a script, cut to the subset. A node's first number is its offset, that of its first byte.
use Rattle.std.specs.Prelude.{ℕ, List, Bool, Option}
use Rattle.js_tree.specs.declared.tree.UnaryOp.{UnaryOp}
use Rattle.js_tree.specs.declared.tree.BinaryOp.{BinaryOp}

-- the bytes of a name
abbrev pub Name : Type 0
Name = List ℕ

mutual
  pub data Expr : Type 0 where
    number : (at : ℕ) (n : ℕ) → Expr
    string : (at : ℕ) (bytes : List ℕ) → Expr
    boolean : (at : ℕ) (b : Bool) → Expr
    null : (at : ℕ) → Expr
    name : (at : ℕ) (x : Name) → Expr
    unary : (at : ℕ) (op : UnaryOp) (e : Expr) → Expr
    binary : (at : ℕ) (op : BinaryOp) (left right : Expr) → Expr
    both : (at : ℕ) (left right : Expr) → Expr
    either : (at : ℕ) (left right : Expr) → Expr
    choice : (at : ℕ) (test left right : Expr) → Expr
    call : (at : ℕ) (callee : Expr) (arguments : Exprs) → Expr
    index : (at : ℕ) (e i : Expr) → Expr
    length_of : (at : ℕ) (e : Expr) → Expr
    pop : (at : ℕ) (e : Expr) → Expr
    char_code_at : (at : ℕ) (e i : Expr) → Expr
    substring : (at : ℕ) (e from to : Expr) → Expr
    array : (at : ℕ) (items : Exprs) → Expr
    dictionary : (at : ℕ) → Expr
    decimal_of : (at : ℕ) (e : Expr) → Expr
    from_char_code : (at : ℕ) (e : Expr) → Expr

  pub data Exprs : Type 0 where
    no_exprs : Exprs
    expr : (first : Expr) (rest : Exprs) → Exprs

mutual
  pub data Stmt : Type 0 where
    declare : (at : ℕ) (x : Name) (e : Expr) → Stmt
    assign : (at : ℕ) (x : Name) (e : Expr) → Stmt
    store : (at : ℕ) (e i value : Expr) → Stmt
    perform : (at : ℕ) (e : Expr) → Stmt
    push : (at : ℕ) (e value : Expr) → Stmt
    remove : (at : ℕ) (e key : Expr) → Stmt
    branch : (at : ℕ) (test : Expr) (body : Stmts) (other : Else) → Stmt
    while : (at : ℕ) (label : Option Name) (test : Expr) (body : Stmts) → Stmt
    forever : (at : ℕ) (label : Option Name) (body : Stmts) → Stmt
    switch : (at : ℕ) (label : Option Name) (e : Expr) (cases : Cases) → Stmt
    return : (at : ℕ) (e : Option Expr) → Stmt
    throw : (at : ℕ) (e : Expr) → Stmt
    break : (at : ℕ) (label : Option Name) → Stmt
    continue : (at : ℕ) (label : Option Name) → Stmt
    attempt : (at : ℕ) (body handler : Stmts) → Stmt

  pub data Stmts : Type 0 where
    no_stmts : Stmts
    stmt : (first : Stmt) (rest : Stmts) → Stmts

  -- what stands after the block of an `if`
  pub data Else : Type 0 where
    no_else : Else
    else_block : (body : Stmts) → Else
    else_if : (at : ℕ) (test : Expr) (body : Stmts) (other : Else) → Else

  -- the cases of a `switch`, of which `default` is the last
  pub data Cases : Type 0 where
    no_cases : Cases
    default : (body : Stmts) → Cases
    case : (n : ℕ) (body : Stmts) (rest : Cases) → Cases

pub record Function : Type 0 where
  pub name : Name
  pub params : List Name
  pub body : Stmts
  pub at : ℕ

pub data Item : Type 0 where
  function_item : Function → Item
  global_item : (at : ℕ) (x : Name) (e : Expr) → Item

pub record ScriptTree : Type 0 where
  pub items : List Item
  pub start : Name
  pub start_at : ℕ
