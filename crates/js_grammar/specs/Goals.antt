-- Own: what the reader reads. A goal is one production, or the rest of one whose front has been read.
use Rattle.std.specs.Prelude.{ℕ, List, Option}
use Rattle.js_tree.specs.Lexical.{Token}
use Rattle.js_tree.specs.Script.{Name, Expr, Stmt, Stmts, Else, Cases, Item, ScriptTree}

pub data Goal : Type 0 where
  token : (d : ℕ) (x : Token) → Goal
  operator : (d : ℕ) → Goal
  name : (d : ℕ) → Goal
  own_name : (d : ℕ) → Goal
  number : (d : ℕ) → Goal
  string : (d : ℕ) → Goal
  expression : (d : ℕ) → Goal
  operation : (d least : ℕ) → Goal
  chain : (d least at level n : ℕ) (e : Expr) → Goal
  unary : (d : ℕ) → Goal
  post : (d : ℕ) → Goal
  parts : (d at n : ℕ) (e : Expr) → Goal
  part : (d at : ℕ) (e : Expr) → Goal
  member : (d at : ℕ) (e : Expr) → Goal
  substring : (d at : ℕ) (e : Expr) → Goal
  atom : (d : ℕ) → Goal
  literal : (d : ℕ) → Goal
  word_literal : (d : ℕ) → Goal
  dictionary : (d : ℕ) → Goal
  converted : (d : ℕ) → Goal
  enclosed : (d : ℕ) (close : Token) → Goal
  listed : (d : ℕ) (close : Token) → Goal
  more : (d : ℕ) (close : Token) (es : List Expr) → Goal
  declaration : (d : ℕ) → Goal
  statements : (d : ℕ) (ss : List Stmt) → Goal
  statement : (d : ℕ) → Goal
  simple : (d : ℕ) → Goal
  block : (d : ℕ) → Goal
  named : (d : ℕ) → Goal
  effect : (d : ℕ) → Goal
  effect_of : (d at n : ℕ) (e : Expr) → Goal
  store : (d at n : ℕ) (e : Expr) → Goal
  remove : (d : ℕ) → Goal
  returned : (d : ℕ) → Goal
  jump : (d : ℕ) → Goal
  target : (d : ℕ) → Goal
  tested : (d : ℕ) (x : Token) → Goal
  branch : (d : ℕ) → Goal
  otherwise : (d : ℕ) → Goal
  turning : (d at : ℕ) (label : Option Name) → Goal
  forever : (d : ℕ) → Goal
  clauses : (d : ℕ) (cs : List (Cases → Cases)) → Goal
  clause : (d : ℕ) → Goal
  attempt : (d : ℕ) → Goal
  parameters : Goal
  more_parameters : (xs : List Name) → Goal
  items : (is : List Item) → Goal
  item : Goal
  whole : Goal

-- what a goal gives
abbrev pub Gives : Goal → Type 0
Gives (token d x) = Unit {0}
Gives (operator d) = Unit {0}
Gives (name d) = Name
Gives (own_name d) = Name
Gives (number d) = ℕ
Gives (string d) = List ℕ
Gives (post d) = Expr × ℕ
Gives (parts d at n e) = Expr × ℕ
Gives (listed d close) = List Expr
Gives (more d close es) = List Expr
Gives (declaration d) = Name × Expr
Gives (statements d ss) = Stmts
Gives (block d) = Stmts
Gives (statement d) = Stmt
Gives (simple d) = Stmt
Gives (named d) = Stmt
Gives (effect d) = Stmt
Gives (effect_of d at n e) = Stmt
Gives (store d at n e) = Stmt
Gives (remove d) = Stmt
Gives (returned d) = Stmt
Gives (jump d) = Stmt
Gives (target d) = Option Name
Gives (branch d) = Stmt
Gives (otherwise d) = Else
Gives (turning d at label) = Stmt
Gives (forever d) = Unit {0}
Gives (clauses d cs) = Cases
Gives (clause d) = Cases → Cases
Gives (attempt d) = Stmt
Gives parameters = List Name
Gives (more_parameters xs) = List Name
Gives (items is) = List Item
Gives item = Item
Gives whole = ScriptTree
Gives (expression d) = Expr
Gives (operation d least) = Expr
Gives (chain d least at level n e) = Expr
Gives (unary d) = Expr
Gives (part d at e) = Expr
Gives (member d at e) = Expr
Gives (substring d at e) = Expr
Gives (atom d) = Expr
Gives (literal d) = Expr
Gives (word_literal d) = Expr
Gives (dictionary d) = Expr
Gives (converted d) = Expr
Gives (enclosed d close) = Expr
Gives (tested d x) = Expr
