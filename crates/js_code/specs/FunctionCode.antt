-- Own: a function of a script, and the first value of a top-level variable, as code.
use Rattle.std.specs.Prelude.{◌≡◌, List, [], length}
use Rattle.js_tree.specs.Script.{Name, Expr, Function}
use Rattle.js_tree.specs.Evaluate.{scope_of}
use Rattle.js_code.specs.Names.{distinct}
use Rattle.js_code.specs.Places.{Table}
use Rattle.js_code.specs.Parts.{last}
use Rattle.js_code.specs.ExprParts.{with_expr}
use Rattle.js_code.specs.StmtParts.{with_stmts}
use Rattle.js_code.specs.declared.code.function.FunctionCode as held
use Rattle.js_code.specs.declared.code.function.ValueCode as value

-- the names of functions, top-level variables and locals, each once
abbrev pub table_with : (functions globals locals : List Name) → Table
table_with functions globals locals = record { functions = functions; globals = globals; locals = locals }

-- the function's name, how many arguments and slots a call has, and its body's parts, the last of which stands for it
pub record IsFunctionCode (functions globals : List Name) (f : Function) (c : held.FunctionCode) : Type 0 where
  pub name : c.name.now ≡ f.name
  pub params : c.params ≡ length f.params
  pub slots : c.slots ≡ length (distinct (scope_of f).names)
  pub code : c.code ≡ with_stmts (table_with functions globals (distinct (scope_of f).names)) [] f.body
  pub body : c.body ≡ last c.code

-- the parts of an expression outside of functions, the last of which stands for it
pub record IsValueCode (functions globals : List Name) (e : Expr) (c : value.ValueCode) : Type 0 where
  pub code : c.code ≡ with_expr (table_with functions globals []) [] e
  pub last_part : c.e ≡ last c.code
