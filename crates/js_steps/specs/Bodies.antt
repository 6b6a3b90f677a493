-- Own: code of a script's functions and of the first values of its top-level variables, with its names in their places.
use Rattle.std.specs.Prelude.{◌≡◌, ℕ, List, [], ◌∷◌, ◌++◌, Option, Some, None, Bool, true, false, length, slice_get, bytes_eq}
use Rattle.std.specs.List.{list_any}
use Rattle.std.specs.Borrow.{Bor}
use Rattle.js_tree.specs.Script.{Name, Expr, Function, Item, function_item, global_item, ScriptTree}
use Rattle.js_tree.specs.Evaluate.{find_function, host_named, scope_of}
use Rattle.js_tree.specs.Static.{has_twice}
use Rattle.js_tree.specs.View.{function_view}
use Rattle.js_tree.specs.declared.tree.JsFunction.{JsFunction}
use Rattle.js_code.specs.Names.{distinct, function_names, global_names}
use Rattle.js_code.specs.Places.{table_of}
use Rattle.js_code.specs.Parts.{trees_of, expr_at, stmts_at}
use Rattle.js_code.specs.PartClauses.{IsCode}
use Rattle.js_steps.specs.declared.bodies.body.Body.{Body}

-- the names of a function's variables
abbrev pub names_of_it : Option (Bor JsFunction) → List Name
names_of_it None = []
names_of_it (Some f) = (scope_of (function_view f.now)).names

-- those of a call; none outside functions
abbrev pub names_in : Body → List Name
names_in b = names_of_it b.function

-- code of a script, with its names in their places
pub record IsBody (script : ScriptTree) (b : Body) : Type 0 where
  pub code : IsCode (table_of script (names_in b)) b.code

-- the code of a function
pub record IsFunctionBody (script : ScriptTree) (b : Body) (f : Bor JsFunction) : Type 0 where
  pub function : b.function ≡ Some f
  pub body : IsBody script b
  pub whole : stmts_at (trees_of b.code) b.whole ≡ (function_view f.now).body
  pub params : b.params ≡ length (function_view f.now).params
  pub slots : b.slots ≡ length (distinct (scope_of (function_view f.now)).names)

-- a function of a script that breaks no rule, as code
pub record IsFunction (script : ScriptTree) (b : Body) (f : Bor JsFunction) : Type 0 where
  pub made : IsFunctionBody script b f
  pub once : has_twice (function_view f.now).params ≡ false
  pub found : find_function (function_view f.now).name script.items ≡ Some (function_view f.now)
  pub no_host : host_named (function_view f.now).name ≡ None

-- the names of a script's functions and top-level variables
pub record AreNames (script : ScriptTree) (functions globals : List Name) : Type 0 where
  pub functions_are : functions ≡ distinct (function_names script.items)
  pub globals_are : globals ≡ distinct (global_names script.items)

-- the code of an expression outside functions
pub record IsValueBody (script : ScriptTree) (b : Body) (e : Expr) : Type 0 where
  pub function : b.function ≡ None
  pub body : IsBody script b
  pub whole : expr_at (trees_of b.code) b.whole ≡ e

-- whether a body is that of a function with a name
abbrev pub has_name_in : Name → Option (Bor JsFunction) → Bool
has_name_in x None = false
has_name_in x (Some f) = bytes_eq (function_view f.now).name x

abbrev pub has_name : Name → Body → Bool
has_name x b = has_name_in x b.function

-- a body is one of these, and of a function with this name
pub record IsNamed (bodies : List Body) (x : Name) (b : Body) : Type 0 where
  pub number : ℕ
  pub held : slice_get bodies number ≡ Some b
  pub named : has_name x b ≡ true

-- the functions of a script, as code: each that is there, and no other
pub record IsProgram (script : ScriptTree) (bodies : List Body) : Type 0 where
  pub each : (n : ℕ) (b : Body) → slice_get bodies n ≡ Some b → (f : Bor JsFunction) × IsFunction script b f
  pub no_other : (x : Name) → list_any (has_name x) bodies ≡ false → find_function x script.items ≡ None

-- the code of this function
abbrev pub IsCodeOf : ScriptTree → Function → Body → Type 0
IsCodeOf script g b = (f : Bor JsFunction) × IsFunctionBody script b f × (function_view f.now ≡ g)

-- the code of an item is added, where it is a function
abbrev pub AddsBody : ScriptTree → Item → List Body → List Body → Type 0
AddsBody script (function_item g) old new = (b : Body) × (new ≡ old ++ b ∷ []) × IsCodeOf script g b
AddsBody script (global_item at x e) old new = new ≡ old
