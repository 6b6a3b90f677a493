-- ECMA-262 5.1, 8.7 and 10.3.1: where what a name stands for is kept, once names are resolved.
use Rattle.std.specs.Prelude.{List, Option, Some, None, if◌then◌else◌, bytes_eq, codes}
use Rattle.js_tree.specs.Script.{Name, ScriptTree}
use Rattle.js_tree.specs.Evaluate as run
use Rattle.js_code.specs.declared.slots.place.Place.{Place}
use Rattle.js_code.specs.declared.slots.place.Place.TheVariants.{Caught, Local, Host, Function, Global, Nowhere}
use Rattle.js_code.specs.declared.slots.place.Host as host
use Rattle.js_code.specs.declared.slots.place.Host.TheVariants as host_name
use Rattle.js_code.specs.declared.slots.place.Scope.{Scope}
use Rattle.js_code.specs.Names.{names_of, distinct, index_in, function_names, global_names}

-- names by their slots: those of functions, of top-level variables, and of the locals of a function
pub record Table : Type 0 where
  pub functions : List Name
  pub globals : List Name
  pub locals : List Name

-- the names that a scope of the program holds
abbrev pub table : Scope → Table
table s = record { functions = names_of s.functions.now.set.keys; globals = names_of s.globals.now.set.keys; locals = names_of s.locals.now.set.keys }

-- those of a script, with the locals of one of its functions
abbrev pub table_of : ScriptTree → List Name → Table
table_of script names = record {
  functions = distinct (function_names script.items);
  globals = distinct (global_names script.items);
  locals = distinct names;
}

abbrev pub host_of : host.Host → run.Host
host_of host_name.Write = run.write
host_of host_name.Pick = run.pick
host_of host_name.Finish = run.finish

abbrev pub host_here : run.Host → host.Host
host_here run.write = host_name.Write
host_here run.pick = host_name.Pick
host_here run.finish = host_name.Finish

-- a place by its slot, where there is one
abbrev pub placed : {A : Type 0} → Option A → (A → Place) → Place → Place
placed None make other = other
placed (Some slot) make other = make slot

abbrev pub global_place : Table → Name → Place
global_place t x = placed (index_in t.globals x) Global Nowhere

-- 10.3.1: where the value of a name outside functions is
abbrev pub top_place : Table → Name → Place
top_place t x =
    placed (run.host_named x) (λ h. Host (host_here h)) (placed (index_in t.functions x) Function (global_place t x))

-- 10.3.1, 12.14: where the value of a name is
abbrev pub place_of : Table → Name → Place
place_of t x = if bytes_eq x (codes "$catch") then Caught else placed (index_in t.locals x) Local (top_place t x)

-- 8.7.2: what an assignment to a name sets
abbrev pub target_of : Table → Name → Place
target_of t x = placed (index_in t.locals x) Local (global_place t x)
