-- What a program is made of, by the declarations ds of its files.
use Rattle.std.specs.Prelude.{◌≡◌, ℕ, suc, List, [], ◌∷◌, map, codes}
use Rattle.go_syntax.specs.Tree as t
use Rattle.go_type.specs.Tree.{Ty}
use Rattle.go_type.specs.Levels.{tree_of}
use Rattle.go_type.specs.Table.{places, names}
use Rattle.go_type.specs.declared.types.TypeId.{TypeId}
use Rattle.go_operands.specs.declared.scopes.env.Env.{Env}
use Rattle.go_operands.specs.EnvView.{table_of}
use Rattle.go_core.specs.CoreView.{func_view, method_row_view, package_row_view}
use Rattle.go_core.specs.declared.program.Func.{Func}
use Rattle.go_typing.specs.Known.{hidden}
use Rattle.go_typing.specs.Functions.{Functions}
use Rattle.go_typing.specs.Checked.{known_in, functions_in, main_from, count_functions, method_at}
use Rattle.go_stmt.specs.declared.stmt.made.Frame.{Frame}

-- the functions of a package, those that come of them, and what is known after the last
abbrev pub functions_of : List t.Decl → Functions
functions_of ds = functions_in (known_in ds) ds

pub record AreMade (ds : List t.Decl) (env : Env) (next : ℕ) (funcs : List Func) (id : TypeId) : Type 0 where
  pub is_hidden : tree_of (places (table_of env)) id ≡ hidden
  pub names_are : names (table_of env) ≡ (functions_of ds).between.names
  pub next_is : next ≡ (functions_of ds).between.next
  pub funcs_are : map (func_view (places (table_of env))) funcs ≡ (functions_of ds).funcs

-- the number of `main`, and the rows of the type of run-time panics
pub record IsFrameOf (ds : List t.Decl) (id : TypeId) (r : Frame) : Type 0 where
  pub main : r.main ≡ main_from 0 ds
  pub methods : (ts : List Ty) → tree_of ts id ≡ hidden → map (method_row_view ts) r.rows.methods.items ≡ method_at (codes "Error") (count_functions ds) ∷ method_at (codes "RuntimeError") (suc (count_functions ds)) ∷ []
  pub packages : map package_row_view r.rows.packages.items ≡ record { path = []; imports = []; inits = [] } ∷ []
