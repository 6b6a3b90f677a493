-- Rows and the methods to which they lead.
use Rattle.std.specs.Prelude.{◌≡◌, ◌⊎◌, ◌<◌, ℕ, List, [], ◌∷◌, Bool, true, Some, slice_get}
use Rattle.go_type.specs.Tree as ty
use Rattle.go_type.specs.Tree.{Ty}
use Rattle.go_type.specs.Levels.{tree_of, trees_of}
use Rattle.go_type.specs.Table.{places, size}
use Rattle.go_type.specs.Members.{sought}
use Rattle.go_type.specs.MethodSet.{HasMethod}
use Rattle.go_type.specs.declared.types.Sig.{Sig}
use Rattle.go_core.specs.declared.program.MethodRow as declared
use Rattle.go_core.specs.declared.program.Program.{Program}
use Rattle.go_core.specs.CoreTree.{CoreFunc, CoreProgram, MethodRow, Var}
use Rattle.go_core.specs.CoreView.{program_view}

-- the row at a place leads to a function with this signature
pub record LeadsTo (p : Program) (at : ℕ) (sig : Sig) : Type 0 where
  pub row : MethodRow
  pub is_row : slice_get (program_view p).methods at ≡ Some row
  pub function : CoreFunc
  pub is_function : slice_get (program_view p).funcs row.func ≡ Some function
  pub params_fit : function.params ≡ trees_of (places p.types) sig.params
  pub results_fit : function.results ≡ trees_of (places p.types) sig.results
  pub variadic_fits : function.variadic ≡ sig.variadic

-- the row leads to a method of its type
pub record IsDeclared (q : CoreProgram) (row : MethodRow) : Type 0 where
  pub function : CoreFunc
  pub is_function : slice_get q.funcs row.func ≡ Some function
  pub has_signature : HasMethod q.names row.type_ (sought row.name row.package_) function.params function.results function.variadic

-- the row at a place does
pub record IsDeclaredAt (q : CoreProgram) (at : ℕ) : Type 0 where
  pub row : MethodRow
  pub is_row : slice_get q.methods at ≡ Some row
  pub is_declared : IsDeclared q row

-- those that are marked do
abbrev pub AreDeclared : CoreProgram → List Bool → Type 0
AreDeclared q done = (i : ℕ) → slice_get done i ≡ Some true → IsDeclaredAt q i

abbrev pub RowsDeclared : CoreProgram → Type 0
RowsDeclared q = (i : ℕ) (row : MethodRow) → slice_get q.methods i ≡ Some row → IsDeclared q row

-- the function takes a receiver of the type, of the type that it points to, or of a pointer to it
pub record HasReceiver (f : CoreFunc) (t : Ty) : Type 0 where
  pub receiver : Var
  pub others : List Var
  pub has_vars : f.vars ≡ receiver ∷ others
  pub captures_nothing : f.captured ≡ []
  pub fits : (receiver.type_ ≡ t) ⊎ (t ≡ ty.pointer receiver.type_) ⊎ (receiver.type_ ≡ ty.pointer t)

pub record RowFits (p : Program) (row : declared.MethodRow) : Type 0 where
  pub function : CoreFunc
  pub is_function : slice_get (program_view p).funcs row.func.0 ≡ Some function
  pub has_receiver : HasReceiver function (tree_of (places p.types) row.ty)
  pub within : row.ty.0 < size p.types
