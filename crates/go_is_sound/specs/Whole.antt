-- Parts of what a Sound program is.
use Rattle.std.specs.Prelude.{◌≡◌, ◌≤◌, ℕ, Some, AllPairs, length, slice_get}
use Rattle.std.specs.List.{AllByRecursion}
use Rattle.go_type.specs.Table.{places}
use Rattle.go_core.specs.declared.program.PackageVar as declared
use Rattle.go_core.specs.declared.program.Program.{Program}
use Rattle.go_core.specs.CoreTree.{CoreFunc, CoreProgram}
use Rattle.go_core.specs.CoreView.{package_var_view, program_view}
use Rattle.go_core.specs.SoundProgram.{AreSet, DifferInPackage, DifferInPath, IsPlainFunc, SoundFunc, SoundHidden, SoundVariable}
use Rattle.go_is_sound.specs.Rows.{RowFits}

pub record FuncsSound (q : CoreProgram) : Type 0 where
  pub few_functions : length q.funcs ≤ 65535
  pub functions : (k : ℕ) (f : CoreFunc) → slice_get q.funcs k ≡ Some f → SoundFunc q k f

abbrev pub VarSound : Program → declared.PackageVar → Type 0
VarSound p x = SoundVariable (program_view p) (package_var_view (places p.types) x)

pub record BodiesSound (p : Program) : Type 0 where
  pub functions : FuncsSound (program_view p)
  pub variables : AllByRecursion (VarSound p) p.globals.items.items

-- what is told by a look at rows and numbers alone
pub record AreDistinct (p : Program) : Type 0 where
  pub main_fits : IsPlainFunc (program_view p) (program_view p).main
  pub hidden : SoundHidden (program_view p)
  pub rows_fit : AllByRecursion (RowFits p) p.methods.items.items
  pub paths_differ : AllPairs DifferInPath (program_view p).packages
  pub numbers_differ : AllPairs DifferInPackage (program_view p).globals
  pub names_set : AreSet (program_view p)
