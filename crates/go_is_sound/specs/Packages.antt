-- Packages.
use Rattle.std.specs.Prelude.{◌≢◌}
use Rattle.std.specs.List.{AllByRecursion}
use Rattle.go_core.specs.declared.program.PackageRow as declared
use Rattle.go_core.specs.declared.program.Program.{Program}
use Rattle.go_core.specs.declared.tree.FuncId.{FuncId}
use Rattle.go_core.specs.CoreView.{program_view}
use Rattle.go_core.specs.SoundProgram.{IsPlainFunc}

abbrev pub HasInits : Program → declared.PackageRow → Type 0
HasInits p row = AllByRecursion (λ (id : FuncId). IsPlainFunc (program_view p) id.0) row.inits.items.items

abbrev pub PathDiffers : declared.PackageRow → declared.PackageRow → Type 0
PathDiffers a b = a.path ≢ b.path
