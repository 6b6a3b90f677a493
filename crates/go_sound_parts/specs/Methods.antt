-- Methods and their rows.
use Rattle.std.specs.Prelude.{◌≡◌, ℕ, List, Some, slice_get}
use Rattle.go_type.specs.Tree.{Ty}
use Rattle.go_type.specs.Levels.{tree_of, trees_of, specs_of}
use Rattle.go_type.specs.Table.{places}
use Rattle.go_type.specs.declared.types.MethodSpec.{MethodSpec}
use Rattle.go_type.specs.declared.types.TypeId.{TypeId}
use Rattle.go_core.specs.CoreView.{program_view}
use Rattle.go_core.specs.declared.program.Program.{Program}
use Rattle.go_core.specs.CoreTree.{MethodName, MethodRow, CoreFunc, CoreProgram}
use Rattle.go_core.specs.TypeOf.{spec_in}
use Rattle.go_core.specs.StepInterfaces.{row_of}
use Rattle.go_core.specs.SoundNode.{HasRow}

-- the row of a method, and its function
pub record Finds (p : CoreProgram) (n : MethodName) (f : CoreFunc) : Type 0 where
  pub at : ℕ
  pub row : MethodRow
  pub found : row_of p n ≡ Some at
  pub is_row : slice_get p.methods at ≡ Some row
  pub is_function : slice_get p.funcs row.func ≡ Some f

-- the method of the type has its row
abbrev pub HasSpec : Program → TypeId → MethodSpec → Type 0
HasSpec p t m =
    let ts = places p.types in
    HasRow (program_view p) (tree_of ts t) (record { name = m.name; package_ = m.package }) (trees_of ts m.sig.params) (trees_of ts m.sig.results) m.sig.variadic

-- the method asked for is among the own ones, with its signature
abbrev pub OwnsSpec : List MethodSpec → MethodSpec → Type 0
OwnsSpec own m =
    (ts : List Ty) → spec_in m.name m.package (specs_of ts own) ≡ Some (record { params = trees_of ts m.sig.params; results = trees_of ts m.sig.results; variadic = m.sig.variadic })
