-- An index of rows, and what is known of a program's method rows where it has each.
use Rattle.std.specs.Prelude.{◌≡◌, ◌<◌, ℕ, List, Option, Some, slice_get, unwrap_or}
use Rattle.std.specs.Ordering.{nat_cmp, ordering_then}
use Rattle.std.specs.Cmp.Lexicographic.{slice_cmp}
use Rattle.std.specs.BTreeMap.{get_by}
use Rattle.go_type.specs.Table.{size}
use Rattle.go_core.specs.declared.program.MethodRow as declared
use Rattle.go_core.specs.declared.program.Program.{Program}
use Rattle.go_core.specs.CoreTree.{MethodName, MethodRow, CoreProgram}
use Rattle.go_core.specs.StepInterfaces.{row_of}
use Rattle.go_sound_parts.specs.declared.index.KeyIndex.{KeyIndex}

-- the number of a name, 0 where it has none
abbrev pub number_in : KeyIndex → List ℕ → ℕ
number_in x name = unwrap_or (get_by (λ k. slice_cmp nat_cmp name k.items) x.names) 0

-- the place that is found for a number and two names
abbrev pub place_in : KeyIndex → ℕ → List ℕ → List ℕ → Option ℕ
place_in x n name home =
    get_by (λ k. ordering_then (ordering_then (nat_cmp n k.0) (nat_cmp (number_in x name) k.1)) (nat_cmp (number_in x home) k.2)) x.places

-- the row at a place is found there
pub record IsIndexed (p : Program) (x : KeyIndex) (i : ℕ) : Type 0 where
  pub row : declared.MethodRow
  pub is_row : slice_get p.methods.items.items i ≡ Some row
  pub within : row.ty.0 < size p.types
  pub found : place_in x row.ty.0 row.name row.package ≡ Some i

abbrev pub name_of : MethodRow → MethodName
name_of r = record { type_ = r.type_; name = r.name; package_ = r.package_ }

-- each row is the one of its method
abbrev pub OwnRows : CoreProgram → Type 0
OwnRows q = (i : ℕ) (r : MethodRow) → slice_get q.methods i ≡ Some r → row_of q (name_of r) ≡ Some i

-- the row at a place is that of the method
pub record IsRowAt (q : CoreProgram) (n : MethodName) (at : ℕ) : Type 0 where
  pub row : MethodRow
  pub is_row : slice_get q.methods at ≡ Some row
  pub of_method : name_of row ≡ n
