-- What is known of a program.
use Rattle.std.specs.Prelude.{◌≡◌, ℕ, List, Bool, true, false, Some, All, AllPairs, map, length, slice_get}
use Rattle.go_type.specs.Levels.{tree_of}
use Rattle.go_type.specs.Table.{places, size}
use Rattle.go_type.specs.declared.types.TypeId.{TypeId}
use Rattle.go_core.specs.declared.node.Var as declared
use Rattle.go_core.specs.declared.program.MethodRow as rows
use Rattle.go_core.specs.declared.program.Program.{Program}
use Rattle.go_core.specs.CoreView.{program_view, var_of}
use Rattle.go_core.specs.SoundNode.{IsGoodType, HasRows, IsRowOf}
use Rattle.go_core.specs.SoundProgram.{all_vars, DifferInId}
use Rattle.go_sound_parts.specs.Index.{OwnRows}
use Rattle.go_sound_parts.specs.Measures.{AreKnown}
use Rattle.go_is_sound.specs.declared.facts.Facts.{Facts}
use Rattle.go_is_sound.specs.Rows.{RowsDeclared}

abbrev pub IsMarked : List Bool → rows.MethodRow → Type 0
IsMarked marks row = slice_get marks row.func.0 ≡ Some true

-- of the first types: where one is marked, its methods have rows
pub record RowsKnown (p : Program) (marks : List Bool) (count : ℕ) : Type 0 where
  pub counted : length marks ≡ count
  pub has_rows : (t : TypeId) → slice_get marks t.0 ≡ Some true → HasRows (program_view p) (tree_of (places p.types) t)

-- what is known of rows
pub record RowsFit (p : Program) (marks : List Bool) : Type 0 where
  pub own_rows : OwnRows (program_view p)
  pub declared : RowsDeclared (program_view p)
  pub known : RowsKnown p marks (size p.types)

-- each variable stands at the place of its number
abbrev pub ArePlaced : List declared.Var → List ℕ → Type 0
ArePlaced vars ps = (i : ℕ) (v : declared.Var) → slice_get vars i ≡ Some v → slice_get ps v.id.0 ≡ Some i

pub record Holds (p : Program) (f : Facts) : Type 0 where
  pub types_fit : All (IsGoodType (program_view p)) (program_view p).types
  pub measures_fit : AreKnown (program_view p).names (places p.types) f.measures.items
  pub is_method : (k : ℕ) → slice_get f.is_method.items k ≡ Some false → IsRowOf (program_view p) k → ⊥
  pub rows_fit : RowsFit p f.has_rows.items
  pub vars_fit : map (var_of (places p.types)) f.vars.items ≡ all_vars (program_view p)
  pub vars_differ : AllPairs DifferInId (all_vars (program_view p))
