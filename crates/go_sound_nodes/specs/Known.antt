-- What a judge knows of its program.
use Rattle.std.specs.Prelude.{◌≡◌, ℕ, true, false, Some, All, slice_get}
use Rattle.go_core.specs.SoundNode.{IsGoodType, HasRows, IsRowOf}
use Rattle.go_type.specs.Levels.{tree_of}
use Rattle.go_type.specs.declared.types.TypeId.{TypeId}
use Rattle.go_sound_parts.specs.Index.{OwnRows}
use Rattle.go_sound_parts.specs.Measures.{AreKnown}
use Rattle.go_sound_nodes.specs.declared.judge.Judge.{Judge}
use Rattle.go_sound_nodes.specs.Around.{program_in, trees_in}

pub record Knows (j : Judge) : Type 0 where
  pub own_rows : OwnRows (program_in j)
  pub types_fit : All (IsGoodType (program_in j)) (program_in j).types
  pub measures_fit : AreKnown (program_in j).names (trees_in j) j.measures.now
  pub is_method : (k : ℕ) → slice_get j.is_method.now k ≡ Some false → IsRowOf (program_in j) k → ⊥
  pub has_rows : (t : TypeId) → slice_get j.has_rows.now t.0 ≡ Some true → HasRows (program_in j) (tree_of (trees_in j) t)
