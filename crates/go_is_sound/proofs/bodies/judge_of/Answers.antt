use Rattle.std.proofs.Common.{◌≡◌, ℕ, List, Bool, true, false, sym, subst}
use Rattle.std.specs.Prelude.{Option, Some, slice_get}
use Rattle.go_type.specs.Levels.{tree_of}
use Rattle.go_type.specs.Table.{names, places}
use Rattle.go_type.specs.declared.types.TypeId.{TypeId}
use Rattle.go_core.specs.CoreView.{program_view}
use Rattle.go_core.specs.SoundNode.{HasRows, IsRowOf}
use Rattle.go_sound_parts.specs.Measures.{AreKnown}
use Rattle.go_sound_parts.specs.declared.measures.Measure.{Measure}
use Rattle.go_is_sound.proofs.bodies.judge_of.Goals as goal

pub returns-clause-knows : goal.returns-clause-knows
returns-clause-knows c = λ h.
    let p = c.args.program.now in
    record {
      own_rows = h.rows_fit.own_rows;
      types_fit = h.types_fit;
      measures_fit = subst (λ (ms : List (Option Measure)). AreKnown (names p.types) (places p.types) ms) (sym c.as_slice-3.ensures.value) h.measures_fit;
      is_method = subst (λ (bs : List Bool). (k : ℕ) → slice_get bs k ≡ Some false → IsRowOf (program_view p) k → ⊥) (sym c.as_slice.ensures.value) h.is_method;
      has_rows = subst (λ (bs : List Bool). (t : TypeId) → slice_get bs t.0 ≡ Some true → HasRows (program_view p) (tree_of (places p.types) t)) (sym c.as_slice-2.ensures.value) h.rows_fit.known.has_rows;
    }
