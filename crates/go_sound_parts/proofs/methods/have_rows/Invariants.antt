use Rattle.std.proofs.Common.{drop}
use Rattle.std.specs.List.{AllByRecursion}
use Rattle.go_core.specs.CoreView.{program_view}
use Rattle.go_sound_parts.specs.Index.{OwnRows}
use Rattle.go_sound_parts.specs.Methods.{HasSpec}
use Rattle.go_sound_parts.proofs.methods.have_rows.Given as goal

abbrev pub invariant-loop-spec : goal.invariant-loop-spec
invariant-loop-spec l = OwnRows (program_view l.p) → AllByRecursion (HasSpec l.p l.t) (drop l.spec-index l.specs) → AllByRecursion (HasSpec l.p l.t) l.specs
