use Rattle.std.proofs.Common.{drop}
use Rattle.std.specs.List.{AllByRecursion}
use Rattle.go_core.specs.CoreView.{program_view}
use Rattle.go_core.specs.SoundProgram.{IsPlainFunc}
use Rattle.go_core.specs.declared.tree.FuncId.{FuncId}
use Rattle.go_is_sound.specs.Facts.{Holds}
use Rattle.go_is_sound.proofs.packages.has_inits.Given as goal

abbrev pub invariant-loop-id : goal.invariant-loop-id
invariant-loop-id l =
    let plain = λ (id : FuncId). IsPlainFunc (program_view l.p) id.0 in
    Holds l.p l.facts → AllByRecursion plain (drop l.id-index l.id-items) → AllByRecursion plain l.id-items
