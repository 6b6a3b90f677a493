use Rattle.std.proofs.Common.{◌≡◌, List, drop}
use Rattle.go_type.specs.Tree.{Ty}
use Rattle.go_type.specs.Levels.{specs_of}
use Rattle.go_core.specs.TypeOf.{spec_in}
use Rattle.go_sound_parts.proofs.methods.spec_among.Given as goal

abbrev pub invariant-loop-spec : goal.invariant-loop-spec
invariant-loop-spec l = (ts : List Ty) → spec_in l.name l.«package» (specs_of ts (drop l.spec-index l.specs)) ≡ spec_in l.name l.«package» (specs_of ts l.specs)
