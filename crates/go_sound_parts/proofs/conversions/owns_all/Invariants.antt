use Rattle.std.proofs.Common.{drop}
use Rattle.std.specs.List.{AllByRecursion}
use Rattle.go_sound_parts.specs.Methods.{OwnsSpec}
use Rattle.go_sound_parts.proofs.conversions.owns_all.Given as goal

abbrev pub invariant-loop-spec : goal.invariant-loop-spec
invariant-loop-spec l = AllByRecursion (OwnsSpec l.own) (drop l.spec-index l.asked) → AllByRecursion (OwnsSpec l.own) l.asked
