use Rattle.std.proofs.Common.{◌≡◌, ◌++◌, drop, map}
use Rattle.go_operands.specs.AnswerView.{flaw_view}
use Rattle.gj_base.specs.declared.place.Place.{Place}
use Rattle.go_walk.specs.SetsHas.{has_place}
use Rattle.go_typing.specs.Walk.{is_among, unused}
use Rattle.go_walk.proofs.walk.unused.unused_names.Given as goal

-- what is told so far, with what is left
abbrev pub invariant-loop-n : goal.invariant-loop-n
invariant-loop-n l = map flaw_view l.flaws.items ++ unused (drop l.n-index l.names) l.fn.used ≡ map flaw_view l.initial.flaws.items ++ unused l.names l.fn.used
