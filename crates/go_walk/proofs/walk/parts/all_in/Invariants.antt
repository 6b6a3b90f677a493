use Rattle.std.proofs.Common.{◌≡◌, List, drop}
use Rattle.gj_base.specs.declared.place.Place.{Place}
use Rattle.go_walk.specs.SetsHas.{has_place}
use Rattle.go_typing.specs.Walk.{is_among, all_used}
use Rattle.go_walk.proofs.walk.parts.all_in.Given as goal

-- those that are left are, where all are
abbrev pub invariant-loop-i : goal.invariant-loop-i
invariant-loop-i l = (ps : List Place) → ((q : Place) → has_place q l.set ≡ is_among q ps) → all_used (drop l.i l.names) ps ≡ all_used (drop l.from l.names) ps
