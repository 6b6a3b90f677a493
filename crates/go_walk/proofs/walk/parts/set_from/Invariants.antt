use Rattle.std.proofs.Common.{◌≡◌, ◌||◌, drop}
use Rattle.gj_base.specs.declared.place.Place.{Place}
use Rattle.go_walk.specs.SetsHas.{has_place}
use Rattle.go_typing.specs.Walk.{is_among}
use Rattle.go_walk.proofs.walk.parts.set_from.Given as goal

-- what is there, or left, is what the list has from there on
abbrev pub invariant-loop-i : goal.invariant-loop-i
invariant-loop-i l = (q : Place) → (has_place q l.set || is_among q (drop l.i l.places)) ≡ is_among q (drop l.from l.places)
