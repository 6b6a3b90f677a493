use Rattle.std.proofs.Common.{◌≡◌, ◌||◌, drop}
use Rattle.gj_base.specs.declared.place.Place.{Place}
use Rattle.go_walk.specs.SetsHas.{has_place}
use Rattle.go_typing.specs.Walk.{is_among}
use Rattle.go_walk.proofs.walk.unused.set_of.Given as goal

-- what is there, or left, is what the list has
abbrev pub invariant-loop-p : goal.invariant-loop-p
invariant-loop-p l = (q : Place) → (has_place q l.set || is_among q (drop l.p-index l.places)) ≡ is_among q l.places
