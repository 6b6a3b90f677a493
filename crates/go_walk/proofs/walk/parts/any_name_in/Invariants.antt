use Rattle.std.proofs.Common.{◌≡◌, List, drop}
use Rattle.gj_base.specs.declared.place.Place.{Place}
use Rattle.go_walk.specs.SetsHas.{has_place}
use Rattle.go_typing.specs.Walk.{is_among}
use Rattle.go_walk.proofs.PartLemmas.{any_named}
use Rattle.go_walk.proofs.walk.parts.any_name_in.Given as goal

-- one of those that are left is, where one of all is
abbrev pub invariant-loop-n : goal.invariant-loop-n
invariant-loop-n l = (ps : List Place) → ((q : Place) → has_place q l.set ≡ is_among q ps) → any_named (drop l.n-index l.names) ps ≡ any_named l.names ps
