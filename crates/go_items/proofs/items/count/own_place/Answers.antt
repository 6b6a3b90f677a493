use Rattle.std.proofs.Common.{sym, ap}
use Rattle.std.specs.Prelude.{Option}
use Rattle.go_syntax.specs.declared.tree.Params.{Params}
use Rattle.go_items.specs.PlaceSearch.{own_place}
use Rattle.go_items.proofs.items.count.own_place.Goals as goal

pub returns-in-None : goal.returns-in-None
returns-in-None c = record { value = sym (ap (λ (r : Option Params). own_place r c.args.at) c.in-None.is) }

pub returns-in-Some : goal.returns-in-Some
returns-in-Some c = record { value = sym (ap (λ (r : Option Params). own_place r c.args.at) c.in-Some.is) }
