use Rattle.std.proofs.Common.{ap, List, ◌++◌, map}
use Rattle.gj_base.specs.declared.place.Place.{Place}
use Rattle.go_operands.specs.AnswerView.{flaw_view}
use Rattle.go_typing.specs.Statements.{flaw_places}
use Rattle.go_body.proofs.WholeLemmas.{places_next, places_last}
use Rattle.go_body.proofs.leaf.whole.places_of.Goals as goal

pub loop-one-init : goal.loop-one-init
loop-one-init c = ap (λ (ps : List Place). ps ++ flaw_places (map flaw_view c.args.flaws.now)) c.new-places.ensures.items

pub loop-one-preserved : goal.loop-one-preserved
loop-one-preserved c =
    places_next c.args.flaws.now c.loop-one.one-index c.one-item.result c.loop-one.places.items c.push.new.self.items (flaw_places (map flaw_view c.args.flaws.now)) c.loop-one-test.true c.one-item.is c.in_ok-push.ensures.items c.loop-one.invariant

pub returns : goal.returns
returns c = record { value = places_last c.args.flaws.now c.loop-one.one-index c.loop-one.places.items (flaw_places (map flaw_view c.args.flaws.now)) c.loop-one-test.false c.loop-one.invariant }
