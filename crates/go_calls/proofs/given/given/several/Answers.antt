use Rattle.std.proofs.Common.{ap, sym, ◌∙◌, arith}
use Rattle.go_type.specs.Table.{places, size}
use Rattle.go_operands.specs.Parts.{PartBelow}
use Rattle.go_calls.specs.CallView.{parts_view}
use Rattle.go_calls.specs.GivenView.{has_several, given_or_not}
use Rattle.go_calls.proofs.GivenGivenLemmas.{only_part, several_there}
use Rattle.go_calls.proofs.OrderLemmas.{last_among}
use Rattle.go_calls.proofs.given.given.several.Goals as goal

pub take_last-part-requires : goal.take_last-part-requires
take_last-part-requires c =
    let some = several_there (places c.args.table.now) c.args.parts.items c.requires.several in
    let counted = c.args.parts.ok.0 in
    omega (arith, some, counted)

pub several_of-requires-clause-within : goal.several_of-requires-clause-within
several_of-requires-clause-within c = last_among (PartBelow (size c.args.table.now)) c.args.parts.items c.take_last-part.new.self.items c.take_last-part.result c.take_last-part.ensures.items c.requires.within

pub several_of-requires-clause-several : goal.several_of-requires-clause-several
several_of-requires-clause-several c =
    let ts = places c.args.table.now in
    let e = ap (parts_view ts) c.take_last-part.ensures.items in
    let one = only_part ts c.take_last-part.new.self.items c.take_last-part.result (sym (ap has_several e) ∙ c.requires.several) in
    sym (ap has_several one) ∙ sym (ap has_several e) ∙ c.requires.several

pub returns-clause-view : goal.returns-clause-view
returns-clause-view c =
    let ts = places c.args.table.now in
    let e = ap (parts_view ts) c.take_last-part.ensures.items in
    let one = only_part ts c.take_last-part.new.self.items c.take_last-part.result (sym (ap has_several e) ∙ c.requires.several) in
    c.several_of.ensures.view ∙ sym (ap given_or_not (e ∙ one))
