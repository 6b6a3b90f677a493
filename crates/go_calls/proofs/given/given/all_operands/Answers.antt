use Rattle.std.proofs.Common.{◌++◌, ap, sym, ◌∙◌}
use Rattle.std.proofs.lemmas.List.{nil_from_length}
use Rattle.go_type.specs.Table.{places, size}
use Rattle.go_typing.specs.Wanted.{operands_of}
use Rattle.go_operands.specs.Parts.{PartBelow}
use Rattle.go_calls.specs.CallView.{parts_view, operands_view}
use Rattle.go_calls.proofs.OrderLemmas.{operands_step, rest_of_all, last_among}
use Rattle.go_calls.proofs.given.given.all_operands.Goals as goal

pub and_operand-requires-clause-within : goal.and_operand-requires-clause-within
and_operand-requires-clause-within c = last_among (PartBelow (size c.args.table.now)) c.parts.parts.items c.pop.new.self.items c.in-Some.part c.in-Some.ensures.items c.parts.invariant.parts

pub parts-preserved : goal.parts-preserved
parts-preserved c = record {
  view = operands_step (places c.args.table.now) c.parts.parts.items c.pop.new.self.items c.in-Some.part c.parts.operands.items c.and_operand.new.operands.items _ c.in-Some.ensures.items c.in_ok-and_operand.ensures.view c.parts.invariant.view;
  parts = rest_of_all (PartBelow (size c.args.table.now)) c.parts.parts.items c.pop.new.self.items c.in-Some.part c.in-Some.ensures.items c.parts.invariant.parts;
  operands = c.in_ok-and_operand.ensures.within;
}

pub returns : goal.returns
returns c = record {
  view =
      ap (λ l. operands_of (parts_view (places c.args.table.now) l) ++ operands_view (places c.args.table.now) c.parts.operands.items) (sym (nil_from_length c.parts.parts.items (sym c.parts.parts.ok.0 ∙ c.in_default.ensures.cases.0)))
      ∙ c.parts.invariant.view;
  within = c.parts.invariant.operands;
}
