use Rattle.std.proofs.Common.{◌≡◌, length, arith}
use Rattle.go_type.specs.Table.{places, size}
use Rattle.go_calls.specs.CallView.{PlacedBelow}
use Rattle.go_calls.proofs.OrderLemmas.{last_among, only_operand}
use Rattle.go_calls.proofs.calls.length.length.Goals as goal

pub one-requires-clause-within : goal.one-requires-clause-within
one-requires-clause-within c = last_among (PlacedBelow (size c.args.table.now)) c.args.operands.items c.take_last-x.new.self.items c.take_last-x.result c.take_last-x.ensures.items c.requires.within

pub returns-clause-view : goal.returns-clause-view
returns-clause-view c =
    let count : length c.args.operands.items ≡ 1 = grind arith in
    rw (only_operand (places c.args.table.now) c.args.operands.items c.take_last-x.new.self.items c.take_last-x.result c.take_last-x.ensures.items count) c.one.ensures.view
