use Rattle.std.proofs.Common.{◌≡◌, ◌∷◌, ◌++◌, [], ap, sym, ◌∙◌, rules}
use Rattle.std.specs.Prelude.{true, false, ◌&&◌}
use Rattle.go_type.specs.Table.{places, names, size}
use Rattle.go_typing.specs.Call.{is_printable, all_printable}
use Rattle.go_operands.specs.AnswerView.{operand_view}
use Rattle.go_calls.specs.CallView.{operands_view, PlacedBelow}
use Rattle.go_calls.proofs.OrderLemmas.{rest_of_all, last_among}
use Rattle.go_calls.proofs.PrintLemmas.{last_printable}
use Rattle.go_calls.proofs.calls.printing.all_printable.Goals as goal

pub is_printable-requires : goal.is_printable-requires
is_printable-requires c =
    let e : c.operands.rest.now ≡ c.in-Some.others.now ++ c.in-Some.x.now ∷ [] = search rules in
    record { within = last_among (PlacedBelow (size c.args.table.now)) c.operands.rest.now c.in-Some.others.now c.in-Some.x.now e c.operands.invariant.within }

pub returns-then-not-is_printable : goal.returns-then-not-is_printable
returns-then-not-is_printable c =
    let ts = places c.args.table.now in
    let ns = names c.args.table.now in
    let e : c.operands.rest.now ≡ c.in-Some.others.now ++ c.in-Some.x.now ∷ [] = search rules in
    let b = is_printable ns (operand_view ts c.in-Some.x.now.value) in
    let f : b ≡ false = cc in
    sym (last_printable ns ts c.operands.rest.now c.in-Some.others.now c.in-Some.x.now e ∙ ap (λ k. k && all_printable ns (operands_view ts c.in-Some.others.now)) f) ∙ c.operands.invariant.printable

pub operands-preserved : goal.operands-preserved
operands-preserved c =
    let ts = places c.args.table.now in
    let ns = names c.args.table.now in
    let e : c.operands.rest.now ≡ c.in-Some.others.now ++ c.in-Some.x.now ∷ [] = search rules in
    let b = is_printable ns (operand_view ts c.in-Some.x.now.value) in
    let f : b ≡ true = cc in
    record {
      printable = sym (last_printable ns ts c.operands.rest.now c.in-Some.others.now c.in-Some.x.now e ∙ ap (λ k. k && all_printable ns (operands_view ts c.in-Some.others.now)) f) ∙ c.operands.invariant.printable;
      within = rest_of_all (PlacedBelow (size c.args.table.now)) c.operands.rest.now c.in-Some.others.now c.in-Some.x.now e c.operands.invariant.within;
    }
