use Rattle.std.proofs.Common.{refl, ap, sym, arith, ◌+◌}
use Rattle.go_core.specs.Opened.{targets_first}
use Rattle.go_core.specs.CoreView.{expr_view, place_view}
use Rattle.go_core.specs.declared.statement.Target.TheVariants as target
use Rattle.go_state.specs.TasksSeen.{targets_from}
use Rattle.go_state.specs.Weight.{expr_weight, place_weight, targets_weight}
use Rattle.go_state.proofs.ListsLemmas.{target_next, one_less, two_less, three_less}
use Rattle.go_state.proofs.tasks.open_lists.open_targets.Goals as goal

pub returns-in-Blank-clause-value : goal.returns-in-Blank-clause-value
returns-in-Blank-clause-value c = λ ts rest. ap (λ xs. targets_first xs rest) (sym (target_next ts c.args.list.now c.args.list.now.items.items c.args.at c.index.result.now target.Blank refl (omega (arith, c.if-at-len.false, c.len.ensures)) c.index.ensures c.in-Blank.is))

pub returns-in-Blank-clause-smaller : goal.returns-in-Blank-clause-smaller
returns-in-Blank-clause-smaller c = λ ts. one_less (targets_weight (targets_from ts c.args.list.now (c.args.at + 1))) (targets_weight (targets_from ts c.args.list.now c.args.at)) (ap targets_weight (target_next ts c.args.list.now c.args.list.now.items.items c.args.at c.index.result.now target.Blank refl (omega (arith, c.if-at-len.false, c.len.ensures)) c.index.ensures c.in-Blank.is))

pub returns-in-Place-clause-value : goal.returns-in-Place-clause-value
returns-in-Place-clause-value c = λ ts rest. ap (λ xs. targets_first xs rest) (sym (target_next ts c.args.list.now c.args.list.now.items.items c.args.at c.index.result.now (target.Place c.in-Place.ty c.in-Place.place) refl (omega (arith, c.if-at-len.false, c.len.ensures)) c.index.ensures c.in-Place.is))

pub returns-in-Place-clause-smaller : goal.returns-in-Place-clause-smaller
returns-in-Place-clause-smaller c = λ ts. two_less (place_weight (place_view ts c.in-Place.place)) (targets_weight (targets_from ts c.args.list.now (c.args.at + 1))) (targets_weight (targets_from ts c.args.list.now c.args.at)) (ap targets_weight (target_next ts c.args.list.now c.args.list.now.items.items c.args.at c.index.result.now (target.Place c.in-Place.ty c.in-Place.place) refl (omega (arith, c.if-at-len.false, c.len.ensures)) c.index.ensures c.in-Place.is))

pub returns-in-Entry-clause-value : goal.returns-in-Entry-clause-value
returns-in-Entry-clause-value c = λ ts rest. ap (λ xs. targets_first xs rest) (sym (target_next ts c.args.list.now c.args.list.now.items.items c.args.at c.index.result.now (target.Entry c.in-Entry.map_type c.in-Entry.operand c.in-Entry.key) refl (omega (arith, c.if-at-len.false, c.len.ensures)) c.index.ensures c.in-Entry.is))

pub returns-in-Entry-clause-smaller : goal.returns-in-Entry-clause-smaller
returns-in-Entry-clause-smaller c = λ ts. three_less (expr_weight (expr_view ts c.in-Entry.operand)) (expr_weight (expr_view ts c.in-Entry.key)) (targets_weight (targets_from ts c.args.list.now (c.args.at + 1))) (targets_weight (targets_from ts c.args.list.now c.args.at)) (ap targets_weight (target_next ts c.args.list.now c.args.list.now.items.items c.args.at c.index.result.now (target.Entry c.in-Entry.map_type c.in-Entry.operand c.in-Entry.key) refl (omega (arith, c.if-at-len.false, c.len.ensures)) c.index.ensures c.in-Entry.is))
