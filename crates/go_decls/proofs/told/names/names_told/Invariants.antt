use Rattle.std.proofs.Common.{drop, map}
use Rattle.go_operands.specs.AnswerView.{flaw_view}
use Rattle.go_items.specs.ItemView.{item_view}
use Rattle.go_decls.proofs.ToldNameLemmas.{Left}
use Rattle.go_decls.proofs.told.names.names_told.Given as goal

abbrev pub invariant-loop-item : goal.invariant-loop-item
invariant-loop-item l = Left (map item_view (drop l.item-index l.items)) (map item_view l.items) (map flaw_view l.initial.flaws.items) (map flaw_view l.flaws.items) l.seen
