use Rattle.std.proofs.Common.{drop, map}
use Rattle.go_operands.specs.AnswerView.{flaw_view}
use Rattle.go_items.specs.ParamView.{grouped_view}
use Rattle.go_typing.specs.Walk.{Walk}
use Rattle.go_decls.proofs.ParamsNameLemmas.{Left}
use Rattle.go_decls.proofs.params.names.names_told.Given as goal

abbrev pub invariant-loop-p : goal.invariant-loop-p
invariant-loop-p l = (w : Walk) → Left w (map grouped_view (drop l.p-index l.params)) (map grouped_view l.params) (map flaw_view l.initial.flaws.items) (map flaw_view l.flaws.items) l.seen
