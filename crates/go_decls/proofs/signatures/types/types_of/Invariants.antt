use Rattle.std.proofs.Common.{drop, map}
use Rattle.go_operands.specs.AnswerView.{flaw_view}
use Rattle.go_items.specs.ParamView.{grouped_view}
use Rattle.go_decls.proofs.ParamLemmas.{Typed}
use Rattle.go_decls.proofs.signatures.types.types_of.Given as goal

abbrev pub invariant-loop-p : goal.invariant-loop-p
invariant-loop-p l = Typed l.initial.env l.env (map grouped_view (drop l.p-index l.params)) (map grouped_view l.params) (map flaw_view l.initial.flaws.items) (map flaw_view l.flaws.items) l.all.items
