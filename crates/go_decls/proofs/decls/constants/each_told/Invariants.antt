use Rattle.std.proofs.Common.{drop, map}
use Rattle.go_operands.specs.AnswerView.{flaw_view}
use Rattle.go_calls.specs.Words.{types_of}
use Rattle.go_assign.specs.SpecView.{spec_view}
use Rattle.go_decls.proofs.DeclsConstantLemmas.{values_told}
use Rattle.go_decls.proofs.DeclLemmas.{Goes}
use Rattle.go_decls.proofs.decls.constants.each_told.Given as goal

abbrev pub invariant-loop-y : goal.invariant-loop-y
invariant-loop-y l =
    Goes (λ w es. values_told w (spec_view (types_of l.initial.env) l.ty) es) l.initial.env l.env (drop l.y-index l.values) l.values (map flaw_view l.initial.flaws.items) (map flaw_view l.flaws.items)
