-- What is printed, the last operand first.
use Rattle.std.proofs.Common.{◌≡◌, ap, ◌∙◌, List, [], ◌∷◌, ◌++◌}
use Rattle.std.specs.Prelude.{◌&&◌}
use Rattle.go_type.specs.Tree.{Ty}
use Rattle.go_type.specs.Named.{NamedTy}
use Rattle.go_typing.specs.Call.{is_printable, all_printable}
use Rattle.go_operands.specs.AnswerView.{operand_view}
use Rattle.go_calls.specs.declared.given.kinds.Placed.{Placed}
use Rattle.go_calls.specs.CallView.{operands_view}
use Rattle.go_calls.proofs.OrderLemmas.{view_last}

pub last_printable : (ns : List NamedTy) (ts : List Ty) (old new : List Placed) (x : Placed) → old ≡ new ++ x ∷ []
    → all_printable ns (operands_view ts old) ≡ (is_printable ns (operand_view ts x.value) && all_printable ns (operands_view ts new))
last_printable ns ts old new x h = ap (λ l. all_printable ns (operands_view ts l)) h ∙ ap (all_printable ns) (view_last ts new x)
