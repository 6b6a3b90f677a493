-- Operands that were taken from a stack whose top lies last.
use Rattle.std.specs.Prelude.{List, Option, Some, None}
use Rattle.std.specs.Borrow.{Bor}
use Rattle.std.specs.Global.{Vec}
use Rattle.go_type.specs.Tree.{Ty}
use Rattle.go_core.specs.Goroutine.{Popped}
use Rattle.go_values.specs.ValuesSeen.{values_of}
use Rattle.go_values.specs.declared.values.scalar.Scalar.{Scalar}
use Rattle.go_state.specs.StateSeen.{stack_of}

-- the operands, if any, and the stack that is left
abbrev pub popped_as : List Ty → Option (Vec (Bor (List Scalar))) → List (Bor (List Scalar)) → Option Popped
popped_as ts None left = None
popped_as ts (Some operands) left = Some (record { operands = values_of ts operands.items; others = stack_of ts left })
