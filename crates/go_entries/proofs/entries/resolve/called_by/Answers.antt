use Rattle.std.proofs.Common.{sym, ap}
use Rattle.go_core.specs.Opened.{called_of}
use Rattle.go_state.proofs.Views.{callee_Function, callee_Method, callee_Value, callee_Dynamic}
use Rattle.go_entries.proofs.entries.resolve.called_by.Goals as goal

pub returns-in-Function : goal.returns-in-Function
returns-in-Function c = record { value = λ ts. sym (ap called_of (callee_Function ts c.args.callee.now _ c.in-Function.is)) }

pub returns-in-Method : goal.returns-in-Method
returns-in-Method c = record { value = λ ts. sym (ap called_of (callee_Method ts c.args.callee.now _ c.in-Method.is)) }

pub returns-in-Value : goal.returns-in-Value
returns-in-Value c = record { value = λ ts. sym (ap called_of (callee_Value ts c.args.callee.now _ c.in-Value.is)) }

pub returns-in-Dynamic : goal.returns-in-Dynamic
returns-in-Dynamic c = record { value = λ ts. sym (ap called_of (callee_Dynamic ts c.args.callee.now _ _ _ c.in-Dynamic.is)) }
