use Rattle.std.proofs.Common.{sym, subst, arith, List}
use Rattle.std.proofs.lemmas.List.{length-map}
use Rattle.go_type.specs.Table.{places}
use Rattle.go_core.specs.Calls as calls
use Rattle.go_core.specs.CoreView.{program_view, var_of}
use Rattle.go_core.specs.Goroutine.{with_memory}
use Rattle.go_values.proofs.Only.{only}
use Rattle.go_values.specs.ValuesSeen.{scalar_of, value_of, memory_of}
use Rattle.go_values.specs.declared.values.scalar.Scalar.{Scalar}
use Rattle.go_state.specs.StateSeen.{frame_of}
use Rattle.go_state.specs.Goes.{Goes}
use Rattle.go_entries.proofs.CallStepsStepLemmas.{not_one_read}
use Rattle.go_entries.proofs.call_steps.calls.read_by.Goals as goal

pub returns-in-len1 : goal.returns-in-len1
returns-in-len1 c =
    let q = program_view c.args.p.now in
    let ts = places c.args.p.now.types in
    let v = var_of ts c.args.var in
    let e = only c.args.cells.now c.x-item.result c.in-len1.len_at_least c.in-len1.len_below c.x-item.is in
    record {
      value =
          subst (λ (xs : List Scalar). Goes q ts c.read_in.result c.args.f.now c.args.f.now c.args.m.now c.read_in.new.m (λ g y below s. calls.read_through q g v below s (value_of ts xs) y)) (sym e)
          c.read_in.ensures.value;
    }

pub returns-in_default : goal.returns-in_default
returns-in_default c =
    let q = program_view c.args.p.now in
    let ts = places c.args.p.now.types in
    let v = var_of ts c.args.var in
    record {
      value = λ g below s.
          not_one_read q g v below (with_memory (memory_of ts c.args.m.now) s) (frame_of ts c.args.f.now) (value_of ts c.args.cells.now) (λ e.
          let n = length-map c.args.cells.now (scalar_of ts) in omega (arith, e, n, c.in_default.len_below));
    }
