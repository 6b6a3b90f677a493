use Rattle.std.proofs.Common.{◌≡◌, ◌∙◌, ◌++◌, ◌-◌, ap, arith, rules, ℕ}
use Rattle.std.proofs.lemmas.List.{map-append}
use Rattle.go_core.specs.StepMemory.{repeated}
use Rattle.go_values.specs.ValuesSeen.{scalar_of, value_of}
use Rattle.go_slices.proofs.SlicesListLemmas.{repeated_step, repeated_end}
use Rattle.go_slices.proofs.slices.fresh.push_repeated.Goals as goal

pub copies-init : goal.copies-init
copies-init c = λ ts.
    let e : c.args.count - 0 ≡ c.args.count = omega arith in
    ap (λ (n : ℕ). value_of ts c.args.cells.now.items ++ repeated n (value_of ts c.args.zeros.now)) e

pub copies-preserved : goal.copies-preserved
copies-preserved c = λ ts.
    let e : c.extend_from_slice.new.self.items ≡ c.copies.cells.items ++ c.args.zeros.now = search rules in
    repeated_step (value_of ts c.copies.cells.items) (value_of ts c.extend_from_slice.new.self.items) _ (value_of ts c.args.zeros.now) c.args.count c.copies._i (omega (arith, c.copies-test.true))
    (ap (value_of ts) e ∙ map-append (scalar_of ts) c.copies.cells.items c.args.zeros.now) (c.copies.invariant ts)

pub returns : goal.returns
returns c = record { value = λ ts. repeated_end (value_of ts c.copies.cells.items) _ (value_of ts c.args.zeros.now) c.args.count c.copies._i (omega (arith, c.copies-test.false)) (c.copies.invariant ts) }
