use Rattle.std.proofs.Common.{refl, arith, get_or, [], List}
use Rattle.std.specs.Borrow.{Bor}
use Rattle.go_values.specs.declared.values.scalar.Scalar.{Scalar}
use Rattle.go_values.proofs.TextLemmas.{line_step}
use Rattle.go_values.proofs.values.output.push_rest_of_line.Goals as goal

abbrev nothing : Bor (List Scalar)
nothing = record { ref_ptr = (0, 0); now = [] }

pub values-preserved : goal.values-preserved
values-preserved c = λ ts.
    line_step ts _ _ _ _ c.args.values.now c.values.i (get_or c.args.values.now c.values.i nothing) nothing (omega (arith, c.values-test.true)) refl c.in_ok-push.ensures.items (c.in_ok-push_value.ensures.value ts) (c.values.invariant ts)
