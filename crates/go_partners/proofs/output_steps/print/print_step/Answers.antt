use Rattle.std.proofs.Common.{◌≡◌, ◌∙◌, ◌∷◌, ◌+◌, ◌-◌, [], sym, ap, arith, length, ℕ, List}
use Rattle.std.specs.Prelude.{Some}
use Rattle.std.specs.Borrow.{Bor}
use Rattle.go_core.specs.GoStep as steps
use Rattle.go_core.specs.Goroutine.{moved}
use Rattle.go_core.specs.Text.{output_of}
use Rattle.go_values.specs.ValuesSeen.{values_of}
use Rattle.go_values.specs.declared.values.scalar.Scalar.{Scalar}
use Rattle.go_state.specs.StateSeen.{frame_of}
use Rattle.go_partners.specs.Tells.{with_printed}
use Rattle.go_partners.proofs.TellLemmas.{printed_none, bytes_more, bytes_kept}
use Rattle.go_partners.proofs.output_steps.print.print_step.Goals as goal

pub returns-in_err-xs : goal.returns-in_err-xs
returns-in_err-xs c = record {
  value = λ p choices free ts.
      printed_none ts c.from_residual.result c.in_err-xs.field-0.0 c.args.f.now c.operands.new.f c.args.printed.now.items c.args.printed.now.items
      (λ g. steps.print_step p choices free g c.args.count c.args.ends_line) c.from_residual.ensures.1
      (λ g below s. c.in_err-xs.ensures.value ts (λ vs f'. steps.with_printed p choices free g (output_of c.args.ends_line vs) f' below (with_printed c.args.printed.now.items s)));
}

pub overflow_sub-result : goal.overflow_sub-result
overflow_sub-result c =
    let out = output_of c.args.ends_line (values_of [] c.as_slice.result.now) in
    let kept = bytes_kept c.args.printed.now.items c.push_output.new.text.items out (c.in_ok-push_output.ensures.value []) in
    omega (arith, kept, c.len.ensures, c.len-before.ensures, c.args.printed.now.ok.0, c.push_output.new.text.ok.0)

pub returns : goal.returns
returns c = record {
  value = λ p choices free ts g below s.
      let f1 = frame_of ts c.operands.new.f in
      let old = c.args.printed.now.items in
      let new = c.push_output.new.text.items in
      let s0 = with_printed old s in
      let out = output_of c.args.ends_line (values_of ts c.as_slice.result.now) in
      let grown = c.in_ok-push_output.ensures.value ts in
      let counted = bytes_more old new out grown in
      let units : length out ≡ c.len.result - c.len-before.result = omega (arith, counted, c.len.ensures, c.len-before.ensures, c.args.printed.now.ok.0, c.push_output.new.text.ok.0) in
      c.in_ok-xs.ensures.value ts (λ vs f'. steps.with_printed p choices free g (output_of c.args.ends_line vs) f' below s0)
      ∙ ap (λ (xs : List (Bor (List Scalar))). steps.with_printed p choices free g (output_of c.args.ends_line (values_of ts xs)) f1 below s0) (sym c.as_slice.ensures.value)
      ∙ ap (λ (b : List ℕ). Some (with_printed b (moved g (f1 ∷ below) (1 + length out) s))) (sym grown)
      ∙ ap (λ (n : ℕ). Some (with_printed new (moved g (f1 ∷ below) (1 + n) s))) units;
}
