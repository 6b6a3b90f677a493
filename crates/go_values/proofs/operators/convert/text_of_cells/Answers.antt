use Rattle.std.proofs.Common.{◌∙◌, ◌++◌, sym, ap, ℕ, List}
use Rattle.go_core.specs.StepNumbers.{made_text, text_of_slice}
use Rattle.go_values.specs.ValuesSeen.{value_of}
use Rattle.go_values.proofs.Steps.{goes}
use Rattle.go_values.proofs.operators.convert.text_of_cells.Goals as goal

pub returns : goal.returns
returns c = record {
  value = λ ts m.
      let text = c.as_slice.ensures.value ∙ c.in_ok-push_text_of.ensures.value ts ∙ ap (λ (old : List ℕ). old ++ text_of_slice c.args.kind (value_of ts c.args.cells.now)) c.new-text.ensures.items in
      goes ts m c.made_text.result _ _ (ap (made_text m) (sym text)) (c.made_text.ensures.value ts m);
}
