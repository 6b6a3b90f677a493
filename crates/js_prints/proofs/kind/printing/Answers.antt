use Rattle.std.proofs.Common.{◌∙◌, sym, ap, Bool, ◌&&◌}
use Rattle.go_core.specs.CoreView.{func_view}
use Rattle.js_prints.specs.Prints.{all_print, has_no_numbers}
use Rattle.js_prints.proofs.kind.printing.Goals as goal

pub returns-then-has_no_results : goal.returns-then-has_no_results
returns-then-has_no_results c = record {
  value = λ ts.
      let alone = has_no_numbers (func_view ts c.args.f.now).captured && all_print (func_view ts c.args.f.now).body in
      c.prints_alone.ensures.value ts ∙ ap (λ (b : Bool). b && alone) (sym c.if-has_no_results.true ∙ c.has_no_results.ensures.value ts);
}
