use Rattle.std.proofs.Common.{◌≡◌, ◌∙◌, ◌∷◌, ◌++◌, sym, ap, rules, List}
use Rattle.std.proofs.lemmas.Result.{on_ok_weaker}
use Rattle.go_core.specs.Text.{value_text}
use Rattle.go_values.specs.ValuesSeen.{value_of}
use Rattle.go_values.specs.declared.values.scalar.Scalar.{Scalar}
use Rattle.go_values.proofs.values.output.push_value.Goals as goal

pub returns-in-Some : goal.returns-in-Some
returns-in-Some c =
    let e : c.args.value.now ≡ c.in-Some.x.now ∷ c.in-Some._others.now = search rules in
    record {
      value = on_ok_weaker c.push_scalar.result (λ h ts. h ts ∙ ap (λ (v : List Scalar). c.args.text.now.items ++ value_text (value_of ts v)) (sym e)) c.push_scalar.ensures.value;
    }
