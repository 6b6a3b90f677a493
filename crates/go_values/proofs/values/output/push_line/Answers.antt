use Rattle.std.proofs.Common.{◌≡◌, ◌∙◌, ◌∷◌, ◌++◌, sym, ap, rules, ℕ, List}
use Rattle.std.specs.Borrow.{Bor}
use Rattle.std.proofs.lemmas.List.{append_assoc}
use Rattle.std.proofs.lemmas.Result.{on_ok_weaker}
use Rattle.go_core.specs.Text.{rest_of_line, line_of, texts_of, value_text}
use Rattle.go_values.specs.ValuesSeen.{value_of, values_of}
use Rattle.go_values.specs.declared.values.scalar.Scalar.{Scalar}
use Rattle.go_values.proofs.values.output.push_line.Goals as goal

pub returns-in_ok-push_value-in-Some : goal.returns-in_ok-push_value-in-Some
returns-in_ok-push_value-in-Some c =
    let e : c.args.values.now ≡ c.in-Some.first.now ∷ c.in-Some.others.now = search rules in
    record {
      value = on_ok_weaker c.push_rest_of_line.result (λ h ts.
          h ts
          ∙ ap (λ (xs : List ℕ). xs ++ rest_of_line (texts_of (values_of ts c.in-Some.others.now))) (c.in_ok-push_value-in-Some.ensures.value ts)
          ∙ append_assoc c.args.text.now.items (value_text (value_of ts c.in-Some.first.now.now)) (rest_of_line (texts_of (values_of ts c.in-Some.others.now)))
          ∙ ap (λ (vs : List (Bor (List Scalar))). c.args.text.now.items ++ line_of (texts_of (values_of ts vs))) (sym e)) c.push_rest_of_line.ensures.value;
    }
