use Rattle.std.proofs.Common.{◌≡◌, ap, ◌∙◌, ◌++◌, rules, codes, ℕ, List}
use Rattle.std.proofs.lemmas.List.{append_assoc}
use Rattle.go_core.specs.RunPanic.{index_text}
use Rattle.go_values.proofs.values.run_panic.push_bad_index.Goals as goal

pub returns : goal.returns
returns c =
    let told = index_text c.args.index c.args.length in
    let e : c.push_index.new.text.items ≡ c.push.new.text.items ++ told = search rules in
    record {
      value = e ∙ ap (λ (xs : List ℕ). xs ++ told) c.in_ok-push.ensures.value ∙ append_assoc c.args.text.now.items (codes "runtime error: index out of range [") told;
    }
