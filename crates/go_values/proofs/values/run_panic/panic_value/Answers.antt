use Rattle.std.proofs.Common.{ap, ◌∙◌, ◌++◌, [], ◌∷◌, ℕ, List}
use Rattle.go_type.specs.Levels.{tree_of}
use Rattle.go_core.specs.Memory as core
use Rattle.go_core.specs.Memory.{packed}
use Rattle.go_core.specs.RunPanic.{text_of}
use Rattle.go_values.specs.ValuesSeen.{panic_of}
use Rattle.go_values.proofs.values.run_panic.panic_value.Goals as goal

pub returns : goal.returns
returns c = record {
  value = λ ts.
      c.interface_value.ensures.value ts
      ∙ ap (λ (xs : List core.Scalar). core.interface (tree_of ts c.args.hidden) (packed xs))
      (c.in_ok-content.ensures.value ts
      ∙ ap (λ (bytes : List ℕ). core.text bytes ∷ []) (c.as_slice.ensures.value ∙ c.in_ok-push_text.ensures.value ∙ ap (λ (old : List ℕ). old ++ text_of (panic_of c.args.panic)) c.new-text.ensures.items));
}
