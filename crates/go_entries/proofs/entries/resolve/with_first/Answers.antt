use Rattle.std.proofs.Common.{◌∙◌, ◌++◌, ◌∷◌, [], ap, List}
use Rattle.std.specs.Borrow.{Bor}
use Rattle.go_values.specs.ValuesSeen.{values_of}
use Rattle.go_values.specs.declared.values.scalar.Scalar.{Scalar}
use Rattle.go_entries.proofs.entries.resolve.with_first.Goals as goal

pub returns : goal.returns
returns c =
    let others = c.args.others.now in
    record {
      value = λ ts.
          ap (values_of ts) (c.in_ok-vs.ensures.value ∙ c.as_slice.ensures.value ∙ c.in_ok-extend_from_slice.ensures.items)
          ∙ ap (λ (xs : List (Bor (List Scalar))). values_of ts (xs ++ others)) (c.in_ok-push.ensures.items ∙ ap (λ (xs : List (Bor (List Scalar))). xs ++ c.args.first ∷ []) c.new-operands.ensures.items);
    }
