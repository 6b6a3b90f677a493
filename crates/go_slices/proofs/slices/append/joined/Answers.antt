use Rattle.std.proofs.Common.{◌≡◌, ◌∙◌, ◌++◌, ap, rules, List}
use Rattle.std.proofs.lemmas.List.{map-append}
use Rattle.go_type.specs.Table.{places}
use Rattle.go_core.specs.Memory as core
use Rattle.go_core.specs.StepMemory.{repeated}
use Rattle.go_values.specs.ValuesSeen.{scalar_of, value_of}
use Rattle.go_values.specs.declared.values.scalar.Scalar.{Scalar}
use Rattle.go_slices.proofs.slices.append.joined.Goals as goal

pub returns : goal.returns
returns c =
    let ts = places c.args.c.now.table.now in
    let old = c.args.old.now in
    let more = c.args.more.now in
    let rest = repeated c.args.free (value_of ts c.in_ok-zeros.zeros.now) in
    let e : c.extend_from_slice-2.new.self.items ≡ old ++ more = search rules in
    record {
      value =
          ap (value_of ts) (c.in_ok-copy.ensures ∙ c.as_slice.ensures.value)
          ∙ c.in_ok-push_repeated.ensures.value ts
          ∙ ap (λ (xs : List Scalar). value_of ts xs ++ rest) e
          ∙ ap (λ (xs : List core.Scalar). xs ++ rest) (map-append (scalar_of ts) old more)
          ∙ ap (λ (xs : List core.Scalar). value_of ts old ++ value_of ts more ++ repeated c.args.free xs) c.in_ok-zeros.ensures.value;
    }
