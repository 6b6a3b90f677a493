use Rattle.std.proofs.Common.{◌∙◌, ◌∷◌, [], sym, ap, ℕ}
use Rattle.go_type.specs.Levels.{tree_of}
use Rattle.go_type.specs.Table.{places, names}
use Rattle.go_core.specs.Did.{gives}
use Rattle.go_core.specs.Layout.{shape_of}
use Rattle.go_core.specs.Memory as core
use Rattle.go_core.specs.Memory.{Value, next_base, with_fresh, zeros}
use Rattle.go_values.specs.ValuesSeen.{value_of, memory_of}
use Rattle.go_values.proofs.ScalarLemmas.{pointer_seen}
use Rattle.go_values.proofs.operators.places.new_step.Goals as goal

pub returns : goal.returns
returns c =
    let w = c.args.c.now.table.now in
    let ts = places w in
    let s = memory_of ts c.args.m.now in
    let shape = shape_of (names w) (tree_of ts c.args.t) in
    let units = c.in_ok-units.units in
    let pointer =
    c.in_ok-pointer.ensures.value ts
    ∙ ap (λ (x : core.Scalar). x ∷ []) (pointer_seen ts c.next_base.result ∙ ap (λ (n : ℕ). core.pointer n) (c.next_base.ensures.value ts)) in
    record {
      value =
          sym (c.gives_fresh.ensures.value ts s
          ∙ ap (λ (v : Value). gives (v ∷ []) (with_fresh s (value_of ts c.in_ok-zeros.zeros.now)) units) pointer
          ∙ ap (λ (xs : Value). gives ((core.pointer (next_base s) ∷ []) ∷ []) (with_fresh s xs) units) c.in_ok-zeros.ensures.value
          ∙ ap (λ (n : ℕ). gives ((core.pointer (next_base s) ∷ []) ∷ []) (with_fresh s (zeros shape)) n) c.in_ok-units.ensures.value);
    }
