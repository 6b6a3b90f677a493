use Rattle.std.proofs.Common.{◌∙◌, sym, ap, ℕ}
use Rattle.go_type.specs.Levels.{tree_of}
use Rattle.go_type.specs.Table.{places, names}
use Rattle.go_core.specs.Layout.{shape_of}
use Rattle.go_core.specs.Did.{Did}
use Rattle.go_core.specs.Memory.{Value}
use Rattle.go_core.specs.StepSlices.{on_elements, copied}
use Rattle.go_values.specs.ValuesSeen.{value_of, memory_of}
use Rattle.go_values.proofs.Steps.{goes, stopped}
use Rattle.go_slices.proofs.slices.append.copy_of.Goals as goal

pub returns-in_err-more : goal.returns-in_err-more
returns-in_err-more c = record {
  value =
      let w = c.args.c.now.table.now in
      let ts = places w in
      let s = memory_of ts c.args.m.now in
      let f : Value → ℕ → Did = λ more count. copied (shape_of (names w) (tree_of ts c.args.t)) (value_of ts c.args.x.now) more count s in
      stopped ts s c.from_residual-in_err-more.result _ _ _ (ap (λ (n : ℕ). on_elements n (value_of ts c.args.y.now) s f) (sym c.in_ok-one.ensures.value)) c.from_residual-in_err-more.ensures.1 (c.in_err-more.ensures.value ts f);
}

pub returns : goal.returns
returns c = record {
  value =
      let w = c.args.c.now.table.now in
      let ts = places w in
      let s = memory_of ts c.args.m.now in
      let f : Value → ℕ → Did = λ more count. copied (shape_of (names w) (tree_of ts c.args.t)) (value_of ts c.args.x.now) more count s in
      goes ts s c.copied_value.result _ _ (ap (λ (n : ℕ). on_elements n (value_of ts c.args.y.now) s f) (sym c.in_ok-one.ensures.value) ∙ c.in_ok-more.ensures.value ts f) (c.copied_value.ensures.value s);
}
