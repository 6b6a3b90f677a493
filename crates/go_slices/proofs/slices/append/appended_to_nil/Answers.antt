use Rattle.std.proofs.Common.{◌≡◌, ◌∙◌, ◌∷◌, ◌≤◌, ◌<◌, [], refl, sym, ap, arith, ℕ, zero, suc}
use Rattle.std.proofs.lemmas.Bool.{lt-ltb, le-ltb}
use Rattle.go_type.specs.Levels.{tree_of}
use Rattle.go_type.specs.Table.{places, names}
use Rattle.go_core.specs.Did.{panics}
use Rattle.go_core.specs.Layout.{Shape, shape_of}
use Rattle.go_core.specs.Memory as core
use Rattle.go_core.specs.Memory.{Memory, Value}
use Rattle.go_core.specs.RunPanic.{bad_size}
use Rattle.go_core.specs.StepNumbers.{most_elements}
use Rattle.go_core.specs.StepSlices.{appended, appended_anew, new_capacity}
use Rattle.go_values.specs.ValuesSeen.{value_of, memory_of}
use Rattle.go_values.proofs.Steps.{goes}
use Rattle.go_slices.proofs.Steps.{stops, if_true, if_false}
use Rattle.go_slices.proofs.slices.append.appended_to_nil.Goals as goal

too_many : (s : Shape) (wanted : ℕ) (more : Value) (n : ℕ) (m : Memory) → most_elements < n → appended s wanted (core.nil ∷ []) more n m ≡ panics bad_size 0
too_many s wanted more zero m h = absurd (omega (arith, h))
too_many s wanted more (suc n) m h = if_true _ _ _ (lt-ltb most_elements (suc n) h)

beside : (s : Shape) (wanted : ℕ) (more : Value) (n : ℕ) (m : Memory) → ¬ (n ≡ 0) → n ≤ most_elements → appended s wanted (core.nil ∷ []) more n m ≡ appended_anew s n (new_capacity n wanted) [] more m
beside s wanted more zero m z h = absurd (z refl)
beside s wanted more (suc n) m z h = if_false _ _ _ (le-ltb most_elements (suc n) h)

pub returns-then-more-gt-MOST_ELEMENTS : goal.returns-then-more-gt-MOST_ELEMENTS
returns-then-more-gt-MOST_ELEMENTS c =
    let w = c.args.c.now.table.now in
    let ts = places w in
    record {
      value =
          stops c.too_big.result _ _
          (too_many (shape_of (names w) (tree_of ts c.args.t)) c.args.wanted (value_of ts c.args.more.cells.now) c.args.more.count (memory_of ts c.args.m.now) (omega (arith, c.if-more-gt-MOST_ELEMENTS.true)))
          c.too_big.ensures.value;
    }

pub returns : goal.returns
returns c =
    let w = c.args.c.now.table.now in
    let ts = places w in
    let s = memory_of ts c.args.m.now in
    let shape = shape_of (names w) (tree_of ts c.args.t) in
    let more = value_of ts c.args.more.cells.now in
    record {
      value =
          goes ts s c.appended_anew.result _ _
          (beside shape c.args.wanted more c.args.more.count s c.if-more-eq0.false (omega (arith, c.if-more-gt-MOST_ELEMENTS.false))
          ∙ ap (λ (n : ℕ). appended_anew shape c.args.more.count n [] more s) (sym c.new_capacity-capacity.ensures.value))
          c.appended_anew.ensures.value;
    }
