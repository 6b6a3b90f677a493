use Rattle.std.proofs.Common.{◌≡◌, List, ap, arith, length, rules, sym, subst}
use Rattle.std.specs.Prelude.{Option}
use Rattle.go_type.specs.Table.{places, names}
use Rattle.go_sound_parts.specs.declared.measures.Measure.{Measure}
use Rattle.go_sound_parts.specs.Measures.{AreKnown}
use Rattle.go_sound_parts.proofs.MeasureLemmas.{known_taken}
use Rattle.go_sound_parts.proofs.measures.measures_of.Goals as goal

pub returns : goal.returns
returns c = record {
  is =
      let w = c.args.table.now in
      let xs = c.all_turns.new.measures in
      let e : c.as_mut_slice.result.now ≡ c.in_ok-measures.measures.items = search rules in
      let n : length xs ≡ c.in_ok-measures.measures.len = omega (arith, ap length c.as_mut_slice.ensures.value, c.as_mut_slice.ensures.len, c.all_turns.auto.measures) in
      known_taken (names w) (places w) xs _ _ n
      (c.all_turns.ensures.is (subst (λ (zs : List (Option Measure)). AreKnown (names w) (places w) zs) (sym e) (c.in_ok-measures.ensures.is (names w) (places w))));
}
