use Rattle.std.proofs.Common.{◌∙◌, ◌<◌, ◌≤◌, sym, ap, arith, length, map, ℕ}
use Rattle.std.specs.Prelude.{Option}
use Rattle.std.proofs.lemmas.List.{length-map}
use Rattle.std.proofs.lemmas.Option.{slice_get_past}
use Rattle.go_core.specs.Control.{entries_of}
use Rattle.go_core.specs.StepMaps.{entries_in}
use Rattle.go_values.specs.ValuesSeen.{entry_of, map_of, memory_of}
use Rattle.go_state.proofs.ListLemmas.{there_map}
use Rattle.go_state.proofs.ranges.entries.entries_of.Goals as goal

pub returns-then-name-len : goal.returns-then-name-len
returns-then-name-len c = record {
  value = λ ts p g.
      let maps = c.args.m.now.maps.items in
      let name = c.in-Some.name in
      let counted = c.args.m.now.maps.ok.0 in
      let h : name < length maps = omega (arith, c.if-name-len.true, c.len.ensures, counted) in
      ap (map (entry_of ts)) c.as_slice.ensures.value
      ∙ sym (ap (λ (o : Option ℕ). entries_of p g o (memory_of ts c.args.m.now)) c.in-Some.is
      ∙ ap entries_in (there_map (map_of ts) maps name c.index.result.now c.index.result.now h c.index.ensures));
}

pub returns-else-name-len : goal.returns-else-name-len
returns-else-name-len c = record {
  value = λ ts p g.
      let maps = c.args.m.now.maps.items in
      let name = c.in-Some.name in
      let counted = c.args.m.now.maps.ok.0 in
      let h : length (map (map_of ts) maps) ≤ name = omega (arith, c.if-name-len.false, c.len.ensures, counted, length-map maps (map_of ts)) in
      sym (ap (λ (o : Option ℕ). entries_of p g o (memory_of ts c.args.m.now)) c.in-Some.is
      ∙ ap entries_in (slice_get_past (map (map_of ts) maps) name h));
}
