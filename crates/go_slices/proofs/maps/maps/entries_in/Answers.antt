use Rattle.std.proofs.Common.{◌∙◌, ◌∷◌, ◌<◌, ◌≤◌, [], sym, ap, arith, length, map}
use Rattle.std.proofs.lemmas.List.{length-map}
use Rattle.std.proofs.lemmas.Option.{slice_get_past}
use Rattle.go_core.specs.Memory as core
use Rattle.go_core.specs.StepMaps.{entries_in, entries_at}
use Rattle.go_values.specs.ValuesSeen.{scalar_of, entry_of, map_of, memory_of}
use Rattle.go_values.specs.declared.values.scalar.Scalar.{Scalar}
use Rattle.go_slices.proofs.SlicesScalarLemmas.{map_seen}
use Rattle.go_slices.proofs.MapsListLemmas.{there_map}
use Rattle.go_slices.proofs.maps.maps.entries_in.Goals as goal

pub returns-then-name-len : goal.returns-then-name-len
returns-then-name-len c = record {
  value = λ ts.
      let s = memory_of ts c.args.m.now in
      let maps = c.args.m.now.maps.items in
      let name = c.in-Map.name in
      let counted = c.args.m.now.maps.ok.0 in
      let h : name < length maps = omega (arith, c.if-name-len.true, c.len.ensures, counted) in
      ap (map (entry_of ts)) c.as_slice.ensures.value
      ∙ sym (ap (λ (x : Scalar). entries_at (scalar_of ts x ∷ []) s) c.in-Map.is
      ∙ ap (λ (x : core.Scalar). entries_at (x ∷ []) s) (map_seen ts name)
      ∙ ap entries_in (there_map (map_of ts) maps name c.index.result.now c.index.result.now h c.index.ensures));
}

pub returns-else-name-len : goal.returns-else-name-len
returns-else-name-len c = record {
  value = λ ts.
      let s = memory_of ts c.args.m.now in
      let maps = c.args.m.now.maps.items in
      let name = c.in-Map.name in
      let counted = c.args.m.now.maps.ok.0 in
      let h : length (map (map_of ts) maps) ≤ name = omega (arith, c.if-name-len.false, c.len.ensures, counted, length-map maps (map_of ts)) in
      sym (ap (λ (x : Scalar). entries_at (scalar_of ts x ∷ []) s) c.in-Map.is
      ∙ ap (λ (x : core.Scalar). entries_at (x ∷ []) s) (map_seen ts name)
      ∙ ap entries_in (slice_get_past (map (map_of ts) maps) name h));
}
