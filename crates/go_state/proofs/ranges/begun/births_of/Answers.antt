use Rattle.std.proofs.Common.{◌<◌, ◌≤◌, ap, arith, length, map}
use Rattle.std.proofs.lemmas.List.{length-map}
use Rattle.std.proofs.lemmas.Option.{slice_get_past}
use Rattle.go_core.specs.Control.{births_of}
use Rattle.go_values.specs.ValuesSeen.{map_of}
use Rattle.go_state.proofs.ListLemmas.{there_map}
use Rattle.go_state.proofs.ranges.begun.births_of.Goals as goal

pub returns-then-name-len : goal.returns-then-name-len
returns-then-name-len c = record {
  value = λ ts p g.
      let maps = c.args.m.now.maps.items in
      let counted = c.args.m.now.maps.ok.0 in
      let h : c.args.name < length maps = omega (arith, c.if-name-len.true, c.len.ensures, counted) in
      ap (births_of p g c.args.name) (there_map (map_of ts) maps c.args.name c.index.result.now c.index.result.now h c.index.ensures);
}

pub returns-else-name-len : goal.returns-else-name-len
returns-else-name-len c = record {
  value = λ ts p g.
      let maps = c.args.m.now.maps.items in
      let counted = c.args.m.now.maps.ok.0 in
      let h : length (map (map_of ts) maps) ≤ c.args.name = omega (arith, c.if-name-len.false, c.len.ensures, counted, length-map maps (map_of ts)) in
      ap (births_of p g c.args.name) (slice_get_past (map (map_of ts) maps) c.args.name h);
}
