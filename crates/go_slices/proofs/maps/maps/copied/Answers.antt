use Rattle.std.proofs.Common.{◌≡◌, ap, rules, map, List}
use Rattle.go_core.specs.Memory as core
use Rattle.go_values.specs.ValuesSeen.{entry_of}
use Rattle.go_values.specs.declared.values.memory.Entry.{Entry}
use Rattle.go_slices.proofs.maps.maps.copied.Goals as goal

pub returns : goal.returns
returns c = record {
  value = λ ts.
      let e : c.extend_from_slice.new.self.items ≡ c.args.state.now.entries.items = search rules in
      ap (λ (es : List Entry). let s : core.MapState = record { entries = map (entry_of ts) es; next_birth = c.args.state.now.next_birth } in s) e;
}
