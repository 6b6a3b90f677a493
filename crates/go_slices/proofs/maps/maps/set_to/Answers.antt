use Rattle.std.proofs.Common.{◌∙◌, ap, map, List}
use Rattle.go_core.specs.Memory.{set_map}
use Rattle.go_values.specs.ValuesSeen.{entry_of}
use Rattle.go_values.specs.declared.values.memory.Entry.{Entry}
use Rattle.go_slices.proofs.maps.maps.set_to.Goals as goal

pub returns : goal.returns
returns c = record {
  value = λ ts m.
      ap (λ (es : List Entry). set_map m c.args.name (record { entries = map (entry_of ts) es; next_birth = c.args.state.now.next_birth })) (c.in_ok-entries.ensures ∙ c.as_slice.ensures.value);
}
