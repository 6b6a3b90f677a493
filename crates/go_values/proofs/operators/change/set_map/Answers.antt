use Rattle.std.proofs.Common.{ap, List}
use Rattle.std.proofs.lemmas.List.{map-set}
use Rattle.go_core.specs.Memory as core
use Rattle.go_values.specs.ValuesSeen.{map_of, memory_of}
use Rattle.go_values.proofs.operators.change.set_map.Goals as goal

pub returns-then-name-len : goal.returns-then-name-len
returns-then-name-len c = record {
  value = λ ts. ap (λ (ms : List core.MapState). record (memory_of ts c.args.m.now) { maps = ms }) (map-set (map_of ts) c.args.m.now.maps.items c.args.name c.args.state);
}
