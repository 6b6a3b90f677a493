use Rattle.std.proofs.Common.{◌∙◌, ap}
use Rattle.std.proofs.lemmas.Result.{IfOk-weaker}
use Rattle.go_type.specs.Levels.{tree_of}
use Rattle.go_type.specs.Table.{places, names}
use Rattle.go_core.specs.Memory as core
use Rattle.go_core.specs.Memory.{set_map}
use Rattle.go_core.specs.StepMaps.{without}
use Rattle.go_values.specs.ValuesSeen.{value_of}
use Rattle.go_slices.proofs.maps.maps.without_entry.Goals as goal

pub returns : goal.returns
returns c =
    let w = c.args.c.now.table.now in
    let ts = places w in
    let left = without (names w) (tree_of ts c.args.key_type) (value_of ts c.args.key.now) in
    let e = c.in_ok-take_out.ensures.value ∙ ap (λ (s : core.MapState). let t : core.MapState = record s { entries = left s.entries } in t) (c.in_ok-copy.ensures.value ts) in
    record {
      value = IfOk-weaker c.set_to.result _ _ (λ x h m. h ts m ∙ ap (λ (s : core.MapState). set_map m c.args.name s) e) c.set_to.ensures.value;
    }
