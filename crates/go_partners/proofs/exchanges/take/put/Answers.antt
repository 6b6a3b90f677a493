use Rattle.std.proofs.Common.{refl, ◌++◌, ◌<◌, ◌∙◌, ap, sym, arith, List, [], ◌∷◌, length, map}
use Rattle.std.specs.Prelude.{slice_set}
use Rattle.go_core.specs.Memory as core
use Rattle.go_core.specs.Memory.{set_channel}
use Rattle.go_values.specs.ValuesSeen.{channel_of, memory_of, value_of}
use Rattle.go_partners.proofs.StopLemmas.{channel_is, channel_put, values_more}
use Rattle.go_partners.proofs.exchanges.take.put.Goals as goal

pub returns : goal.returns
returns c = record {
  value = λ ts p g free k h.
      let chans = c.args.m.now.channels.items in
      let old = c.index_mut.result.now in
      let counted = c.args.m.now.channels.ok.0 in
      let l : c.args.name < length chans = omega (arith, c.requires.name, counted) in
      let e = channel_is ts chans c.args.name old k l c.index_mut.ensures.value h in
      let vs = ap (λ (q : core.Channel). q.values) e in
      ap (λ (xs : List core.Channel). let m : core.Memory = record (memory_of ts c.args.m.now) { channels = xs } in m)
      (channel_put ts chans c.args.name old _ k _ e refl refl (values_more ts _ old.values.items c.args.x c.in_ok-push.ensures.items)
      ∙ ap (λ (ws : List core.Value). slice_set (map (channel_of ts) chans) c.args.name (record k { values = ws ++ value_of ts c.args.x.now ∷ [] })) (sym vs));
}
