use Rattle.std.proofs.Common.{◌∙◌, ◌<◌, sym, ap, subst, arith, length, map, ℕ, List}
use Rattle.std.specs.Prelude.{Option, None, Some}
use Rattle.std.proofs.lemmas.List.{map-set}
use Rattle.go_type.specs.Levels.{tree_of}
use Rattle.go_type.specs.Table.{places, names}
use Rattle.go_core.specs.Memory as core
use Rattle.go_core.specs.Memory.{Value}
use Rattle.go_core.specs.StepMaps.{put_entry}
use Rattle.go_values.specs.ValuesSeen.{value_of, entry_of, map_of}
use Rattle.go_values.specs.declared.values.memory.Entry.{Entry}
use Rattle.go_slices.specs.MapsFound.{IsPlace, Entered}
use Rattle.go_slices.proofs.MapsListLemmas.{there_map}
use Rattle.go_slices.proofs.MapLemmas.{entry_put}
use Rattle.go_slices.proofs.maps.maps.with_entry.Goals as goal

pub returns-in_ok-put_in-in-Some : goal.returns-in_ok-put_in-in-Some
returns-in_ok-put_in-in-Some c =
    let w = c.args.c.now.table.now in
    let ts = places w in
    let t = tree_of ts c.args.key_type in
    let key = value_of ts c.args.key.now in
    let value = value_of ts c.args.value.now in
    let es = c.args.state.now.entries.items in
    let i = c.in-Some.i in
    let x = c.index-old.result.now in
    let p = subst (λ (k : Option ℕ). IsPlace (names w) t key (map (entry_of ts) c.as_slice.result.now) k) c.in-Some.is c.in_ok-place.ensures.value in
    let q = subst (λ (xs : List Entry). IsPlace (names w) t key (map (entry_of ts) xs) (Some i)) c.as_slice.ensures.value p in
    let within = rw c.in-Some.is at c.in_ok-place.ensures.within in
    let h : i < length es = omega (arith, within, ap length c.as_slice.ensures.value) in
    record {
      value =
          entry_put (names w) t key value (map_of ts c.args.state.now) i (entry_of ts x) q (there_map (entry_of ts) es i x x h c.index-old.ensures)
          ∙ ap (λ (s : core.MapState). Some s)
          (sym (ap (λ (xs : List Entry). let s : core.MapState = record { entries = map (entry_of ts) xs; next_birth = c.args.state.now.next_birth } in s) c.in_ok-put_in-in-Some.ensures.value
          ∙ ap (λ (ys : List core.Entry). let s : core.MapState = record { entries = ys; next_birth = c.args.state.now.next_birth } in s) (map-set (entry_of ts) es i (record { key = x.key; value = c.args.value; birth = x.birth }))));
    }

pub returns-in-None : goal.returns-in-None
returns-in-None c =
    let w = c.args.c.now.table.now in
    let ts = places w in
    let t = tree_of ts c.args.key_type in
    let key = value_of ts c.args.key.now in
    let value = value_of ts c.args.value.now in
    let old = map_of ts c.args.state.now in
    let p = subst (λ (k : Option ℕ). IsPlace (names w) t key (map (entry_of ts) c.as_slice.result.now) k) c.in-None.is c.in_ok-place.ensures.value in
    let q = subst (λ (es : List Entry). IsPlace (names w) t key (map (entry_of ts) es) None) c.as_slice.ensures.value p in
    record { value = subst (λ (o : Option Value). Entered c.with_new_or_not.result (map_of ts c.with_new_or_not.new.state) (put_entry (names w) t key value old o)) (sym q.looked) (c.with_new_or_not.ensures.value ts (names w) t) }
