use Rattle.std.proofs.Common.{◌∙◌, sym, subst, ap, map, ℕ, List, Option, Some, None}
use Rattle.go_type.specs.Levels.{tree_of}
use Rattle.go_type.specs.Table.{places, names}
use Rattle.go_core.specs.Memory as core
use Rattle.go_values.specs.ValuesSeen.{value_of, entry_of, map_of}
use Rattle.go_values.specs.declared.values.memory.Entry.{Entry}
use Rattle.go_slices.specs.MapsFound.{IsPlace}
use Rattle.go_slices.proofs.MapsListLemmas.{map_remove}
use Rattle.go_slices.proofs.maps.maps.take_out.Goals as goal

pub returns-in-Some : goal.returns-in-Some
returns-in-Some c =
    let w = c.args.c.now.table.now in
    let ts = places w in
    let t = tree_of ts c.args.key_type in
    let key = value_of ts c.args.key.now in
    let es = c.args.state.now.entries.items in
    let i = c.in-Some.i in
    let old = map_of ts c.args.state.now in
    let p = subst (λ (k : Option ℕ). IsPlace (names w) t key (map (entry_of ts) c.as_slice.result.now) k) c.in-Some.is c.in_ok-place.ensures.value in
    let q = subst (λ (xs : List Entry). IsPlace (names w) t key (map (entry_of ts) xs) (Some i)) c.as_slice.ensures.value p in
    record {
      value =
          ap (λ (xs : List Entry). let s : core.MapState = record { entries = map (entry_of ts) xs; next_birth = c.args.state.now.next_birth } in s) c.remove.ensures.items
          ∙ ap (λ (xs : List core.Entry). let s : core.MapState = record { entries = xs; next_birth = c.args.state.now.next_birth } in s) (map_remove (entry_of ts) es i ∙ sym q.taken);
    }

pub returns-in-None : goal.returns-in-None
returns-in-None c =
    let w = c.args.c.now.table.now in
    let ts = places w in
    let t = tree_of ts c.args.key_type in
    let key = value_of ts c.args.key.now in
    let p = subst (λ (k : Option ℕ). IsPlace (names w) t key (map (entry_of ts) c.as_slice.result.now) k) c.in-None.is c.in_ok-place.ensures.value in
    let q = subst (λ (xs : List Entry). IsPlace (names w) t key (map (entry_of ts) xs) None) c.as_slice.ensures.value p in
    record {
      value = ap (λ (xs : List core.Entry). let s : core.MapState = record { entries = xs; next_birth = c.args.state.now.next_birth } in s) (sym q.kept);
    }
