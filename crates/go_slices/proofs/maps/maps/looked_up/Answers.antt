use Rattle.std.proofs.Common.{refl, sym, subst, map, get_or, ℕ}
use Rattle.std.specs.Prelude.{Option}
use Rattle.go_type.specs.Levels.{tree_of}
use Rattle.go_type.specs.Table.{places, names}
use Rattle.go_values.specs.ValuesSeen.{value_of, entry_of}
use Rattle.go_slices.specs.MapsFound.{IsPlace}
use Rattle.go_slices.proofs.MapsListLemmas.{there_map, no_entry}
use Rattle.go_slices.proofs.MapLemmas.{found_at}
use Rattle.go_slices.proofs.maps.maps.looked_up.Goals as goal

pub returns-in-Some : goal.returns-in-Some
returns-in-Some c =
    let w = c.args.c.now.table.now in
    let ts = places w in
    let es = c.args.entries.now in
    let i = c.in-Some.i in
    let x = get_or es i no_entry in
    let p = subst (λ (k : Option ℕ). IsPlace (names w) (tree_of ts c.args.key_type) (value_of ts c.args.key.now) (map (entry_of ts) es) k) c.in-Some.is c.in_ok-place.ensures.value in
    let h = rw c.in-Some.is at c.in_ok-place.ensures.within in
    record { value = found_at (names w) (tree_of ts c.args.key_type) (value_of ts c.args.key.now) (map (entry_of ts) es) i (entry_of ts x) p (there_map (entry_of ts) es i x no_entry h refl) }

pub returns-in-None : goal.returns-in-None
returns-in-None c =
    let w = c.args.c.now.table.now in
    let ts = places w in
    let p = subst (λ (k : Option ℕ). IsPlace (names w) (tree_of ts c.args.key_type) (value_of ts c.args.key.now) (map (entry_of ts) c.args.entries.now) k) c.in-None.is c.in_ok-place.ensures.value in
    record { value = sym p.looked }
