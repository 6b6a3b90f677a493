use Rattle.std.proofs.Common.{◌∙◌, ◌+◌, refl, sym, arith, map, drop, get_or}
use Rattle.std.proofs.lemmas.List.{length-map}
use Rattle.go_type.specs.Levels.{tree_of}
use Rattle.go_type.specs.Table.{places, names}
use Rattle.go_values.specs.ValuesSeen.{value_of, entry_of}
use Rattle.go_slices.proofs.MapsListLemmas.{split_map, grown_map, there_map, no_entry}
use Rattle.go_slices.proofs.MapLemmas.{passed_none, passed_more, first_at, absent}
use Rattle.go_slices.proofs.maps.maps.place_of.Goals as goal

pub entries-init : goal.entries-init
entries-init c =
    let w = c.args.c.now.table.now in
    let ts = places w in
    passed_none (names w) (tree_of ts c.args.key_type) (value_of ts c.args.key.now) (map (entry_of ts) c.args.entries.now)

pub entries-preserved : goal.entries-preserved
entries-preserved c =
    let w = c.args.c.now.table.now in
    let ts = places w in
    let es = c.args.entries.now in
    let all = map (entry_of ts) es in
    let i = c.entries.i in
    let x = get_or es i no_entry in
    passed_more (names w) (tree_of ts c.args.key_type) (value_of ts c.args.key.now) all i (entry_of ts x) (drop (i + 1) all) (split_map (entry_of ts) es i x no_entry (omega (arith, c.entries-test.true)) refl) c.entries.invariant
    (sym c.in_ok-is_it.ensures.value ∙ c.if-is_it.false) refl (grown_map (entry_of ts) es i x no_entry (omega (arith, c.entries-test.true)) refl)

pub returns-then-is_it : goal.returns-then-is_it
returns-then-is_it c =
    let w = c.args.c.now.table.now in
    let ts = places w in
    let es = c.args.entries.now in
    let all = map (entry_of ts) es in
    let i = c.entries.i in
    let x = get_or es i no_entry in
    record {
      value = first_at (names w) (tree_of ts c.args.key_type) (value_of ts c.args.key.now) all i (entry_of ts x) (drop (i + 1) all) (split_map (entry_of ts) es i x no_entry (omega (arith, c.entries-test.true)) refl) c.entries.invariant
          (sym c.in_ok-is_it.ensures.value ∙ c.if-is_it.true) refl (omega (arith, c.entries-test.true, length-map es (entry_of ts))) (there_map (entry_of ts) es i x no_entry (omega (arith, c.entries-test.true)) refl);
      within = omega (arith, c.entries-test.true);
    }

pub returns-clause-value : goal.returns-clause-value
returns-clause-value c =
    let w = c.args.c.now.table.now in
    let ts = places w in
    let all = map (entry_of ts) c.args.entries.now in
    absent (names w) (tree_of ts c.args.key_type) (value_of ts c.args.key.now) all c.entries.i (omega (arith, c.entries-test.false, length-map c.args.entries.now (entry_of ts))) c.entries.invariant
