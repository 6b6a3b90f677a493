use Rattle.std.proofs.Common.{◌≡◌, ◌+◌, ◌*◌, ◌<◌, arith, drop, length, List, rules, true, false}
use Rattle.std.specs.Borrow.{Bor}
use Rattle.std.proofs.lemmas.List.{length-map, length-drop}
use Rattle.go_type.specs.Levels.{tree_of}
use Rattle.go_type.specs.Table.{places, names}
use Rattle.go_values.specs.ValuesSeen.{value_of, values_of, map_of}
use Rattle.go_values.specs.declared.values.scalar.Scalar.{Scalar}
use Rattle.go_slices.proofs.SlicesListLemmas.{nothing}
use Rattle.go_slices.proofs.MapsListLemmas.{two_apart}
use Rattle.go_slices.proofs.MapLemmas.{pairs_step, pairs_stop, pairs_end}
use Rattle.go_slices.proofs.maps.maps.with_pairs.Goals as goal

pub pairs-preserved : goal.pairs-preserved
pairs-preserved c =
    let w = c.args.c.now.table.now in
    let ts = places w in
    let b : c.in_ok-fits.fits ≡ true = search rules in
    let vs = c.args.vs.now in
    let i = c.pairs.i in
    let j : 2 * i + 1 < length vs = omega (arith, c.pairs-test.true) in
    let e = two_apart (λ (v : Bor (List Scalar)). value_of ts v.now) vs (2 * i) (2 * i + 1) (2 * (i + 1)) nothing j (omega arith) (omega arith) in
    pairs_step (names w) (tree_of ts c.args.key_type) _ _ _ _ _ (map_of ts c.pairs.state) (map_of ts c.with_entry.new.state) e
    (rw b at c.in_ok-fits.ensures.value) c.pairs.invariant

pub returns-then-not-fits : goal.returns-then-not-fits
returns-then-not-fits c =
    let w = c.args.c.now.table.now in
    let ts = places w in
    let b : c.in_ok-fits.fits ≡ false = search rules in
    let vs = c.args.vs.now in
    let i = c.pairs.i in
    let j : 2 * i + 1 < length vs = omega (arith, c.pairs-test.true) in
    let e = two_apart (λ (v : Bor (List Scalar)). value_of ts v.now) vs (2 * i) (2 * i + 1) (2 * (i + 1)) nothing j (omega arith) (omega arith) in
    record {
      value =
          pairs_stop (names w) (tree_of ts c.args.key_type) _ _ _ _ _ (map_of ts c.pairs.state) e
          (rw b at c.in_ok-fits.ensures.value) c.pairs.invariant;
    }

pub returns : goal.returns
returns c =
    let w = c.args.c.now.table.now in
    let ts = places w in
    let vs = c.args.vs.now in
    let left = drop (2 * c.pairs.i) vs in
    let h : length (values_of ts left) < 2 = omega (arith, c.pairs-test.false, length-map left (λ (v : Bor (List Scalar)). value_of ts v.now), length-drop (2 * c.pairs.i) vs) in
    record { value = pairs_end (names w) (tree_of ts c.args.key_type) _ (values_of ts left) (map_of ts c.pairs.state) h c.pairs.invariant }
