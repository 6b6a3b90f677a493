use Rattle.std.proofs.Common.{◌≡◌, ◌∙◌, [], sym, ap, Option, rules, true, false}
use Rattle.go_type.specs.Levels.{tree_of}
use Rattle.go_type.specs.Table.{places, names}
use Rattle.go_core.specs.Did.{gives}
use Rattle.go_core.specs.Memory as core
use Rattle.go_core.specs.StepMaps.{with_entry, set_or_not}
use Rattle.go_values.specs.ValuesSeen.{value_of}
use Rattle.go_slices.proofs.Steps.{stops}
use Rattle.go_slices.proofs.maps.maps.with_entry_in.Goals as goal

pub returns-then-not-fits : goal.returns-then-not-fits
returns-then-not-fits c =
    let w = c.args.c.now.table.now in
    let ts = places w in
    let b : c.in_ok-fits.fits ≡ false = search rules in
    let put = with_entry (names w) (tree_of ts c.args.key_type) (value_of ts c.args.key.now) (value_of ts c.args.value.now) in
    let e = sym (ap put (c.in_ok-copy.ensures.value ts)) ∙ (rw b at c.in_ok-fits.ensures.value) in
    record { value = λ m units. stops c.too_big.result _ _ (ap (λ (o : Option core.MapState). set_or_not m c.args.name units o) e) c.too_big.ensures.value }

pub returns : goal.returns
returns c =
    let w = c.args.c.now.table.now in
    let ts = places w in
    let b : c.in_ok-fits.fits ≡ true = search rules in
    let put = with_entry (names w) (tree_of ts c.args.key_type) (value_of ts c.args.key.now) (value_of ts c.args.value.now) in
    let e = sym (ap put (c.in_ok-copy.ensures.value ts)) ∙ (rw b at c.in_ok-fits.ensures.value) in
    record {
      value = λ m units.
          ap (λ (o : Option core.MapState). set_or_not m c.args.name units o) e
          ∙ ap (λ (x : core.Memory). gives [] x units) (sym (c.in_ok-change.ensures.value ts m));
    }
