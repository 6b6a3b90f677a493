use Rattle.std.proofs.Common.{◌≡◌, ◌∙◌, ◌∷◌, [], sym, ap, length, map, ℕ, List, Option, rules, true, false}
use Rattle.go_type.specs.Levels.{tree_of}
use Rattle.go_type.specs.Table.{places, names}
use Rattle.go_core.specs.Did.{gives}
use Rattle.go_core.specs.Memory as core
use Rattle.go_core.specs.Memory.{with_map}
use Rattle.go_core.specs.StepMaps.{with_pairs, new_map_or_not}
use Rattle.go_values.specs.ValuesSeen.{values_of, entry_of}
use Rattle.go_values.specs.declared.values.memory.Entry.{Entry}
use Rattle.go_slices.proofs.Steps.{stops}
use Rattle.go_slices.proofs.maps.maps.built_state.Goals as goal

abbrev state_with : List core.Entry → ℕ → core.MapState
state_with es n = record { entries = es; next_birth = n }

pub returns-then-not-fits : goal.returns-then-not-fits
returns-then-not-fits c =
    let w = c.args.c.now.table.now in
    let ts = places w in
    let b : c.in_ok-fits.fits ≡ false = search rules in
    let put = with_pairs (names w) (tree_of ts c.args.key_type) (values_of ts c.args.vs.now) in
    let e = sym (ap (λ (es : List Entry). put (state_with (map (entry_of ts) es) 0)) c.new.ensures.items) ∙ (rw b at c.in_ok-fits.ensures.value) in
    record { value = λ m units. stops c.too_big.result _ _ (ap (λ (o : Option core.MapState). new_map_or_not m units o) e) c.too_big.ensures.value }

pub returns : goal.returns
returns c =
    let w = c.args.c.now.table.now in
    let ts = places w in
    let b : c.in_ok-fits.fits ≡ true = search rules in
    let put = with_pairs (names w) (tree_of ts c.args.key_type) (values_of ts c.args.vs.now) in
    let e = sym (ap (λ (es : List Entry). put (state_with (map (entry_of ts) es) 0)) c.new.ensures.items) ∙ (rw b at c.in_ok-fits.ensures.value) in
    record {
      value = λ m units.
          ap (λ (o : Option core.MapState). new_map_or_not m units o) e
          ∙ sym (ap (λ (es : List Entry). gives ((core.map (length m.maps) ∷ []) ∷ []) (with_map m (state_with (map (entry_of ts) es) c.with_pairs.new.state.next_birth)) units) (c.in_ok-entries.ensures ∙ c.as_slice.ensures.value));
    }
