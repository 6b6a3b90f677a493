use Rattle.std.proofs.Common.{◌≡◌, ◌∙◌, ◌∷◌, ◌+◌, ◌*◌, [], sym, ap, arith, length, ℕ, List}
use Rattle.std.specs.Borrow.{Bor}
use Rattle.std.proofs.lemmas.List.{length-map}
use Rattle.go_type.specs.Levels.{tree_of}
use Rattle.go_type.specs.Table.{places, names}
use Rattle.go_core.specs.Did.{gives}
use Rattle.go_core.specs.Layout.{shape_of, weight}
use Rattle.go_core.specs.Memory as core
use Rattle.go_core.specs.Memory.{Value}
use Rattle.go_values.specs.ValuesSeen.{value_of, values_of, map_of, memory_of}
use Rattle.go_values.specs.declared.values.scalar.Scalar.{Scalar}
use Rattle.go_values.specs.OperatorsSeen.{changed}
use Rattle.go_slices.proofs.SlicesScalarLemmas.{map_seen}
use Rattle.go_slices.proofs.maps.maps.built_of.Goals as goal

pub returns : goal.returns
returns c =
    let w = c.args.c.now.table.now in
    let ts = places w in
    let s = memory_of ts c.args.m.now in
    let vs = c.args.vs.now in
    let one = weight (shape_of (names w) (tree_of ts c.args.key_type)) + weight (shape_of (names w) (tree_of ts c.args.value_type)) in
    let units : c.in_ok-units.units ≡ 1 + length (values_of ts vs) * one =
    c.in_ok-units.ensures.value
    ∙ ap (λ (n : ℕ). 1 + n) (c.in_ok-all.ensures.value ∙ ap (λ (n : ℕ). length vs * n) c.in_ok-one.ensures.value ∙ ap (λ (n : ℕ). n * one) (sym (length-map vs (λ (v : Bor (List Scalar)). value_of ts v.now)))) in
    let n : length c.args.m.now.maps.items ≡ length s.maps = sym (length-map c.args.m.now.maps.items (map_of ts)) in
    let name = c.in_ok-map.ensures.value ts ∙ ap (λ (x : core.Scalar). x ∷ []) (map_seen ts _ ∙ ap (λ (k : ℕ). core.map k) (let counted = c.args.m.now.maps.ok.0 in omega (arith, c.len.ensures, counted, n))) in
    record {
      value =
          c.in_ok-change.ensures.value s (1 + length (values_of ts vs) * one)
          ∙ ap (λ (k : ℕ). gives ((core.map (length s.maps) ∷ []) ∷ []) (changed ts s c.in_ok-change.change) k) (sym units)
          ∙ ap (λ (v : Value). gives (v ∷ []) (changed ts s c.in_ok-change.change) c.in_ok-units.units) (sym name);
    }
