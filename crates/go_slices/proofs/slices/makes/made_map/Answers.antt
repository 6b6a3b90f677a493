use Rattle.std.proofs.Common.{◌≡◌, ◌∙◌, ◌∷◌, [], sym, ap, arith, length, ℕ}
use Rattle.std.proofs.lemmas.List.{length-map}
use Rattle.go_core.specs.Did.{gives}
use Rattle.go_core.specs.Memory as core
use Rattle.go_core.specs.Memory.{Value, with_map}
use Rattle.go_core.specs.StepSlices.{empty_map}
use Rattle.go_values.specs.ValuesSeen.{map_of, memory_of}
use Rattle.go_slices.proofs.SlicesScalarLemmas.{map_seen}
use Rattle.go_slices.proofs.slices.makes.made_map.Goals as goal

pub returns : goal.returns
returns c = record {
  value = λ ts.
      let s = memory_of ts c.args.m.now in
      let n : length c.args.m.now.maps.items ≡ length s.maps = sym (length-map c.args.m.now.maps.items (map_of ts)) in
      let name = c.in_ok-map.ensures.value ts ∙ ap (λ (x : core.Scalar). x ∷ []) (map_seen ts _ ∙ ap (λ (k : ℕ). core.map k) (let counted = c.args.m.now.maps.ok.0 in omega (arith, c.len.ensures, counted, n))) in
      ap (λ (v : Value). gives (v ∷ []) (with_map s empty_map) 1) (sym name);
}
