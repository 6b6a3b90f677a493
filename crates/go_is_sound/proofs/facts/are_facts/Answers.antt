use Rattle.std.proofs.Common.{◌≡◌, ℕ, List, Bool, true, false, sym, subst, rules}
use Rattle.std.specs.Prelude.{Option, Some, slice_get}
use Rattle.go_type.specs.Table.{names, places}
use Rattle.go_core.specs.declared.node.Var.{Var}
use Rattle.go_core.specs.CoreView.{program_view}
use Rattle.go_core.specs.SoundNode.{IsRowOf}
use Rattle.go_sound_parts.specs.Measures.{AreKnown}
use Rattle.go_sound_parts.specs.declared.measures.Measure.{Measure}
use Rattle.go_is_sound.specs.Facts.{ArePlaced}
use Rattle.go_is_sound.proofs.FactLemmas.{facts_hold}
use Rattle.go_is_sound.proofs.facts.are_facts.Goals as goal

pub returns : goal.returns
returns c = record {
  is = λ a r v h.
      let p = c.args.p.now in
      let f = c.args.facts.now in
      let g : c.are_good.result ≡ true = search rules in
      let m : c.are_marked.result ≡ true = search rules in
      facts_hold p f
      (c.are_good.ensures.is (subst (λ (ms : List (Option Measure)). AreKnown (names p.types) (places p.types) ms) (sym c.as_slice.ensures.value) a) g) a
      (subst (λ (bs : List Bool). (k : ℕ) → slice_get bs k ≡ Some false → IsRowOf (program_view p) k → ⊥) c.as_slice-else-not-are_good.ensures.value (c.are_marked.ensures.is m)) r v
      (subst (λ (vs : List Var). ArePlaced vs f.places.items) c.as_slice-2.ensures.value
      (subst (λ (ns : List ℕ). ArePlaced c.as_slice-2.result.now ns) c.as_slice-3.ensures.value (c.are_placed.ensures.is h)));
}
