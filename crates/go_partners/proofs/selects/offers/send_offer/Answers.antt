use Rattle.std.proofs.Common.{ap, ◌∙◌, sym, ℕ, List}
use Rattle.go_type.specs.Levels.{tree_of}
use Rattle.go_type.specs.Named.{NamedTy}
use Rattle.go_type.specs.Table.{places}
use Rattle.go_core.specs.Goroutine.{sending}
use Rattle.go_core.specs.Layout.{shape_of, weight}
use Rattle.go_values.specs.ValuesSeen.{value_of}
use Rattle.go_state.specs.StateSeen.{after_of}
use Rattle.go_partners.proofs.selects.offers.send_offer.Goals as goal

pub returns : goal.returns
returns c = record {
  value = λ p g free q.
      let ts = places c.args.c.now.table.now in
      let element = tree_of ts c.element_of.result in
      ap (λ (n : ℕ). sending c.args.channel (value_of ts c.args.value.now) n (after_of ts c.args.after))
      (c.in_ok-units.ensures.value ∙ ap (λ (ns : List NamedTy). weight (shape_of ns element)) (sym q) ∙ ap weight (c.element_of.ensures.value p g free q));
}
