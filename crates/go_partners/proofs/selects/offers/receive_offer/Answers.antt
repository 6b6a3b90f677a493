use Rattle.std.proofs.Common.{ap, ◌∙◌, sym, ℕ, List}
use Rattle.go_type.specs.Levels.{tree_of}
use Rattle.go_type.specs.Named.{NamedTy}
use Rattle.go_type.specs.Table.{places}
use Rattle.go_core.specs.Communicate.{element_shape}
use Rattle.go_core.specs.Goroutine.{receiving}
use Rattle.go_core.specs.Layout.{shape_of, weight}
use Rattle.go_core.specs.Memory.{Value, zeros}
use Rattle.go_state.specs.StateSeen.{after_of}
use Rattle.go_partners.proofs.selects.offers.receive_offer.Goals as goal

pub returns : goal.returns
returns c = record {
  value = λ p g free q.
      let ts = places c.args.c.now.table.now in
      let element = tree_of ts c.element_of-element.result in
      let after = after_of ts c.args.after in
      let e = c.element_of-element.ensures.value p g free q in
      ap (λ (z : Value). receiving c.args.channel z c.in_ok-units.units c.args.values after)
      (c.in_ok-zero.ensures.value ∙ ap (λ (ns : List NamedTy). zeros (shape_of ns element)) (sym q) ∙ ap zeros e)
      ∙ ap (λ (n : ℕ). receiving c.args.channel (zeros (element_shape p g free (tree_of ts c.args.t))) n c.args.values after)
      (c.in_ok-units.ensures.value ∙ ap (λ (ns : List NamedTy). weight (shape_of ns element)) (sym q) ∙ ap weight e);
}
