use Rattle.std.proofs.Common.{ap, ◌∙◌, sym, ℕ, length}
use Rattle.std.specs.Prelude.{Option, Some, option_and_then}
use Rattle.go_type.specs.Levels.{tree_of}
use Rattle.go_type.specs.Table.{places}
use Rattle.go_core.specs.Communicate.{receive_offer}
use Rattle.go_core.specs.Goroutine as core
use Rattle.go_state.specs.StateSeen.{after_of}
use Rattle.go_partners.proofs.selects.offers.receiving.Goals as goal

pub returns-in_ok-offer-in-Some : goal.returns-in_ok-offer-in-Some
returns-in_ok-offer-in-Some c = record {
  value = λ p g free q.
      let ts = places c.args.c.now.table.now in
      let found : Option ℕ → Option core.Offer = λ name. Some (receive_offer p g free (tree_of ts c.args.t) name (length c.args.after.vars.now) (after_of ts (Some c.args.after))) in
      ap (option_and_then found) (sym (c.named_channel.ensures.value ts) ∙ c.in-Some.is) ∙ ap (λ (o : core.Offer). Some o) (sym (c.in_ok-offer-in-Some.ensures.value p g free q));
}

pub returns-in-None : goal.returns-in-None
returns-in-None c = record {
  value = λ p g free q.
      let ts = places c.args.c.now.table.now in
      let found : Option ℕ → Option core.Offer = λ name. Some (receive_offer p g free (tree_of ts c.args.t) name (length c.args.after.vars.now) (after_of ts (Some c.args.after))) in
      ap (option_and_then found) (sym (c.named_channel.ensures.value ts) ∙ c.in-None.is);
}
