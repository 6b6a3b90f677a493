use Rattle.go_items.specs.ItemView.{item_view}
use Rattle.go_operands.specs.EnvView.{env_of}
use Rattle.go_decls.proofs.DoneLemmas.{start_passed}
use Rattle.go_decls.proofs.known.names.settle_from_first.Goals as goal

pub returns : goal.returns
returns c = record {
  value = λ ds q s.
      c.in_ok-settle_all.ensures.value ds (record { items = q; first = c.in_ok-numbers.ensures.value }) (start_passed item_view c.args.items.now ds c.args.nodes.items (env_of c.args.env.now) c.requires.each q s);
}
