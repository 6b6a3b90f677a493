use Rattle.std.proofs.Common.{map}
use Rattle.go_items.specs.ItemView.{item_view}
use Rattle.go_operands.specs.EnvView.{env_of}
use Rattle.go_decls.specs.State.{rows_of}
use Rattle.go_decls.proofs.PassLemmas.{before, turned, turned_past}
use Rattle.go_decls.proofs.known.pass.one.Goals as goal

pub returns-then-n-items : goal.returns-then-n-items
returns-then-n-items c = record {
  value = λ ds ns named reached.
      let items = c.args.items.now in
      let all = map item_view items in
      let item = c.index-items-n.result in
      let ready = before item_view ds items c.args.numbers.now ns c.args.n item (env_of c.args.env.now) named c.if-n-items.true c.index-items-n.is reached in
      turned c.in_ok-is_typed.is_typed all ns c.args.n (item_view item) (env_of c.type_item.new.env) ready.row (c.in_ok-is_typed.ensures.value (rows_of all ns) ready);
}

pub returns : goal.returns
returns c = record { value = λ ds ns named reached. turned_past item_view c.args.items.now ns c.args.n (env_of c.args.env.now) c.if-n-items.false reached }
