use Rattle.std.proofs.Common.{arith, rules, ◌<◌, ◌≤◌, length, subst, map, refl}
use Rattle.js_tree.specs.View.{item_view}
use Rattle.js_grammar.specs.Goals as goals
use Rattle.js_grammar.specs.Tokens.{places}
use Rattle.js_grammar.specs.Reads.{Reads, no_memory}
use Rattle.js_nodes.specs.Handing.{stopped}
use Rattle.js_read.proofs.Maps.{map_more}
use Rattle.js_read.proofs.StmtLoops.{items_step, items_stop, items_end}
use Rattle.js_nodes.specs.Views.{items_read}
use Rattle.js_read.proofs.item.items.Goals as goal

pub each-init : goal.each-init
each-init c = record {
  same = λ r h. subst (λ z. Reads (goals.items (map item_view z)) (places c.args.ts.now) r) c.new-items.ensures.items h;
}

pub returns-in_err-item : goal.returns-in_err-item
returns-in_err-item c = record { read = stopped c.from_residual.result items_read c.from_residual.ensures.1 (c.each.invariant.same _ (items_stop (map item_view c.each.items.items) (places c.each.rest.now) _ (search rules) c.in_err-item.ensures.read)) }

pub returns-in_err-add : goal.returns-in_err-add
returns-in_err-add c = record { read = stopped c.from_residual-in_err-add.result items_read c.from_residual-in_err-add.ensures.1 (no_memory c.in_err-add.ensures) }

pub each-preserved : goal.each-preserved
each-preserved c = record {
  same = λ r h. c.each.invariant.same r (items_step (item_view c.in_ok-item.item) (map item_view c.each.items.items) (map item_view c.add.new.items.items) (places c.each.rest.now) (places c.in_ok-item.after.now) r (search rules) c.in_ok-item.ensures.read
      (map_more item_view c.add.new.items.items c.each.items.items c.in_ok-item.item c.in_ok-add.ensures) (subst (λ z. Reads (goals.items (map item_view c.add.new.items.items)) (places z) r) c.all-rest.ensures.same h));
}

pub returns : goal.returns
returns c = record { read = c.each.invariant.same _ (items_end (map item_view c.each.items.items) (places c.each.rest.now) (search rules)) }
