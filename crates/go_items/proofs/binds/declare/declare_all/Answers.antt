use Rattle.std.proofs.Common.{◌+◌, List, subst, drop, map}
use Rattle.go_items.specs.declared.items.item.Item.{Item}
use Rattle.go_items.specs.ItemView.{item_view}
use Rattle.go_operands.specs.EnvView.{env_of}
use Rattle.go_items.proofs.BindsSteps.{next_at, past}
use Rattle.go_items.proofs.StandLemmas.{Left, at_start, one_more, at_end}
use Rattle.go_items.proofs.binds.declare.declare_all.Goals as goal

pub loop-item-init : goal.loop-item-init
loop-item-init c = λ k h. at_start k (map item_view c.args.items.now) (env_of c.args.env.now) h

pub loop-item-preserved : goal.loop-item-preserved
loop-item-preserved c = λ k h.
    let items = c.args.items.now in
    let all = map item_view items in
    let item = c.item-item.result in
    let e = env_of c.loop-item.env in
    one_more k (item_view item) (map item_view (drop (c.loop-item.item-index + 1) items)) all e (env_of c.declare_name.new.env) (env_of c.add_types.new.env) c.name_of.result.now c.name_of.ensures.value
    c.in_ok-declare_name.ensures.value c.in_ok-add_types.ensures.value
    (subst (λ (is : List Item). Left k (map item_view is) all e) (next_at items c.loop-item.item-index item c.loop-item-test.true c.item-item.is) (c.loop-item.invariant k h))

pub returns : goal.returns
returns c = record {
  value = λ k h.
      at_end k (map item_view c.args.items.now) (env_of c.loop-item.env)
      (subst (λ (is : List Item). Left k (map item_view is) (map item_view c.args.items.now) (env_of c.loop-item.env)) (past c.args.items.now c.loop-item.item-index c.loop-item-test.false) (c.loop-item.invariant k h));
}
