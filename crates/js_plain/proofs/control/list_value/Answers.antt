use Rattle.js_body.specs.State.{value_at}
use Rattle.js_body.specs.Tells.{around}
use Rattle.js_body.specs.Later.{stands_later}
use Rattle.js_body.specs.ListLaws.{parts_item}
use Rattle.js_body.specs.StepLaws.{from_here}
use Rattle.js_plain.proofs.control.list_value.Goals as goal

pub returns : goal.returns
returns c =
    let b = c.args.b.now in
    let q = c.item.new.self in (
      c.item.ensures.0,
      λ l s t. parts_item b.pool q b.stack.items b.temps b.declared.items (around b) s c.value_at-o.result.e (value_at c.args.place s).tree c.item.ensures l (stands_later (from_here b.pool q c.item.ensures.0 l) (c.value_at-o.ensures s t).stands) t,
    )
