use Rattle.std.proofs.Common.{◌+◌, min, ap}
use Rattle.js_body.specs.State.{Around}
use Rattle.js_body.specs.Tells.{around}
use Rattle.js_body.proofs.Steps.{parts_near}
use Rattle.js_body.proofs.body.Body.enter_loop.Goals as goal

pub returns : goal.returns
returns c =
    let m = c.make_room.new.self in (
      c.make_room.ensures.0,
      λ l s t. parts_near _ _ _ _ _ _ _ s (λ (near : Around). record near { loops = min (near.loops + 1) 4294967295 }) (ap (λ n. record (around m) { loops = n }) c.saturating_add-self.ensures) (c.make_room.ensures.1 l s t),
    )
