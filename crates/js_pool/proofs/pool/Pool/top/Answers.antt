use Rattle.std.proofs.Common.{◌≡◌, ◌∷◌, [], ◌++◌, ◌∙◌, ap}
use Rattle.js_pool.specs.Stands.{Grows, opened}
use Rattle.js_pool.proofs.Growth.{holds_more, grows_by, never, fails_grow}
use Rattle.js_pool.proofs.pool.Pool.top.Goals as goal

pub returns-in-Ok : goal.returns-in-Ok
unfolding opened
returns-in-Ok c =
    let k : Grows c.end_item.new.self (record c.end_item.new.self { items = c.push.new.self }) = grows_by _ _ (λ h. h) (λ i x h. h) (λ i x h. h) (λ i x h. h) (λ i x h. h) (λ i x h. h) (λ i x h. h) (holds_more _ _ (c.args.item ∷ []) c.in-Ok.ensures.items) in (
      (λ end g. c.end_item.ensures.0.0 end (k end g), c.end_item.ensures.0.1),
      λ end g. c.in-Ok.ensures.items ∙ ap (λ xs. xs ++ c.args.item ∷ []) (c.end_item.ensures.1 end (k end g)),
    )

pub returns-in-Err : goal.returns-in-Err
unfolding opened
returns-in-Err c = ((fails_grow _ _ c.fail.ensures.0, c.fail.ensures.1 ∙ c.end_item.ensures.0.1), λ end g. absurd (never _ _ c.fail.ensures.0 g))
