use Rattle.std.proofs.Common.{◌≡◌, ℕ, Bool, [], List, length, take, sym, subst, append-nil, length-take, arith}
use Rattle.std.proofs.lemmas.List.{take_all}
use Rattle.js_pool.specs.Says as says
use Rattle.js_pool.specs.declared.node.Item.{Item}
use Rattle.js_emit.specs.Items.{AddsTrees, kept, is_kept}
use Rattle.js_emit.proofs.Kept.{kept_turn}
use Rattle.js_emit.proofs.items.add_kept.Goals as goal

pub loop-n-init : goal.loop-n-init
loop-n-init c = ([], sym (append-nil _), says.top_none)

pub loop-n-preserved : goal.loop-n-preserved
loop-n-preserved c =
    let xs = c.args.pool.now.items.items in
    let h = c.in_ok-add_one.ensures in
    let keeps : ℕ → Bool = is_kept c.args.reach.now.reached.items (length xs) in
    let l : length (take c.loop-n.n xs) ≡ c.loop-n.n = omega (arith, length-take c.loop-n.n xs) in
    kept_turn c.args.pool.now keeps xs c.loop-n.n h.0 _ _ _ l h.1 c.loop-n.invariant h.2

pub returns : goal.returns
returns c =
    let made = c.args.pool.now.items.items in
    subst (λ (xs : List Item). AddsTrees c.args.pool.now (kept (is_kept c.args.reach.now.reached.items (length made)) 0 xs) c.args.items.now.items c.loop-n.items.items) (take_all c.loop-n.n made (omega arith)) c.loop-n.invariant
