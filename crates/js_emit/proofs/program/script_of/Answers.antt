use Rattle.std.proofs.Common.{codes, sym, ◌∙◌}
use Rattle.js_emit.proofs.Last.{is_last}
use Rattle.js_emit.proofs.program.script_of.Goals as goal

pub returns-clause-last : goal.returns-clause-last
returns-clause-last c h =
    let l = is_last c.args.b.now.pool c.args.reach.now.reached.items c.add_items.new.items.items c.add_kept.new.items.items (codes "$start") c.in_ok-add_kept.ensures h in
    (l.0, l.1, l.2, l.3, l.4, l.5 ∙ sym c.in_ok-from_slice.ensures.value)
