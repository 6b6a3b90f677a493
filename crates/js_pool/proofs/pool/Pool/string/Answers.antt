use Rattle.std.proofs.Common.{ap, ◌∙◌}
use Rattle.js_pool.specs.Tree as tree
use Rattle.js_pool.specs.Stands as stands
use Rattle.js_pool.proofs.pool.Pool.string.Goals as goal

pub returns : goal.returns
returns c =
    let e = c.string.ensures ∙ ap tree.string c.in_ok-text.ensures.value in
    rw e (stands.string (rw c.as_slice.ensures.value at c.in_ok-part.ensures))
