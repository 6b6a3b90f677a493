-- How tables begin.
use Rattle.std.specs.Prelude.{◌≡◌, []}
use Rattle.js_pool.specs.Tree as tree
use Rattle.js_pool.specs.Stands.{Stands, Later, Opened, opened}
use Rattle.js_pool.specs.declared.pool.Pool.{Pool}

abbrev pub no_open : Opened
no_open = record { lines = []; rest = []; arms = [] }

-- no list is open, and nothing is made but expression 0, which is `null`
abbrev pub Begins : Pool → Type 0
Begins p = (opened p ≡ no_open) × ((end : Pool) → Later p end → (p.items.items ≡ []) × Stands end (record { 0 = 0 }) tree.null)
