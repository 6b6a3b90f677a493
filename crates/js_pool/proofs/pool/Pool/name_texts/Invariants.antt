use Rattle.std.proofs.Common.{◌≡◌, map, take}
use Rattle.js_pool.specs.Names.{name_bytes}
use Rattle.js_pool.proofs.pool.Pool.name_texts.Given as goal

abbrev pub invariant-loop-i : goal.invariant-loop-i
invariant-loop-i l = l.texts.items ≡ map name_bytes (take l.i l.part)
