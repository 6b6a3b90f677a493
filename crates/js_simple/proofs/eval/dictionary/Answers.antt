use Rattle.std.proofs.Common.{◌≡◌, [], rules}
use Rattle.js_simple.proofs.eval.dictionary.Goals as goal

pub returns : goal.returns
returns c = record { value = λ w. let e : c.in_ok-entries.entries.value.entries ≡ [] = first_of (cc, search rules) in rw e at (c.allocate.ensures.value w) }
