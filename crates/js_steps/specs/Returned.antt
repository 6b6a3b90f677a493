-- Own: what a completion gives the call whose body it ends.
use Rattle.std.specs.Prelude.{Option, None}
use Rattle.js_tree.specs.Value.{Value}
use Rattle.js_tree.specs.Evaluate.{Flow, returns}

abbrev pub returned : Flow → Option Value
returned (returns v) = v
returned _ = None
