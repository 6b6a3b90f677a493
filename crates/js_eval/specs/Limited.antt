-- own: calls nested at most so deep, and what is done where they nest deeper.
use Rattle.std.specs.Prelude.{ℕ, zero, suc, List}
use Rattle.js_tree.specs.Script.{Function, ScriptTree}
use Rattle.js_tree.specs.Value.{Value, World, Going, over}
use Rattle.js_tree.specs.Evaluate.{Setting, Called, body_does}

-- what a call does that is nested deeper than it may, with so much left of the fuel
abbrev pub Deeper : Type 0
Deeper = ℕ → Function → List Value → World → Called

-- as `enter_within`, but calls nested deeper than so deep do what is given
abbrev pub enter_limited : Deeper → ScriptTree → List ℕ → ℕ → ℕ → Function → List Value → World → Called
enter_limited deeper script choices zero n f vs w = deeper n f vs w
enter_limited deeper script choices (suc d) zero f vs w = over Going w
enter_limited deeper script choices (suc d) (suc n) f vs w =
    body_does (record { script = script; choices = choices; enter = enter_limited deeper script choices d n }) f vs w

-- what parts of a script are evaluated with, where calls may nest so deep
abbrev pub limited : Deeper → ScriptTree → List ℕ → ℕ → ℕ → Setting
limited deeper script choices d n = record { script = script; choices = choices; enter = enter_limited deeper script choices d n }
