use Rattle.std.proofs.Common.{◌≡◌, ◌++◌, drop}
use Rattle.go_is_sound.proofs.facts.push_vars.Given as goal

abbrev pub invariant-loop-v : goal.invariant-loop-v
invariant-loop-v l = l.all.items ++ drop l.v-index l.vars ≡ l.fn.all.items ++ l.vars
