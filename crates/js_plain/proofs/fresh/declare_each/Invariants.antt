use Rattle.js_plain.specs.Fresh.{RunsVars, declared_upto}
use Rattle.js_plain.proofs.fresh.declare_each.Given as goal

abbrev pub invariant-loop-i : goal.invariant-loop-i
invariant-loop-i l = RunsVars l.initial.b l.b l.fresh (declared_upto l.i l.fresh)
