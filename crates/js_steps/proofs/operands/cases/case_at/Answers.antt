use Rattle.std.proofs.Common.{sym}
use Rattle.js_steps.proofs.Chosen.{case_there, case_below, no_cases_there}
use Rattle.js_steps.proofs.operands.cases.case_at.Goals as goal

pub returns-in-Some : goal.returns-in-Some
returns-in-Some c = record {
  value = λ s. case_there c.args.code.now c.args.i c.in-Some.part c.case_in.result s (sym c.in-Some.ensures.value) c.case_in.ensures.value;
  below = λ s. case_below c.args.code.now c.args.i c.in-Some.part c.case_in.result s (sym c.in-Some.ensures.value) c.case_in.ensures.below;
}

pub returns-in-None : goal.returns-in-None
returns-in-None c = record { value = λ s. no_cases_there c.args.code.now c.args.i (sym c.in-None.ensures.value); below = λ s. tt }
