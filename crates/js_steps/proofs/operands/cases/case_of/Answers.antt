use Rattle.std.proofs.Common.{refl, sym, ◌∙◌}
use Rattle.js_code.specs.Parts.{cases_at, trees_of}
use Rattle.js_value.specs.HeapSeen.{value_of}
use Rattle.js_steps.proofs.Chosen.{case_found, case_passed, rest_below}
use Rattle.js_steps.proofs.operands.cases.case_of.Goals as goal

pub loop-case-init : goal.loop-case-init
loop-case-init c = λ s st sc f. refl

pub returns-then-is_number : goal.returns-then-is_number
returns-then-is_number c = record {
  value = λ s st sc f.
      let ts = trees_of c.args.body.now.code in
      let k = c.in-Some.ensures.value s in
      c.loop-case.invariant s st sc f
      ∙ case_found (cases_at ts c.loop-case.list) (cases_at ts c.in-Some.case.rest) c.in-Some.case.n k.0 (value_of c.args.v) k.1 (sym c.is_number.ensures.value ∙ c.if-is_number.true) st sc f;
}

pub loop-case-preserved : goal.loop-case-preserved
loop-case-preserved c = λ s st sc f.
    let ts = trees_of c.args.body.now.code in
    let k = c.in-Some.ensures.value s in
    c.loop-case.invariant s st sc f
    ∙ case_passed (cases_at ts c.loop-case.list) (cases_at ts c.in-Some.case.rest) c.in-Some.case.n k.0 (value_of c.args.v) k.1 (sym c.is_number.ensures.value ∙ c.if-is_number.false) st sc f

pub loop-case-smaller : goal.loop-case-smaller
loop-case-smaller c = rest_below c.args.body.now.code c.loop-case.list c.in-Some.case c.args.body.now.sound c.in-Some.ensures.below

pub returns : goal.returns
returns c = record { value = λ s st sc f. c.loop-case.invariant s st sc f ∙ c.in_default.ensures.value s st sc (value_of c.args.v) f }
