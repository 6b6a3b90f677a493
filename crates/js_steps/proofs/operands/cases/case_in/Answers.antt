use Rattle.std.proofs.Common.{refl, sym, subst, Some}
use Rattle.js_code.specs.Held.{part_of}
use Rattle.js_code.specs.Parts.{as_cases, stmts_at, tree_of}
use Rattle.js_code.specs.PartClauses.{AreBelow, parts_in}
use Rattle.js_code.specs.declared.code.part.Part as kept
use Rattle.js_steps.specs.Cases.{IsCaseOf}
use Rattle.js_steps.proofs.Chosen.{no_case}
use Rattle.js_steps.proofs.operands.cases.case_in.Goals as goal

pub returns-in-Case : goal.returns-in-Case
returns-in-Case c = record {
  value = λ ts.
      subst (λ (p : kept.Part). IsCaseOf ts (as_cases (Some (tree_of ts (part_of p)))) (Some (record { n = c.in-Case.n; rest = c.in-Case.rest })))
      (sym c.in-Case.is) (stmts_at ts c.in-Case.body, refl);
  below = λ k h. (subst (λ (p : kept.Part). AreBelow k (parts_in (part_of p))) c.in-Case.is h).0;
}

pub returns-in_default : goal.returns-in_default
returns-in_default c = record { value = λ ts. no_case c.args.part c.in_default.not-Case ts; below = λ k h. tt }
