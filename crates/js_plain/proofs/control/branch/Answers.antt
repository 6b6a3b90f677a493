use Rattle.std.proofs.Common.{sym, ap, ◌∙◌}
use Rattle.go_core.specs.declared.statement.BranchKind.{BranchKind}
use Rattle.js_body.specs.declared.body.Exits.{Exits}
use Rattle.js_body.specs.State.{exits_of}
use Rattle.js_body.specs.StepLaws.{parts_same}
use Rattle.js_plain.specs.Control.{branched_by}
use Rattle.js_plain.proofs.control.branch.Goals as goal

pub returns-in-Break : goal.returns-in-Break
returns-in-Break c = (
  c.leave_at.ensures.0,
  λ l s t.
      parts_same _ _ _ _ _ _ _ _ (ap (λ (k : BranchKind). branched_by k c.exits_of-exits.result c.args.label s) (sym c.in-Break.is) ∙ ap (λ (e : Exits). branched_by c.args.kind e c.args.label s) (c.exits_of-exits.ensures s t)) (c.leave_at.ensures.1 l s t),
)

pub returns-in-Continue : goal.returns-in-Continue
returns-in-Continue c = (
  c.go_on.ensures.0,
  λ l s t.
      parts_same _ _ _ _ _ _ _ _ (ap (λ (k : BranchKind). branched_by k c.exits_of-exits.result c.args.label s) (sym c.in-Continue.is) ∙ ap (λ (e : Exits). branched_by c.args.kind e c.args.label s) (c.exits_of-exits.ensures s t)) (c.go_on.ensures.1 l s t),
)
