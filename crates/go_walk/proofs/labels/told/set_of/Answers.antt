use Rattle.std.proofs.Common.{◌∙◌, sym, ap, ℕ, List, Bool, ◌||◌, ◌+◌, drop, bytes_eq}
use Rattle.std.specs.Borrow.{Bor}
use Rattle.go_walk.specs.SetsHas.{has_name}
use Rattle.go_typing.specs.Labels.{is_among}
use Rattle.go_walk.specs.Seen.{texts}
use Rattle.go_walk.proofs.LabelsSteps.{next_at, past, or_false, moved_over}
use Rattle.go_walk.proofs.labels.told.set_of.Goals as goal

pub loop-x-init : goal.loop-x-init
loop-x-init c = λ y. ap (λ (b : Bool). b || is_among y (texts c.args.xs.now)) (c.new-set.ensures y)

pub loop-x-preserved : goal.loop-x-preserved
loop-x-preserved c = λ y.
    ap (λ (b : Bool). b || is_among y (texts (drop (c.loop-x.x-index + 1) c.args.xs.now))) (c.in_ok-insert.ensures.value y)
    ∙ moved_over (has_name y c.loop-x.set) (bytes_eq y c.x-item.result.now) (is_among y (texts (drop (c.loop-x.x-index + 1) c.args.xs.now)))
    ∙ ap (λ (zs : List (Bor (List ℕ))). has_name y c.loop-x.set || is_among y (texts zs)) (sym (next_at c.args.xs.now c.loop-x.x-index c.x-item.result c.loop-x-test.true c.x-item.is))
    ∙ c.loop-x.invariant y

pub returns : goal.returns
returns c = record {
  value = λ y.
      sym (or_false (has_name y c.loop-x.set))
      ∙ ap (λ (zs : List (Bor (List ℕ))). has_name y c.loop-x.set || is_among y (texts zs)) (sym (past c.args.xs.now c.loop-x.x-index c.loop-x-test.false))
      ∙ c.loop-x.invariant y;
}
