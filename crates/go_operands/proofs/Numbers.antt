-- The trees of untyped numbers, and what a number of a form stands for.
use Rattle.std.specs.Prelude.{◌≡◌, List, Result, Ok, Err, IfOk}
use Rattle.std.proofs.Common.{◌∙◌}
use Rattle.gj_base.specs.declared.kind.Op.{Op}
use Rattle.gj_base.specs.declared.place.Place.{Place}
use Rattle.go_const.specs.declared.constant.Const.{Const}
use Rattle.go_type.specs.Tree.{Ty}
use Rattle.go_core.specs.declared.node.CoreExpr.{CoreExpr}
use Rattle.go_core.specs.CoreView.{expr_view}
use Rattle.go_typing.specs.Answer as tree
use Rattle.go_operands.specs.AnswerView.{pending_view, pending_form_view}
use Rattle.go_operands.specs.declared.answers.answer.Pending.{Pending}
use Rattle.go_operands.specs.declared.answers.answer.PendingForm.{PendingForm, fold-roll-PendingForm}
use Rattle.go_operands.specs.declared.answers.answer.PendingForm.TheVariants as number

pub number_made : {E : Type 0} (r : Result Pending E) (f : PendingForm) (x : List Ty → tree.Pending) → ((ts : List Ty) → pending_form_view ts f ≡ x ts)
    → IfOk r (λ p. (ts : List Ty) → pending_view ts p ≡ pending_form_view ts f) → IfOk r (λ p. (ts : List Ty) → pending_view ts p ≡ x ts)
number_made (Ok p) f x h k = λ ts. k ts ∙ h ts
number_made (Err e) f x h k = k

pub fixed_view : (ts : List Ty) (at : Place) (k : Const) → pending_form_view ts (number.Fixed at k) ≡ tree.fixed at k
fixed_view ts at k = rw (← number.rolls-Fixed, fold-roll-PendingForm)

pub shifted_view : (ts : List Ty) (at : Place) (op : Op) (k : Const) (c : CoreExpr) → pending_form_view ts (number.Shifted at op k c) ≡ tree.shifted at op k (expr_view ts c)
shifted_view ts at op k c = rw (← number.rolls-Shifted, fold-roll-PendingForm)

pub further_view : (ts : List Ty) (op : Op) (p : Pending) (c : CoreExpr) → pending_form_view ts (number.Further op p c) ≡ tree.further op (pending_view ts p) (expr_view ts c)
further_view ts op p c = rw (← number.rolls-Further, fold-roll-PendingForm)

pub signed_view : (ts : List Ty) (op : Op) (p : Pending) → pending_form_view ts (number.Signed op p) ≡ tree.signed op (pending_view ts p)
signed_view ts op p = rw (← number.rolls-Signed, fold-roll-PendingForm)

pub joined_view : (ts : List Ty) (op : Op) (p q : Pending) → pending_form_view ts (number.Joined op p q) ≡ tree.joined op (pending_view ts p) (pending_view ts q)
joined_view ts op p q = rw (← number.rolls-Joined, fold-roll-PendingForm)
