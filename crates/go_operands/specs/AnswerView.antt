-- What the answers of the code stand for: those of the definitions, with types as trees.
use Rattle.std.specs.Prelude.{List, [], ◌∷◌, map, None}
use Rattle.go_type.specs.Tree.{Ty}
use Rattle.go_type.specs.Tree as ty
use Rattle.go_type.specs.Levels.{tree_of}
use Rattle.go_core.specs.CoreTree as core
use Rattle.go_core.specs.CoreView.{expr_view, exprs_view}
use Rattle.go_typing.specs.Env.{nowhere}
use Rattle.go_typing.specs.Answer.{Flaw, flaw, wrong, untyped_part, value, pending, type_, package_, built_in, blank, does, fixed, shifted, further, signed, joined}
use Rattle.go_typing.specs.Answer as tree
use Rattle.go_typing.specs.Operand.{typed, constant_operand, truth_operand, pending_operand, nil_operand, untyped_constant, truth_value, passed, unassignable, settled, unsettled}
use Rattle.go_typing.specs.Operand as operands
use Rattle.go_operands.specs.declared.answers.answer.Flaw as flaws
use Rattle.go_operands.specs.declared.answers.answer.Flaws.{Flaws}
use Rattle.go_operands.specs.declared.answers.answer.PendingForm.{PendingForm, PendingForm-F, fold-PendingForm}
use Rattle.go_operands.specs.declared.answers.answer.PendingForm.TheOpen.{Pending-F}
use Rattle.go_operands.specs.declared.answers.answer.Pending.{Pending, fold-Pending}
use Rattle.go_operands.specs.declared.answers.answer.Operand.{Operand}
use Rattle.go_operands.specs.declared.answers.answer.Operand.TheVariants as operand
use Rattle.go_operands.specs.BuiltinView.{builtin_view}
use Rattle.go_operands.specs.declared.answers.answer.Answer.{Answer}
use Rattle.go_operands.specs.declared.answers.answer.Answer.TheVariants as answer
use Rattle.go_operands.specs.declared.answers.answer.Passed.{Passed}
use Rattle.go_operands.specs.declared.answers.answer.Passed.TheVariants as «passes»
use Rattle.go_operands.specs.declared.answers.answer.Settled.{Settled}
use Rattle.go_operands.specs.declared.answers.answer.Settled.TheVariants as settles

abbrev pub flaw_view : flaws.Flaw → Flaw
flaw_view f = record { place = f.place; code = f.code; name = f.name }

abbrev pub flaws_view : Flaws → List Flaw
flaws_view fs = map flaw_view fs.items.items

-- the first of faults, and those after it. There is one at least: what stands for none never comes.
abbrev pub first_of : List Flaw → Flaw
first_of [] = flaw nowhere 0
first_of (f ∷ fs) = f

abbrev pub others_of : List Flaw → List Flaw
others_of [] = []
others_of (f ∷ fs) = fs

-- with the trees of the table's ids
module _ (ts : List Ty) where
  abbrev pub pending_step : PendingForm-F tree.Pending tree.Pending → tree.Pending
  pending_step (PendingForm-F.Fixed at k) = fixed at k
  pending_step (PendingForm-F.Shifted at op k count) = shifted at op k (expr_view ts count)
  pending_step (PendingForm-F.Further op p count) = further op p (expr_view ts count)
  pending_step (PendingForm-F.Signed op p) = signed op p
  pending_step (PendingForm-F.Joined op p q) = joined op p q

  abbrev pub pending_in : Pending-F tree.Pending tree.Pending → tree.Pending
  pending_in p = p.form.value

  -- the number that a form, and that a number of a form, stands for
  abbrev pub pending_form_view : PendingForm → tree.Pending
  pending_form_view = fold-PendingForm tree.Pending tree.Pending pending_step pending_in

  abbrev pub pending_view : Pending → tree.Pending
  pending_view = fold-Pending tree.Pending tree.Pending pending_step pending_in

  abbrev pub operand_view : Operand → operands.Operand
  operand_view (operand.Typed f) = typed (expr_view ts f.core) (tree_of ts f.ty) f.value
  operand_view (operand.Constant k) = constant_operand k
  operand_view (operand.Truth c) = truth_operand (expr_view ts c)
  operand_view (operand.Pending p b) = pending_operand (pending_view p) b
  operand_view operand.Nil = nil_operand

  abbrev pub answer_view : Answer → tree.Answer
  answer_view (answer.Value f) = value (expr_view ts f.core) (tree_of ts f.ty) f.value
  answer_view (answer.Constant k) = untyped_constant k
  answer_view (answer.Truth c) = truth_value (expr_view ts c)
  answer_view answer.Nil = value (core.zero_value ty.nil) ty.nil None
  answer_view (answer.Pending p b) = pending (pending_view p) b
  answer_view (answer.Type t) = type_ (tree_of ts t)
  answer_view (answer.Package path) = package_ path
  answer_view (answer.BuiltIn b) = built_in (builtin_view b)
  answer_view answer.Blank = blank
  answer_view (answer.Prints es ends_line) = does (core.print (exprs_view ts es) ends_line)
  answer_view (answer.Wrong fs) = wrong (first_of (flaws_view fs)) (others_of (flaws_view fs))
  answer_view answer.Unknown = untyped_part

  abbrev pub passed_view : Passed → operands.Passed
  passed_view («passes».Value c v) = passed (expr_view ts c) v
  passed_view («passes».Refused fs) = operands.refused (first_of (flaws_view fs)) (others_of (flaws_view fs))
  passed_view «passes».Unassignable = unassignable

  abbrev pub settled_view : Settled → operands.Settled
  settled_view (settles.Value f) = settled (expr_view ts f.core) (tree_of ts f.ty) f.value
  settled_view (settles.Refused fs) = unsettled (first_of (flaws_view fs)) (others_of (flaws_view fs))
