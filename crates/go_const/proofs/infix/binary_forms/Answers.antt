use Rattle.std.proofs.Common.{subst, sym, false, true, rules}
use Rattle.std.specs.Int.{w128}
use Rattle.std.specs.Int.RustNames.{FitsSigned}
use Rattle.std.proofs.lemmas.Int.{to_z-of_z}
use Rattle.go_const.specs.declared.constant.Const.{Const}
use Rattle.go_const.specs.Operation.{TakesMemory}
use Rattle.go_const.specs.Answer.{OrNoMemory, with_number, binary_answer}
use Rattle.go_const.proofs.Laws.{with_number_plain}
use Rattle.go_const.proofs.infix.binary_forms.Goals as goal

pub returns-in-Int : goal.returns-in-Int
returns-in-Int c =
    let f : FitsSigned w128 c.in-Int.x = search rules in
    let h : OrNoMemory ⊥ c.number_and.result (with_number c.args.op c.args.kind false c.in-Int.x c.args.y.now) =
    simp to_z-of_z at (with_number_plain c.args.op c.args.kind false _ c.args.y.now c.number_and.result c.number_and.ensures) in
    subst (λ (k : Const). OrNoMemory (TakesMemory c.args.op k c.args.y.now) c.number_and.result (binary_answer c.args.op c.args.kind k c.args.y.now)) (sym c.in-Int.is) h

pub returns-in-Rune : goal.returns-in-Rune
returns-in-Rune c =
    let f : FitsSigned w128 c.in-Rune.x = search rules in
    let h : OrNoMemory ⊥ c.number_and-in-Rune.result (with_number c.args.op c.args.kind true c.in-Rune.x c.args.y.now) =
    simp to_z-of_z at (with_number_plain c.args.op c.args.kind true _ c.args.y.now c.number_and-in-Rune.result c.number_and-in-Rune.ensures) in
    subst (λ (k : Const). OrNoMemory (TakesMemory c.args.op k c.args.y.now) c.number_and-in-Rune.result (binary_answer c.args.op c.args.kind k c.args.y.now)) (sym c.in-Rune.is) h
