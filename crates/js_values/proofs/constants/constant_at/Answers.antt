use Rattle.std.proofs.Common.{sym, subst, rules}
use Rattle.std.specs.Int.{w128}
use Rattle.std.specs.Int.RustNames.{FitsSigned}
use Rattle.std.proofs.lemmas.Int.{to_z-of_z}
use Rattle.go_core.specs.CoreView.{constant_of}
use Rattle.go_core.specs.declared.node.Constant.{Constant}
use Rattle.js_body.specs.State.{State}
use Rattle.js_body.specs.Tells.{Runs}
use Rattle.js_values.specs.Values.{constant_done, text_done}
use Rattle.js_values.proofs.constants.constant_at.Goals as goal

pub returns-in-Bool : goal.returns-in-Bool
returns-in-Bool c = subst (λ (v : Constant). Runs c.args.b.now c.push_truth.new.self (λ (s : State). constant_done c.args.kind (constant_of v) s)) (sym c.in-Bool.is) c.push_truth.ensures

pub returns-in-Text : goal.returns-in-Text
returns-in-Text c = subst (λ (v : Constant). Runs c.args.b.now c.text.new.b (λ (s : State). constant_done c.args.kind (constant_of v) s)) (sym c.in-Text.is) (subst (λ bs. Runs c.args.b.now c.text.new.b (text_done bs)) c.as_bytes.ensures c.text.ensures)

pub returns-in-Int : goal.returns-in-Int
returns-in-Int c =
    let f : FitsSigned w128 c.in-Int.n = search rules in
    let w = simp to_z-of_z at c.number.ensures.1 in
    subst (λ (v : Constant). Runs c.args.b.now c.number.new.b (λ (s : State). constant_done c.args.kind (constant_of v) s)) (sym c.in-Int.is) (c.number.ensures.0, w)
