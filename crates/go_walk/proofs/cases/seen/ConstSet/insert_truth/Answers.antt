use Rattle.std.proofs.Common.{◌∙◌, ap, sym, Bool, ◌||◌}
use Rattle.go_const.specs.declared.constant.Const.TheVariants as form
use Rattle.go_typing.specs.Statements.{same_constant}
use Rattle.go_walk.specs.CasesHas.{has_const}
use Rattle.go_walk.proofs.CasesHasLemmas.{true_in, false_in}
use Rattle.go_walk.proofs.cases.seen.ConstSet.insert_truth.Goals as goal

pub returns-then-b : goal.returns-then-b
returns-then-b c = record { value = λ q. true_in q c.args.self.now ∙ ap (λ (b : Bool). same_constant q (form.Bool b) || has_const q c.args.self.now) (sym c.if-b.true) }

pub returns : goal.returns
returns c = record { value = λ q. false_in q c.args.self.now ∙ ap (λ (b : Bool). same_constant q (form.Bool b) || has_const q c.args.self.now) (sym c.if-b.false) }
