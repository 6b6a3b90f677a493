use Rattle.std.proofs.Common.{◌∙◌, sym, subst}
use Rattle.std.proofs.lemmas.Bool.{false≢true}
use Rattle.go_core.specs.CoreView.{target_view}
use Rattle.go_core.specs.Sound.{SoundTarget}
use Rattle.go_core.specs.declared.statement.Target.{Target}
use Rattle.go_sound_parts.specs.Given.{item_of}
use Rattle.go_sound_nodes.specs.Around.{around, program_in, trees_in}
use Rattle.go_sound_nodes.proofs.judge.Judge.takes.Goals as goal
use Rattle.go_sound_nodes.proofs.judge.Judge.takes.Goals.{then-expr, else-expr, then-expr-2, else-expr-2}

pub returns-then-gives : goal.returns-then-gives
returns-then-gives c = record {
  is = λ known h.
      let j = c.args.self.now in
      let ts = trees_in j in
      let entry = c.entry_fits.ensures.is h in
      elim c.if-expr-2.branch [
        | then-expr-2 w2 ↦ elim c.if-expr.branch [
          | then-expr w1 ↦
              subst (λ (x : Target). SoundTarget (program_in j) (around j c.args.round.now) (target_view ts x) (item_of ts c.args.item)) (sym c.in-Entry.is)
              (c.expr.ensures.is known w1.if-expr.true, w1.expr-then-expr.ensures.is known (sym w1.value-is ∙ w2.if-expr-2.true), w2.gives.ensures.is (sym w2.value-is ∙ c.if-gives.true), entry.0, entry.1, entry.2)
          | else-expr w1 ↦ absurd (false≢true (sym w1.if-expr.false ∙ sym w1.value-is ∙ w2.if-expr-2.true))
        ]
        | else-expr-2 w2 ↦ absurd (false≢true (sym w2.if-expr-2.false ∙ sym w2.value-is ∙ c.if-gives.true))
      ];
}
