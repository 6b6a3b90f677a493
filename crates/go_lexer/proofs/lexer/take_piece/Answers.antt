use Rattle.std.proofs.Common.{length, sym, subst, ◌∙◌}
use Rattle.go_lexer.specs.Lexed.{Tells}
use Rattle.go_lexer.specs.declared.step.Step.TheVariants.{Token, Blank, Break, Build}
use Rattle.go_lexer.proofs.LexLemmas.{lexed_from-Bad, took}
use Rattle.go_lexer.proofs.PlacedLemmas.{IsPlaced-step}
use Rattle.go_lexer.proofs.lexer.take_piece.Goals as goal
use Rattle.go_lexer.proofs.lexer.take_piece.Goals.{in-Token+in_ok-token-in-Token, in-Blank, in-Break+in_ok-newline-in-Break, in-Build}

pub returns-in-Bad-clause-fault : goal.returns-in-Bad-clause-fault
returns-in-Bad-clause-fault c =
    subst (Tells c.fault.result c.args.file) (sym (lexed_from-Bad c.args.progress.now c.args.at c.args.text.now c.in-Bad.place c.in-Bad.code c.requires.some (sym c.step_at.ensures.value ∙ c.in-Bad.is))) c.fault.ensures

pub returns-clause-tokens : goal.returns-clause-tokens
returns-clause-tokens c =
    elim c.match-step_at.branch [
      | in-Token+in_ok-token-in-Token w ↦ took (Token w.in-Token.kind w.in-Token.width) c.args.progress.now _ c.match-step_at.width c.saturating_sub.result c.args.at c.args.file c.args.text.now c.requires.some (sym c.step_at.ensures.value ∙ w.in-Token.is) tt w.in-Token.ensures.within (w.progress-is ∙ w.in_ok-token-in-Token.ensures) w.width-is c.saturating_sub.ensures
      | in-Blank w ↦ took (Blank w.in-Blank.width) c.args.progress.now _ c.match-step_at.width c.saturating_sub.result c.args.at c.args.file c.args.text.now c.requires.some (sym c.step_at.ensures.value ∙ w.in-Blank.is) tt w.in-Blank.ensures.within w.progress-is w.width-is c.saturating_sub.ensures
      | in-Break+in_ok-newline-in-Break w ↦ took (Break w.in-Break.width) c.args.progress.now _ c.match-step_at.width c.saturating_sub.result c.args.at c.args.file c.args.text.now c.requires.some (sym c.step_at.ensures.value ∙ w.in-Break.is) tt w.in-Break.ensures.within (w.progress-is ∙ w.in_ok-newline-in-Break.ensures) w.width-is c.saturating_sub.ensures
      | in-Build w ↦ took (Build w.in-Build.width) c.args.progress.now _ c.match-step_at.width c.saturating_sub.result c.args.at c.args.file c.args.text.now c.requires.some (sym c.step_at.ensures.value ∙ w.in-Build.is) tt w.in-Build.ensures.within (w.progress-is ∙ w.build.ensures) w.width-is c.saturating_sub.ensures
    ]

pub returns-clause-within : goal.returns-clause-within
returns-clause-within c placed =
    elim c.match-step_at.branch [
      | in-Token+in_ok-token-in-Token w ↦ IsPlaced-step (Token w.in-Token.kind w.in-Token.width) c.args.progress.now _ c.args.file c.args.at (length c.args.text.now) c.match-step_at.width c.saturating_sub.result c.args.text.now tt w.in-Token.ensures.within (w.progress-is ∙ w.in_ok-token-in-Token.ensures) w.width-is c.saturating_sub.ensures placed
      | in-Blank w ↦ IsPlaced-step (Blank w.in-Blank.width) c.args.progress.now _ c.args.file c.args.at (length c.args.text.now) c.match-step_at.width c.saturating_sub.result c.args.text.now tt w.in-Blank.ensures.within w.progress-is w.width-is c.saturating_sub.ensures placed
      | in-Break+in_ok-newline-in-Break w ↦ IsPlaced-step (Break w.in-Break.width) c.args.progress.now _ c.args.file c.args.at (length c.args.text.now) c.match-step_at.width c.saturating_sub.result c.args.text.now tt w.in-Break.ensures.within (w.progress-is ∙ w.in_ok-newline-in-Break.ensures) w.width-is c.saturating_sub.ensures placed
      | in-Build w ↦ IsPlaced-step (Build w.in-Build.width) c.args.progress.now _ c.args.file c.args.at (length c.args.text.now) c.match-step_at.width c.saturating_sub.result c.args.text.now tt w.in-Build.ensures.within (w.progress-is ∙ w.build.ensures) w.width-is c.saturating_sub.ensures placed
    ]
