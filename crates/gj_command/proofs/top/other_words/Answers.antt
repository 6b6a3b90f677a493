use Rattle.gj_command.proofs.top.other_words.Goals as goal

pub returns-in-Ok : goal.returns-in-Ok
returns-in-Ok g c = (
  c.perform.ensures.0,
  c.perform.ensures.1,
  (λ named. absurd (c.perform.ensures.2 named), λ none. let never = c.in-Ok.ensures.usage none in absurd (cc)),
  c.perform.ensures.3,
)
