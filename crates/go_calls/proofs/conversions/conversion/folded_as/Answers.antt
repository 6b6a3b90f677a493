use Rattle.go_const.specs.Operation.{IsStr}
use Rattle.go_const.specs.Answer.{conversion_of}
use Rattle.go_calls.proofs.ConversionsConstLemmas.{any_memory}
use Rattle.go_calls.proofs.conversions.conversion.folded_as.Goals as goal

pub returns-clause-view : goal.returns-clause-view
returns-clause-view c = c.folded.ensures.view (conversion_of c.args.k.now c.args.to) (any_memory (IsStr c.args.to) c.convert-answer.result (conversion_of c.args.k.now c.args.to) c.convert-answer.ensures.answer)
