use Rattle.gj_base.proofs.MemorySinkLemmas.{refused_in, failed_in}
use Rattle.gj_base.proofs.vec_sink.VecSinkSink.write.Goals as goal

pub returns-in-Err-clause-writes : goal.returns-in-Err-clause-writes
returns-in-Err-clause-writes c = refused_in c.args.self.now c.take.new.self c.in-Err.ensures.refusals_rose c.in-Err.ensures.refused

pub returns-in-Ok-take_in_part-clause-writes : goal.returns-in-Ok-take_in_part-clause-writes
returns-in-Ok-take_in_part-clause-writes c =
    let did = c.in-Ok-take_in_part.ensures in
    failed_in c.args.self.now c.take_in_part.new.self c.args.piece.now c.in-Some.after did.rose did.value

pub returns-in-Err-take_in_part-clause-writes : goal.returns-in-Err-take_in_part-clause-writes
returns-in-Err-take_in_part-clause-writes c =
    let did = c.in-Err-take_in_part.ensures in
    refused_in c.args.self.now c.take_in_part.new.self did.refusals_rose did.refused
