use Rattle.go_calls.specs.Words.{types_of, names_of}
use Rattle.go_assign.specs.SpecView.{spec_view}
use Rattle.go_body.proofs.ConstLemmas.{miscounted_does}
use Rattle.go_body.proofs.local_consts.consts.miscounted.Goals as goal

pub returns-in-Ok-unknown_consts : goal.returns-in-Ok-unknown_consts
returns-in-Ok-unknown_consts c =
    let e = c.args.walk.now.env in
    let ts = types_of e in
    record {
      does = λ out.
          miscounted_does (names_of e) c.args.at c.first_at-first.result (spec_view ts c.args.s) c.args.names.now ts c.args.raws.items.items c.args.walk.now c.unknown_consts.new.walk c.args.flaws.now.items c.count_told.new.flaws.items c.unknown_consts.new.flaws.items out c.requires.counts c.first_at-first.ensures.value
          (c.in-Ok.ensures.told ts) (c.in-Ok-unknown_consts.ensures.does out);
    }
