use Rattle.std.proofs.Common.{◌∙◌, ap}
use Rattle.std.proofs.lemmas.Result.{on_ok_weaker}
use Rattle.go_core.specs.Control.{with_first}
use Rattle.go_state.specs.StateSeen.{bound_first, frame_of, vars_of}
use Rattle.go_partners.proofs.DoneLemmas.{clause_first}
use Rattle.go_partners.proofs.exchanges.done.go_on.Goals as goal

pub returns : goal.returns
returns c = record {
  value = on_ok_weaker c.bind.result (λ h ts.
      let vs = vars_of ts c.args.clause.vars.now in
      h ts ∙ ap (with_first (bound_first vs)) (c.in_ok-before.ensures.value ts) ∙ clause_first ts vs c.args.clause.body.now (frame_of ts c.args.f.now)) c.bind.ensures.value;
}
