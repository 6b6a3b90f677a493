use Rattle.std.proofs.Common.{◌∙◌, sym, arith}
use Rattle.go_values.specs.ValuesSeen.{values_of}
use Rattle.go_state.specs.StateSeen.{frame_of}
use Rattle.go_entries.proofs.AssignLemmas.{some_first, none_first}
use Rattle.go_entries.proofs.assign_steps.assign.rest_first.Goals as goal

pub returns-then-rest-len : goal.returns-then-rest-len
returns-then-rest-len c = record {
  value = λ ts p g.
      let r = c.args.rest in
      let counted = r.targets.now.items.ok.0 in
      sym (none_first p g (values_of ts r.operands.now) (values_of ts r.values.now) (frame_of ts c.args.f.now) ts r.targets.now r.from (omega (arith, counted, c.len.ensures, c.if-rest-len.true)));
}

pub returns : goal.returns
returns c = record {
  value = λ ts p g.
      let r = c.args.rest in
      let counted = r.targets.now.items.ok.0 in
      c.in_ok-before.ensures.value ts
      ∙ sym (some_first p g (values_of ts r.operands.now) (values_of ts r.values.now) (frame_of ts c.args.f.now) ts r.targets.now r.from (omega (arith, counted, c.len.ensures, c.if-rest-len.false)));
}
