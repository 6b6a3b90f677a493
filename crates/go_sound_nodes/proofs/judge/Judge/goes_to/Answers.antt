use Rattle.go_sound_nodes.proofs.judge.Judge.goes_to.Goals as goal

pub returns-then-may_declare_all : goal.returns-then-may_declare_all
returns-then-may_declare_all c = record {
  is = λ h.
      let r = c.receives_into.ensures.is h in
      (c.may_declare_all.ensures.is c.if-may_declare_all.true, r.0, r.1, r.2);
}
