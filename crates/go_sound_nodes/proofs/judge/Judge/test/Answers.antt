use Rattle.go_sound_nodes.specs.Around.{trees_in}
use Rattle.go_sound_nodes.proofs.judge.Judge.test.Goals as goal

pub returns-then-truth : goal.returns-then-truth
returns-then-truth c = record {
  is = λ known h.
      let t = c.truth.ensures.is known c.if-truth.true in
      (t.0, t.1, c.has_clause.ensures.is h (trees_in c.args.self.now));
}
