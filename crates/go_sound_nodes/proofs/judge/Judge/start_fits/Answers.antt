use Rattle.std.proofs.Common.{sym, subst}
use Rattle.std.specs.Prelude.{List}
use Rattle.go_type.specs.Tree.{Ty}
use Rattle.go_type.specs.Levels.{trees_of}
use Rattle.go_core.specs.CoreView.{callee_view}
use Rattle.go_core.specs.SoundNode.{Calls}
use Rattle.go_sound_nodes.specs.Around.{around, program_in, trees_in}
use Rattle.go_sound_nodes.proofs.judge.Judge.start_fits.Goals as goal

pub returns-in-Some : goal.returns-in-Some
returns-in-Some c = record {
  is = λ known h.
      let j = c.args.self.now in
      let ts = trees_in j in
      let results = trees_of ts c.in-Some.c.results.now in
      (results, subst (λ (us : List Ty). Calls (program_in j) (around j c.args.round.now).vars (callee_view ts c.args.callee.now) us results) (sym (c.all_give.ensures.is h)) (c.in-Some.ensures.is known));
}
