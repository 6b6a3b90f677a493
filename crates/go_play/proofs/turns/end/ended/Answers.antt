use Rattle.std.proofs.Common.{◌∙◌, ap, sym, subst}
use Rattle.std.specs.Prelude.{Some, Err}
use Rattle.go_type.specs.Table.{places}
use Rattle.go_core.specs.CoreView.{program_view}
use Rattle.go_core.specs.Goroutine as core
use Rattle.go_entries.specs.Leaves.{ended_as}
use Rattle.go_values.specs.declared.operators.did.Stop.{Stop}
use Rattle.go_play.specs.Ends.{EndsIn}
use Rattle.go_play.proofs.turns.end.ended.Goals as goal

pub returns-in_ok-count_move-in-Ok : goal.returns-in_ok-count_move-in-Ok
returns-in_ok-count_move-in-Ok c = record {
  value = λ fs.
      let ts = places c.args.game.p.now.types in
      c.in-Ok.ensures.value fs
      ∙ ap (λ (t : core.State). Some t) (ap (λ (t : core.State). ended_as c.in-Ok.told t) (sym (c.in_ok-count_move-in-Ok.ensures.value ts)) ∙ sym (c.tell_end.ensures.value ts));
}

pub returns-in-NoStep : goal.returns-in-NoStep
returns-in-NoStep c =
    let q = program_view c.args.game.p.now in
    let ts = places c.args.game.p.now.types in
    record { value = subst (λ (x : Stop). EndsIn q ts c.args.g (Err x) c.args.frame c.args.state.now c.end_in.new.state) c.in-NoStep.is c.in-Err.ensures.value }

pub unreachable-requires : goal.unreachable-requires
unreachable-requires c =
    let q = program_view c.args.game.p.now in
    let ts = places c.args.game.p.now.types in
    subst (λ (x : Stop). EndsIn q ts c.args.g (Err x) c.args.frame c.args.state.now c.end_in.new.state) c.in-Panics.is c.in-Err.ensures.value
