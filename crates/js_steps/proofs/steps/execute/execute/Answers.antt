use Rattle.std.proofs.Common.{refl, sym, None}
use Rattle.std.specs.Prelude.{Ok}
use Rattle.js_code.specs.Parts.{as_stmt, stmt_at}
use Rattle.js_steps.specs.declared.frames.frame.Flow.TheVariants.{Breaks}
use Rattle.js_steps.specs.declared.frames.frame.Task.TheVariants.{Follow}
use Rattle.js_steps.specs.Moment.{stmt_does}
use Rattle.js_steps.specs.WayLaws.{goes_none}
use Rattle.js_steps.specs.PopLaws.{steps_in}
use Rattle.js_steps.proofs.steps.execute.execute.Goals as goal

pub begin-requires : goal.begin-requires
begin-requires c = record { held = sym c.in-Some.ensures.value }

pub returns-in-None : goal.returns-in-None
returns-in-None c = record {
  keeps =
      let s = c.args.state.now in
      let stack = c.args.stack.now.items in
      steps_in c.args.env.now stack stack s s (Ok (Follow (Breaks None))) (λ st m. stmt_does st (stmt_at m.trees c.args.i) m)
      (goes_none stack s c.args.i (Follow (Breaks None)) (λ st t m. stmt_does st (as_stmt t) m) (sym c.in-None.ensures.value) (λ st m. refl));
}
