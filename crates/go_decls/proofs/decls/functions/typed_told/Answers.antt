use Rattle.std.proofs.Common.{map}
use Rattle.go_operands.specs.AnswerView.{flaw_view}
use Rattle.go_decls.specs.SigView.{sig_found}
use Rattle.go_decls.proofs.FunctionLemmas.{main_refused, main_passes}
use Rattle.go_decls.proofs.decls.functions.typed_told.Goals as goal

pub returns-then-main_takes : goal.returns-then-main_takes
returns-then-main_takes c = record {
  told = λ ts.
      main_refused c.args.n.now (sig_found ts c.args.types.now) c.main_takes.result (map flaw_view c.args.flaws.now.items) (map flaw_view c.and_flaw.new.flaws.items) (c.main_takes.ensures.value ts) c.if-main_takes.true c.in_ok-and_flaw.ensures.value;
}

pub returns : goal.returns
returns c = record { told = λ ts. main_passes c.args.n.now (sig_found ts c.args.types.now) c.main_takes.result (map flaw_view c.args.flaws.now.items) (c.main_takes.ensures.value ts) c.if-main_takes.false }
