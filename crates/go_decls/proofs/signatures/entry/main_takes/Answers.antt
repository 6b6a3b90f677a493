use Rattle.std.proofs.Common.{◌∙◌, sym}
use Rattle.go_typing.specs.Told.{is_main, takes_something}
use Rattle.go_decls.specs.SigView.{sig_found}
use Rattle.go_decls.proofs.EntryLemmas.{and_on, and_off}
use Rattle.go_decls.proofs.signatures.entry.main_takes.Goals as goal

pub returns-then-is_main : goal.returns-then-is_main
returns-then-is_main c = record {
  value = λ ts. and_on (is_main c.args.n.now) (takes_something (sig_found ts c.args.types.now)) c.takes_something.result (sym c.is_main.ensures.value ∙ c.if-is_main.true) (c.takes_something.ensures.value ts);
}

pub returns : goal.returns
returns c = record { value = λ ts. and_off (is_main c.args.n.now) (takes_something (sig_found ts c.args.types.now)) (sym c.is_main.ensures.value ∙ c.if-is_main.false) }
