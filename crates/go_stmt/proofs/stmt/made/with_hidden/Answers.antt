use Rattle.go_stmt.proofs.MadeLemmas.{program_is}
use Rattle.go_stmt.proofs.stmt.made.with_hidden.Goals as goal

pub returns-in-Ok : goal.returns-in-Ok
returns-in-Ok c = record {
  value = λ ds made fits.
      program_is ds c.args.env c.args.next c.args.funcs.items c.hidden_functions.new.funcs.items c.args.hidden c.text_type-text.result c.args.frame c.into_table.result c.whole.result c.into_table.ensures.value c.text_type-text.ensures.value c.in-Ok.ensures.value c.whole.ensures.value made fits;
}
