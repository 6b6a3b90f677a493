use Rattle.std.proofs.Common.{map}
use Rattle.go_operands.specs.AnswerView.{flaw_view}
use Rattle.go_items.specs.ItemView.{decls_of}
use Rattle.go_syntax.specs.View.{file_view}
use Rattle.std.specs.Prelude.{Ok, Err}
use Rattle.go_stmt.proofs.MadeLemmas.{judged, checks_err}
use Rattle.go_stmt.proofs.stmt.checking.after_bodies.Goals as goal

pub returns-in-Ok-program_of : goal.returns-in-Ok-program_of
returns-in-Ok-program_of c =
    let ds = decls_of (map file_view c.args.files.now) in
    record { answer = (judged ds (Ok tt) c.args.count (map flaw_view c.args.flaws.items) c.requires.told c.requires.count c.in-Ok.ensures.value, c.in-Ok-program_of.ensures.value) }

pub returns-in-Err : goal.returns-in-Err
returns-in-Err c =
    let ds = decls_of (map file_view c.args.files.now) in
    record { answer = checks_err ds c.in-Err.refusal (judged ds (Err c.in-Err.refusal) c.args.count (map flaw_view c.args.flaws.items) c.requires.told c.requires.count c.in-Err.ensures.value) }
