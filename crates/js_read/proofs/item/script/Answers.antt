use Rattle.std.proofs.Common.{rules, map, refl}
use Rattle.js_grammar.specs.Reads.{reading, stop, no_memory, reads, called, passed, held, failed, answered}
use Rattle.js_nodes.specs.Handing.{handed, stopped}
use Rattle.js_grammar.specs.Tokens.{places}
use Rattle.js_tree.specs.View.{expr_view, stmt_view, stmts_view, else_view, cases_view, case_view, item_view, script_view}
use Rattle.js_nodes.specs.Views.{script_read}
use Rattle.js_read.proofs.item.script.Goals as goal

pub returns-in_err-items : goal.returns-in_err-items
returns-in_err-items c = record { read = stopped c.from_residual.result script_read c.from_residual.ensures.1 (reads (passed c.in_err-items.ensures.read)) }

pub returns-in_err-start : goal.returns-in_err-start
returns-in_err-start c = record { read = stopped c.from_residual-in_err-start.result script_read c.from_residual-in_err-start.ensures.1 (reads (called c.in_ok-items.ensures.read (passed c.in_err-start.ensures.read))) }

pub returns-in_err-rest : goal.returns-in_err-rest
returns-in_err-rest c = record { read = stopped c.from_residual-in_err-rest.result script_read c.from_residual-in_err-rest.ensures.1 (reads (called c.in_ok-items.ensures.read (called c.in_ok-start.ensures.read (passed c.in_err-rest.ensures.read)))) }

pub returns-in_err-rest-2 : goal.returns-in_err-rest-2
returns-in_err-rest-2 c = record { read = stopped c.from_residual-in_err-rest-2.result script_read c.from_residual-in_err-rest-2.ensures.1 (reads (called c.in_ok-items.ensures.read (called c.in_ok-start.ensures.read (called c.in_ok-rest.ensures.read (passed c.in_err-rest-2.ensures.read))))) }

pub returns-in_err-rest-3 : goal.returns-in_err-rest-3
returns-in_err-rest-3 c = record { read = stopped c.from_residual-in_err-rest-3.result script_read c.from_residual-in_err-rest-3.ensures.1 (reads (called c.in_ok-items.ensures.read (called c.in_ok-start.ensures.read (called c.in_ok-rest.ensures.read (called c.in_ok-rest-2.ensures.read (passed c.in_err-rest-3.ensures.read)))))) }

pub returns : goal.returns
returns c = record { read = (reads (called c.in_ok-items.ensures.read (called c.in_ok-start.ensures.read (called c.in_ok-rest.ensures.read (called c.in_ok-rest-2.ensures.read (called c.in_ok-rest-3.ensures.read (answered (search rules)))))))) }
