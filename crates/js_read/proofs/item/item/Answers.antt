use Rattle.std.proofs.Common.{rules, map, refl}
use Rattle.js_grammar.specs.Reads.{reading, stop, no_memory, reads, called, passed, held, failed, answered}
use Rattle.js_nodes.specs.Handing.{handed, stopped}
use Rattle.js_grammar.specs.Tokens.{places}
use Rattle.js_tree.specs.View.{expr_view, stmt_view, stmts_view, else_view, cases_view, case_view, item_view, script_view}
use Rattle.js_nodes.specs.Views.{item_read}
use Rattle.js_read.proofs.item.item.Goals as goal

pub returns-in_err-x-clause-read : goal.returns-in_err-x-clause-read
returns-in_err-x-clause-read c = stopped c.from_residual.result item_read c.from_residual.ensures.1 (reads (held (search rules) (passed c.in_err-x.ensures.read)))

pub returns-then-is_word-clause-read : goal.returns-then-is_word-clause-read
returns-then-is_word-clause-read c = (reads (held (search rules) (called c.in_ok-x.ensures.read (answered (search rules)))))

pub returns-in_err-rest-clause-read : goal.returns-in_err-rest-clause-read
returns-in_err-rest-clause-read c = stopped c.from_residual-in_err-rest.result item_read c.from_residual-in_err-rest.ensures.1 (reads (failed (search rules) (passed c.in_err-rest.ensures.read)))

pub returns-in_err-name-clause-read : goal.returns-in_err-name-clause-read
returns-in_err-name-clause-read c = stopped c.from_residual-in_err-name.result item_read c.from_residual-in_err-name.ensures.1 (reads (failed (search rules) (called c.in_ok-rest.ensures.read (passed c.in_err-name.ensures.read))))

pub returns-in_err-rest-2-clause-read : goal.returns-in_err-rest-2-clause-read
returns-in_err-rest-2-clause-read c = stopped c.from_residual-in_err-rest-2.result item_read c.from_residual-in_err-rest-2.ensures.1 (reads (failed (search rules) (called c.in_ok-rest.ensures.read (called c.in_ok-name.ensures.read (passed c.in_err-rest-2.ensures.read)))))

pub returns-in_err-params-clause-read : goal.returns-in_err-params-clause-read
returns-in_err-params-clause-read c = stopped c.from_residual-in_err-params.result item_read c.from_residual-in_err-params.ensures.1 (reads (failed (search rules) (called c.in_ok-rest.ensures.read (called c.in_ok-name.ensures.read (called c.in_ok-rest-2.ensures.read (passed c.in_err-params.ensures.read))))))

pub returns-in_err-rest-3-clause-read : goal.returns-in_err-rest-3-clause-read
returns-in_err-rest-3-clause-read c = stopped c.from_residual-in_err-rest-3.result item_read c.from_residual-in_err-rest-3.ensures.1 (reads (failed (search rules) (called c.in_ok-rest.ensures.read (called c.in_ok-name.ensures.read (called c.in_ok-rest-2.ensures.read (called c.in_ok-params.ensures.read (passed c.in_err-rest-3.ensures.read)))))))

pub returns-in_err-body-clause-read : goal.returns-in_err-body-clause-read
returns-in_err-body-clause-read c = stopped c.from_residual-in_err-body.result item_read c.from_residual-in_err-body.ensures.1 (reads (failed (search rules) (called c.in_ok-rest.ensures.read (called c.in_ok-name.ensures.read (called c.in_ok-rest-2.ensures.read (called c.in_ok-params.ensures.read (called c.in_ok-rest-3.ensures.read (passed c.in_err-body.ensures.read))))))))

pub returns-clause-read : goal.returns-clause-read
returns-clause-read c = (reads (failed (search rules) (called c.in_ok-rest.ensures.read (called c.in_ok-name.ensures.read (called c.in_ok-rest-2.ensures.read (called c.in_ok-params.ensures.read (called c.in_ok-rest-3.ensures.read (called c.in_ok-body.ensures.read (answered (search rules))))))))))
