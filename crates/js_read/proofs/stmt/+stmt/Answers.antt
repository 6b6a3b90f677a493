use Rattle.std.proofs.Common.{arith, rules, ◌<◌, ◌≤◌, length, subst, map, refl, None, Some}
use Rattle.js_grammar.specs.Reads.{reading, stop, no_memory, reads, called, passed, held, failed, answered}
use Rattle.js_nodes.specs.Handing.{handed, stopped}
use Rattle.js_read.proofs.Maps.{map_more}
use Rattle.js_read.proofs.StmtLoops.{statements_step, statements_stop, statements_end, clauses_step, clauses_stop, clauses_end, default_word_stop, default_colon_stop, default_stop, default_end}
use Rattle.js_grammar.specs.Goals as goals
use Rattle.js_grammar.specs.Reads.{Reads, seen}
use Rattle.js_grammar.specs.Tokens.{places}
use Rattle.js_tree.specs.View.{expr_view, stmt_view, stmts_view, else_view, cases_view, case_view, item_view, script_view}
use Rattle.js_nodes.specs.Views.{stmt_read, stmts_read, else_read, cases_read, case_read}
use Rattle.js_read.proofs.stmt.+stmt.Goals as goal

pub block-returns-in_err-rest-clause-read : goal.block-returns-in_err-rest-clause-read
block-returns-in_err-rest-clause-read t c = stopped c.from_residual.result stmts_read c.from_residual.ensures.1 (reads (passed c.in_err-rest.ensures.read))

pub block-returns-in_err-ss-clause-read : goal.block-returns-in_err-ss-clause-read
block-returns-in_err-ss-clause-read t c = stopped c.from_residual-in_err-ss.result stmts_read c.from_residual-in_err-ss.ensures.1 (reads (called c.in_ok-rest.ensures.read (passed c.in_err-ss.ensures.read)))

pub block-returns-in_err-rest-2-clause-read : goal.block-returns-in_err-rest-2-clause-read
block-returns-in_err-rest-2-clause-read t c = stopped c.from_residual-in_err-rest-2.result stmts_read c.from_residual-in_err-rest-2.ensures.1 (reads (called c.in_ok-rest.ensures.read (called c.in_ok-ss.ensures.read (passed c.in_err-rest-2.ensures.read))))

pub block-returns-clause-read : goal.block-returns-clause-read
block-returns-clause-read t c = (reads (called c.in_ok-rest.ensures.read (called c.in_ok-ss.ensures.read (called c.in_ok-rest-2.ensures.read (answered (search rules))))))

pub stmt-returns-then-begins_atom-clause-read : goal.stmt-returns-then-begins_atom-clause-read
stmt-returns-then-begins_atom-clause-read t c = (reads (held (search rules) (handed stmt_read stmt_read c.named.result c.named.ensures.read (λ x. answered refl))))

pub stmt-returns-then-is_word-clause-read : goal.stmt-returns-then-is_word-clause-read
stmt-returns-then-is_word-clause-read t c = (reads (failed (search rules) (held (search rules) (handed stmt_read stmt_read c.branch-alloc.result c.branch-alloc.ensures.read (λ x. answered refl)))))

pub stmt-returns-then-is_word-2-clause-read : goal.stmt-returns-then-is_word-2-clause-read
stmt-returns-then-is_word-2-clause-read t c = (reads (failed (search rules) (failed (search rules) (held (search rules) (handed stmt_read stmt_read c.attempt.result c.attempt.ensures.read (λ x. answered refl))))))

pub stmt-returns-then-begins_turning-clause-read : goal.stmt-returns-then-begins_turning-clause-read
stmt-returns-then-begins_turning-clause-read t c = (reads (failed (search rules) (failed (search rules) (failed (search rules) (held (search rules) (handed stmt_read stmt_read c.turning.result
    (subst (λ z. Reads (goals.turning c.args.d z None) (places c.args.ts.now) (seen stmt_read c.turning.result)) c.place-at.ensures c.turning.ensures.read) (λ x. answered refl)))))))

pub stmt-returns-clause-read : goal.stmt-returns-clause-read
stmt-returns-clause-read t c = (reads (failed (search rules) (failed (search rules) (failed (search rules) (failed (search rules) (handed stmt_read stmt_read c.simple.result c.simple.ensures.read (λ x. answered refl)))))))

pub named-returns-in_err-x-clause-read : goal.named-returns-in_err-x-clause-read
named-returns-in_err-x-clause-read t c = stop stmt_read c.from_residual.result c.from_residual.ensures.1 (reads (held (search rules) (passed c.in_err-x.ensures.read)))

pub named-returns-in_err-rest-clause-read : goal.named-returns-in_err-rest-clause-read
named-returns-in_err-rest-clause-read t c = stop stmt_read c.from_residual-in_err-rest.result c.from_residual-in_err-rest.ensures.1 (reads (held (search rules) (called c.in_ok-x.ensures.read (passed c.in_err-rest.ensures.read))))

pub named-returns-in_err-e-clause-read : goal.named-returns-in_err-e-clause-read
named-returns-in_err-e-clause-read t c = stop stmt_read c.from_residual-in_err-e.result c.from_residual-in_err-e.ensures.1 (reads (held (search rules) (called c.in_ok-x.ensures.read (called c.in_ok-rest.ensures.read (passed c.in_err-e.ensures.read)))))

pub named-returns-in_err-rest-2-clause-read : goal.named-returns-in_err-rest-2-clause-read
named-returns-in_err-rest-2-clause-read t c = stop stmt_read c.from_residual-in_err-rest-2.result c.from_residual-in_err-rest-2.ensures.1 (reads (held (search rules) (called c.in_ok-x.ensures.read (called c.in_ok-rest.ensures.read (called c.in_ok-e.ensures.read (passed c.in_err-rest-2.ensures.read))))))

pub named-returns-then-begins_assignment-clause-read : goal.named-returns-then-begins_assignment-clause-read
named-returns-then-begins_assignment-clause-read t c = (reads (held (search rules) (called c.in_ok-x.ensures.read (called c.in_ok-rest.ensures.read (called c.in_ok-e.ensures.read (called c.in_ok-rest-2.ensures.read (answered (search rules))))))))

pub named-returns-in_err-x-2-clause-read : goal.named-returns-in_err-x-2-clause-read
named-returns-in_err-x-2-clause-read t c = stop stmt_read c.from_residual-in_err-x-2.result c.from_residual-in_err-x-2.ensures.1 (reads (failed (search rules) (held (search rules) (passed c.in_err-x-2.ensures.read))))

pub named-returns-in_err-rest-3-clause-read : goal.named-returns-in_err-rest-3-clause-read
named-returns-in_err-rest-3-clause-read t c = stop stmt_read c.from_residual-in_err-rest-3.result c.from_residual-in_err-rest-3.ensures.1 (reads (failed (search rules) (held (search rules) (called c.in_ok-x-2.ensures.read (passed c.in_err-rest-3.ensures.read)))))

pub named-returns-then-begins_label-clause-read : goal.named-returns-then-begins_label-clause-read
named-returns-then-begins_label-clause-read t c = (reads (failed (search rules) (held (search rules) (called c.in_ok-x-2.ensures.read (called c.in_ok-rest-3.ensures.read (handed stmt_read stmt_read c.turning.result
    (subst (λ z. Reads (goals.turning c.args.d z (Some c.in_ok-x-2.x)) (places c.in_ok-rest-3.rest.now) (seen stmt_read c.turning.result)) c.place-at.ensures c.turning.ensures.read) (λ x. answered refl)))))))

pub named-returns-clause-read : goal.named-returns-clause-read
named-returns-clause-read t c = (reads (failed (search rules) (failed (search rules) (handed stmt_read stmt_read c.effect.result c.effect.ensures.read (λ x. answered refl)))))

pub branch-returns-in_err-t-clause-read : goal.branch-returns-in_err-t-clause-read
branch-returns-in_err-t-clause-read t c = stop stmt_read c.from_residual.result c.from_residual.ensures.1 (reads (passed c.in_err-t.ensures.read))

pub branch-returns-in_err-ss-clause-read : goal.branch-returns-in_err-ss-clause-read
branch-returns-in_err-ss-clause-read t c = stop stmt_read c.from_residual-in_err-ss.result c.from_residual-in_err-ss.ensures.1 (reads (called c.in_ok-t.ensures.read (passed c.in_err-ss.ensures.read)))

pub branch-returns-in_err-other-clause-read : goal.branch-returns-in_err-other-clause-read
branch-returns-in_err-other-clause-read t c = stop stmt_read c.from_residual-in_err-other.result c.from_residual-in_err-other.ensures.1 (reads (called c.in_ok-t.ensures.read (called c.in_ok-ss.ensures.read (passed c.in_err-other.ensures.read))))

pub branch-returns-clause-read : goal.branch-returns-clause-read
branch-returns-clause-read t c = (reads (called c.in_ok-t.ensures.read (called c.in_ok-ss.ensures.read (called c.in_ok-other.ensures.read (answered (search rules))))))

pub otherwise-returns-then-not-is_word-clause-read : goal.otherwise-returns-then-not-is_word-clause-read
otherwise-returns-then-not-is_word-clause-read t c = (reads (failed (search rules) (answered (search rules))))

pub otherwise-returns-in_err-rest-clause-read : goal.otherwise-returns-in_err-rest-clause-read
otherwise-returns-in_err-rest-clause-read t c = stopped c.from_residual.result else_read c.from_residual.ensures.1 (reads (held (search rules) (passed c.in_err-rest.ensures.read)))

pub otherwise-returns-in_err-ss-clause-read : goal.otherwise-returns-in_err-ss-clause-read
otherwise-returns-in_err-ss-clause-read t c = stopped c.from_residual-in_err-ss.result else_read c.from_residual-in_err-ss.ensures.1 (reads (held (search rules) (called c.in_ok-rest.ensures.read (failed (search rules) (passed c.in_err-ss.ensures.read)))))

pub otherwise-returns-then-not-is_word-2-clause-read : goal.otherwise-returns-then-not-is_word-2-clause-read
otherwise-returns-then-not-is_word-2-clause-read t c = (reads (held (search rules) (called c.in_ok-rest.ensures.read (failed (search rules) (called c.in_ok-ss.ensures.read (answered (search rules)))))))

pub otherwise-returns-in_err-t-clause-read : goal.otherwise-returns-in_err-t-clause-read
otherwise-returns-in_err-t-clause-read t c = stopped c.from_residual-in_err-t.result else_read c.from_residual-in_err-t.ensures.1 (reads (held (search rules) (called c.in_ok-rest.ensures.read (held (search rules) (passed c.in_err-t.ensures.read)))))

pub otherwise-returns-in_err-ss-2-clause-read : goal.otherwise-returns-in_err-ss-2-clause-read
otherwise-returns-in_err-ss-2-clause-read t c = stopped c.from_residual-in_err-ss-2.result else_read c.from_residual-in_err-ss-2.ensures.1 (reads (held (search rules) (called c.in_ok-rest.ensures.read (held (search rules) (called c.in_ok-t.ensures.read (passed c.in_err-ss-2.ensures.read))))))

pub otherwise-returns-in_err-other-clause-read : goal.otherwise-returns-in_err-other-clause-read
otherwise-returns-in_err-other-clause-read t c = stopped c.from_residual-in_err-other.result else_read c.from_residual-in_err-other.ensures.1 (reads (held (search rules) (called c.in_ok-rest.ensures.read (held (search rules) (called c.in_ok-t.ensures.read (called c.in_ok-ss-2.ensures.read (passed c.in_err-other.ensures.read)))))))

pub otherwise-returns-in_err-e-clause-read : goal.otherwise-returns-in_err-e-clause-read
otherwise-returns-in_err-e-clause-read t c = stopped c.from_residual-in_err-e.result else_read c.from_residual-in_err-e.ensures.1 (no_memory c.in_err-e.ensures)

pub otherwise-returns-clause-read : goal.otherwise-returns-clause-read
otherwise-returns-clause-read t c = (reads (held (search rules) (called c.in_ok-rest.ensures.read (held (search rules) (called c.in_ok-t.ensures.read (called c.in_ok-ss-2.ensures.read (called c.in_ok-other.ensures.read (answered (search rules)))))))))

pub turning-returns-in_err-t-clause-read : goal.turning-returns-in_err-t-clause-read
turning-returns-in_err-t-clause-read t c = stop stmt_read c.from_residual.result c.from_residual.ensures.1 (reads (held (search rules) (passed c.in_err-t.ensures.read)))

pub turning-returns-in_err-ss-clause-read : goal.turning-returns-in_err-ss-clause-read
turning-returns-in_err-ss-clause-read t c = stop stmt_read c.from_residual-in_err-ss.result c.from_residual-in_err-ss.ensures.1 (reads (held (search rules) (called c.in_ok-t.ensures.read (passed c.in_err-ss.ensures.read))))

pub turning-returns-then-is_word-clause-read : goal.turning-returns-then-is_word-clause-read
turning-returns-then-is_word-clause-read t c = (reads (held (search rules) (called c.in_ok-t.ensures.read (called c.in_ok-ss.ensures.read (answered (search rules))))))

pub turning-returns-in_err-rest-clause-read : goal.turning-returns-in_err-rest-clause-read
turning-returns-in_err-rest-clause-read t c = stop stmt_read c.from_residual-in_err-rest.result c.from_residual-in_err-rest.ensures.1 (reads (failed (search rules) (held (search rules) (passed c.in_err-rest.ensures.read))))

pub turning-returns-in_err-ss-2-clause-read : goal.turning-returns-in_err-ss-2-clause-read
turning-returns-in_err-ss-2-clause-read t c = stop stmt_read c.from_residual-in_err-ss-2.result c.from_residual-in_err-ss-2.ensures.1 (reads (failed (search rules) (held (search rules) (called c.in_ok-rest.ensures.read (passed c.in_err-ss-2.ensures.read)))))

pub turning-returns-then-is_word-2-clause-read : goal.turning-returns-then-is_word-2-clause-read
turning-returns-then-is_word-2-clause-read t c = (reads (failed (search rules) (held (search rules) (called c.in_ok-rest.ensures.read (called c.in_ok-ss-2.ensures.read (answered (search rules)))))))

pub turning-returns-in_err-e-clause-read : goal.turning-returns-in_err-e-clause-read
turning-returns-in_err-e-clause-read t c = stop stmt_read c.from_residual-in_err-e.result c.from_residual-in_err-e.ensures.1 (reads (failed (search rules) (failed (search rules) (passed c.in_err-e.ensures.read))))

pub turning-returns-in_err-rest-2-clause-read : goal.turning-returns-in_err-rest-2-clause-read
turning-returns-in_err-rest-2-clause-read t c = stop stmt_read c.from_residual-in_err-rest-2.result c.from_residual-in_err-rest-2.ensures.1 (reads (failed (search rules) (failed (search rules) (called c.in_ok-e.ensures.read (passed c.in_err-rest-2.ensures.read)))))

pub turning-returns-in_err-cases-clause-read : goal.turning-returns-in_err-cases-clause-read
turning-returns-in_err-cases-clause-read t c = stop stmt_read c.from_residual-in_err-cases.result c.from_residual-in_err-cases.ensures.1 (reads (failed (search rules) (failed (search rules) (called c.in_ok-e.ensures.read (called c.in_ok-rest-2.ensures.read (passed c.in_err-cases.ensures.read))))))

pub turning-returns-in_err-rest-3-clause-read : goal.turning-returns-in_err-rest-3-clause-read
turning-returns-in_err-rest-3-clause-read t c = stop stmt_read c.from_residual-in_err-rest-3.result c.from_residual-in_err-rest-3.ensures.1 (reads (failed (search rules) (failed (search rules) (called c.in_ok-e.ensures.read (called c.in_ok-rest-2.ensures.read (called c.in_ok-cases.ensures.read (passed c.in_err-rest-3.ensures.read)))))))

pub turning-returns-clause-read : goal.turning-returns-clause-read
turning-returns-clause-read t c = (reads (failed (search rules) (failed (search rules) (called c.in_ok-e.ensures.read (called c.in_ok-rest-2.ensures.read (called c.in_ok-cases.ensures.read (called c.in_ok-rest-3.ensures.read (answered (search rules)))))))))

pub clause-returns-in_err-rest-clause-read : goal.clause-returns-in_err-rest-clause-read
clause-returns-in_err-rest-clause-read t c = stopped c.from_residual.result case_read c.from_residual.ensures.1 (reads (passed c.in_err-rest.ensures.read))

pub clause-returns-in_err-n-clause-read : goal.clause-returns-in_err-n-clause-read
clause-returns-in_err-n-clause-read t c = stopped c.from_residual-in_err-n.result case_read c.from_residual-in_err-n.ensures.1 (reads (called c.in_ok-rest.ensures.read (passed c.in_err-n.ensures.read)))

pub clause-returns-in_err-rest-2-clause-read : goal.clause-returns-in_err-rest-2-clause-read
clause-returns-in_err-rest-2-clause-read t c = stopped c.from_residual-in_err-rest-2.result case_read c.from_residual-in_err-rest-2.ensures.1 (reads (called c.in_ok-rest.ensures.read (called c.in_ok-n.ensures.read (passed c.in_err-rest-2.ensures.read))))

pub clause-returns-in_err-ss-clause-read : goal.clause-returns-in_err-ss-clause-read
clause-returns-in_err-ss-clause-read t c = stopped c.from_residual-in_err-ss.result case_read c.from_residual-in_err-ss.ensures.1 (reads (called c.in_ok-rest.ensures.read (called c.in_ok-n.ensures.read (called c.in_ok-rest-2.ensures.read (passed c.in_err-ss.ensures.read)))))

pub clause-returns-clause-read : goal.clause-returns-clause-read
clause-returns-clause-read t c = (reads (called c.in_ok-rest.ensures.read (called c.in_ok-n.ensures.read (called c.in_ok-rest-2.ensures.read (called c.in_ok-ss.ensures.read (answered (search rules)))))))

pub attempt-returns-in_err-rest-clause-read : goal.attempt-returns-in_err-rest-clause-read
attempt-returns-in_err-rest-clause-read t c = stop stmt_read c.from_residual.result c.from_residual.ensures.1 (reads (passed c.in_err-rest.ensures.read))

pub attempt-returns-in_err-ss-clause-read : goal.attempt-returns-in_err-ss-clause-read
attempt-returns-in_err-ss-clause-read t c = stop stmt_read c.from_residual-in_err-ss.result c.from_residual-in_err-ss.ensures.1 (reads (called c.in_ok-rest.ensures.read (passed c.in_err-ss.ensures.read)))

pub attempt-returns-in_err-rest-2-clause-read : goal.attempt-returns-in_err-rest-2-clause-read
attempt-returns-in_err-rest-2-clause-read t c = stop stmt_read c.from_residual-in_err-rest-2.result c.from_residual-in_err-rest-2.ensures.1 (reads (called c.in_ok-rest.ensures.read (called c.in_ok-ss.ensures.read (passed c.in_err-rest-2.ensures.read))))

pub attempt-returns-in_err-rest-3-clause-read : goal.attempt-returns-in_err-rest-3-clause-read
attempt-returns-in_err-rest-3-clause-read t c = stop stmt_read c.from_residual-in_err-rest-3.result c.from_residual-in_err-rest-3.ensures.1 (reads (called c.in_ok-rest.ensures.read (called c.in_ok-ss.ensures.read (called c.in_ok-rest-2.ensures.read (passed c.in_err-rest-3.ensures.read)))))

pub attempt-returns-in_err-rest-4-clause-read : goal.attempt-returns-in_err-rest-4-clause-read
attempt-returns-in_err-rest-4-clause-read t c = stop stmt_read c.from_residual-in_err-rest-4.result c.from_residual-in_err-rest-4.ensures.1 (reads (called c.in_ok-rest.ensures.read (called c.in_ok-ss.ensures.read (called c.in_ok-rest-2.ensures.read (called c.in_ok-rest-3.ensures.read (passed c.in_err-rest-4.ensures.read))))))

pub attempt-returns-in_err-rest-5-clause-read : goal.attempt-returns-in_err-rest-5-clause-read
attempt-returns-in_err-rest-5-clause-read t c = stop stmt_read c.from_residual-in_err-rest-5.result c.from_residual-in_err-rest-5.ensures.1 (reads (called c.in_ok-rest.ensures.read (called c.in_ok-ss.ensures.read (called c.in_ok-rest-2.ensures.read (called c.in_ok-rest-3.ensures.read (called c.in_ok-rest-4.ensures.read (passed c.in_err-rest-5.ensures.read)))))))

pub attempt-returns-in_err-handler-clause-read : goal.attempt-returns-in_err-handler-clause-read
attempt-returns-in_err-handler-clause-read t c = stop stmt_read c.from_residual-in_err-handler.result c.from_residual-in_err-handler.ensures.1 (reads (called c.in_ok-rest.ensures.read (called c.in_ok-ss.ensures.read (called c.in_ok-rest-2.ensures.read (called c.in_ok-rest-3.ensures.read (called c.in_ok-rest-4.ensures.read (called c.in_ok-rest-5.ensures.read (passed c.in_err-handler.ensures.read))))))))

pub attempt-returns-clause-read : goal.attempt-returns-clause-read
attempt-returns-clause-read t c = (reads (called c.in_ok-rest.ensures.read (called c.in_ok-ss.ensures.read (called c.in_ok-rest-2.ensures.read (called c.in_ok-rest-3.ensures.read (called c.in_ok-rest-4.ensures.read (called c.in_ok-rest-5.ensures.read (called c.in_ok-handler.ensures.read (answered (search rules))))))))))

pub stmts-each-init : goal.stmts-each-init
stmts-each-init t c = record {
  shorter = omega arith;
  same = λ r h. subst (λ z. Reads (goals.statements c.args.d (map stmt_view z)) (places c.args.ts.now) r) c.new-items.ensures.items h;
}

pub stmts-returns-in_err-s-clause-read : goal.stmts-returns-in_err-s-clause-read
stmts-returns-in_err-s-clause-read t c = stopped c.from_residual.result stmts_read c.from_residual.ensures.1 (c.each.invariant.same _ (statements_stop c.args.d (map stmt_view c.each.items.items) (places c.each.rest.now) _ (search rules) c.in_err-s.ensures.read))

pub stmts-returns-in_err-add-clause-read : goal.stmts-returns-in_err-add-clause-read
stmts-returns-in_err-add-clause-read t c = stopped c.from_residual-in_err-add.result stmts_read c.from_residual-in_err-add.ensures.1 (no_memory c.in_err-add.ensures)

pub stmts-each-preserved : goal.stmts-each-preserved
stmts-each-preserved t c = record {
  shorter = omega (arith, c.each.invariant.shorter, c.in_ok-s.ensures.shorter, c.all-rest.ensures.long);
  same = λ r h. c.each.invariant.same r (statements_step c.args.d (stmt_view c.in_ok-s.s) (map stmt_view c.each.items.items) (map stmt_view c.add.new.items.items) (places c.each.rest.now) (places c.in_ok-s.after.now) r (search rules) c.in_ok-s.ensures.read
      (map_more stmt_view c.add.new.items.items c.each.items.items c.in_ok-s.s c.in_ok-add.ensures) (subst (λ z. Reads (goals.statements c.args.d (map stmt_view c.add.new.items.items)) (places z) r) c.all-rest.ensures.same h));
}

pub stmts-returns-clause-read : goal.stmts-returns-clause-read
stmts-returns-clause-read t c = c.each.invariant.same _ (statements_end c.args.d (stmts_view c.stmts.result) (map stmt_view c.each.items.items) (places c.each.rest.now) (search rules) c.stmts.ensures)

pub clauses-clauses-init : goal.clauses-clauses-init
clauses-clauses-init t c = record {
  shorter = omega arith;
  same = λ r h. subst (λ z. Reads (goals.clauses c.args.d (map case_view z)) (places c.args.ts.now) r) c.new-items.ensures.items h;
}

pub clauses-returns-in_err-next-clause-read : goal.clauses-returns-in_err-next-clause-read
clauses-returns-in_err-next-clause-read t c = stopped c.from_residual.result cases_read c.from_residual.ensures.1 (c.clauses.invariant.same _ (clauses_stop c.args.d (map case_view c.clauses.items.items) (places c.clauses.rest.now) _ (search rules) c.in_err-next.ensures.read))

pub clauses-returns-in_err-add_case-clause-read : goal.clauses-returns-in_err-add_case-clause-read
clauses-returns-in_err-add_case-clause-read t c = stopped c.from_residual-in_err-add_case.result cases_read c.from_residual-in_err-add_case.ensures.1 (no_memory c.in_err-add_case.ensures)

pub clauses-clauses-preserved : goal.clauses-clauses-preserved
clauses-clauses-preserved t c = record {
  shorter = omega (arith, c.clauses.invariant.shorter, c.in_ok-next.ensures.shorter, c.all-rest.ensures.long);
  same = λ r h. c.clauses.invariant.same r (clauses_step c.args.d (case_view c.in_ok-next.next) (map case_view c.clauses.items.items) (map case_view c.add_case.new.items.items) (places c.clauses.rest.now) (places c.in_ok-next.after.now) r (search rules) c.in_ok-next.ensures.read
      (map_more case_view c.add_case.new.items.items c.clauses.items.items c.in_ok-next.next c.in_ok-add_case.ensures) (subst (λ z. Reads (goals.clauses c.args.d (map case_view c.add_case.new.items.items)) (places z) r) c.all-rest.ensures.same h));
}

pub clauses-returns-clause-read : goal.clauses-returns-clause-read
clauses-returns-clause-read t c = c.clauses.invariant.same _ c.ended.ensures.read

pub ended-returns-in_err-rest-clause-read : goal.ended-returns-in_err-rest-clause-read
ended-returns-in_err-rest-clause-read t c = stopped c.from_residual.result cases_read c.from_residual.ensures.1 (default_word_stop c.args.d (map case_view c.args.items.items) (places c.args.ts.now) _ c.requires.past (search rules) c.in_err-rest.ensures.read)

pub ended-returns-in_err-rest-2-clause-read : goal.ended-returns-in_err-rest-2-clause-read
ended-returns-in_err-rest-2-clause-read t c = stopped c.from_residual-in_err-rest-2.result cases_read c.from_residual-in_err-rest-2.ensures.1 (default_colon_stop c.args.d (map case_view c.args.items.items) (places c.args.ts.now) (places c.in_ok-rest.rest.now) _ c.requires.past (search rules) c.in_ok-rest.ensures.read c.in_err-rest-2.ensures.read)

pub ended-returns-in_err-ss-clause-read : goal.ended-returns-in_err-ss-clause-read
ended-returns-in_err-ss-clause-read t c = stopped c.from_residual-in_err-ss.result cases_read c.from_residual-in_err-ss.ensures.1 (default_stop c.args.d (map case_view c.args.items.items) (places c.args.ts.now) (places c.in_ok-rest.rest.now) (places c.in_ok-rest-2.rest.now) _ c.requires.past (search rules) c.in_ok-rest.ensures.read c.in_ok-rest-2.ensures.read c.in_err-ss.ensures.read)

pub ended-returns-then-is_word-clause-read : goal.ended-returns-then-is_word-clause-read
ended-returns-then-is_word-clause-read t c = default_end c.args.d (cases_view c.cases_default.result) (stmts_view c.in_ok-ss.ss) (map case_view c.args.items.items) (places c.args.ts.now) (places c.in_ok-rest.rest.now) (places c.in_ok-rest-2.rest.now) (places c.in_ok-ss.rest.now) c.requires.past (search rules) c.in_ok-rest.ensures.read c.in_ok-rest-2.ensures.read c.in_ok-ss.ensures.read c.cases_default.ensures

pub ended-returns-clause-read : goal.ended-returns-clause-read
ended-returns-clause-read t c = clauses_end c.args.d (cases_view c.cases.result) (map case_view c.args.items.items) (places c.args.ts.now) c.requires.past (search rules) c.cases.ensures
