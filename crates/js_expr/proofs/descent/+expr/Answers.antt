use Rattle.std.proofs.Common.{arith, rules, ◌∙◌, sym, ap, map, refl}
use Rattle.js_grammar.specs.Reads.{stop, no_memory, reads, called, passed, held, failed, no_sign, a_sign, answered}
use Rattle.js_tree.specs.Scripts.{sign}
use Rattle.js_nodes.specs.Handing.{handed, stopped}
use Rattle.js_expr.proofs.Maps.{map_more, map_one}
use Rattle.js_expr.proofs.Loops.{chain_starts, chain_step, chain_stops, chain_stops_after, chain_ends, parts_start, parts_step, parts_stop, parts_end, more_starts, more_step, more_stops, more_stops_after, more_ends, more_stops_at_end, listed_none}
use Rattle.js_grammar.specs.Tokens.{places}
use Rattle.js_tree.specs.View.{expr_view}
use Rattle.js_nodes.specs.Views.{expr_read, post_read, exprs_read}
use Rattle.js_expr.proofs.descent.+expr.Goals as goal

pub expr-returns-in_err-test-clause-read : goal.expr-returns-in_err-test-clause-read
expr-returns-in_err-test-clause-read t c = stop expr_read c.from_residual.result c.from_residual.ensures.1 (reads (passed c.in_err-test.ensures.read))

pub expr-returns-then-not-is_sign-clause-read : goal.expr-returns-then-not-is_sign-clause-read
expr-returns-then-not-is_sign-clause-read t c = (reads (called c.in_ok-test.ensures.read (failed (search rules) (answered (search rules)))))

pub expr-returns-in_err-rest-clause-read : goal.expr-returns-in_err-rest-clause-read
expr-returns-in_err-rest-clause-read t c = stop expr_read c.from_residual-in_err-rest.result c.from_residual-in_err-rest.ensures.1 (reads (called c.in_ok-test.ensures.read (held (search rules) (passed c.in_err-rest.ensures.read))))

pub expr-returns-in_err-left-clause-read : goal.expr-returns-in_err-left-clause-read
expr-returns-in_err-left-clause-read t c = stop expr_read c.from_residual-in_err-left.result c.from_residual-in_err-left.ensures.1 (reads (called c.in_ok-test.ensures.read (held (search rules) (called c.in_ok-rest.ensures.read (passed c.in_err-left.ensures.read)))))

pub expr-returns-in_err-rest-2-clause-read : goal.expr-returns-in_err-rest-2-clause-read
expr-returns-in_err-rest-2-clause-read t c = stop expr_read c.from_residual-in_err-rest-2.result c.from_residual-in_err-rest-2.ensures.1 (reads (called c.in_ok-test.ensures.read (held (search rules) (called c.in_ok-rest.ensures.read (called c.in_ok-left.ensures.read (passed c.in_err-rest-2.ensures.read))))))

pub expr-returns-in_err-right-clause-read : goal.expr-returns-in_err-right-clause-read
expr-returns-in_err-right-clause-read t c = stop expr_read c.from_residual-in_err-right.result c.from_residual-in_err-right.ensures.1 (reads (called c.in_ok-test.ensures.read (held (search rules) (called c.in_ok-rest.ensures.read (called c.in_ok-left.ensures.read (called c.in_ok-rest-2.ensures.read (passed c.in_err-right.ensures.read)))))))

pub expr-returns-in_err-e-clause-read : goal.expr-returns-in_err-e-clause-read
expr-returns-in_err-e-clause-read t c = stop expr_read c.from_residual-in_err-e.result c.from_residual-in_err-e.ensures.1 (no_memory c.in_err-e.ensures)

pub expr-returns-clause-read : goal.expr-returns-clause-read
expr-returns-clause-read t c = (reads (called c.in_ok-test.ensures.read (held (search rules) (called c.in_ok-rest.ensures.read (called c.in_ok-left.ensures.read (called c.in_ok-rest-2.ensures.read (called c.in_ok-right.ensures.read (answered (search rules)))))))))

pub part-returns-in_err-rest-clause-read : goal.part-returns-in_err-rest-clause-read
part-returns-in_err-rest-clause-read t c = stop expr_read c.from_residual.result c.from_residual.ensures.1 (reads (held (search rules) (passed c.in_err-rest.ensures.read)))

pub part-returns-in_err-items-clause-read : goal.part-returns-in_err-items-clause-read
part-returns-in_err-items-clause-read t c = stop expr_read c.from_residual-in_err-items.result c.from_residual-in_err-items.ensures.1 (reads (held (search rules) (called c.in_ok-rest.ensures.read (passed c.in_err-items.ensures.read))))

pub part-returns-in_err-e-clause-read : goal.part-returns-in_err-e-clause-read
part-returns-in_err-e-clause-read t c = stop expr_read c.from_residual-in_err-e.result c.from_residual-in_err-e.ensures.1 (no_memory c.in_err-e.ensures)

pub part-returns-then-is_sign-clause-read : goal.part-returns-then-is_sign-clause-read
part-returns-then-is_sign-clause-read t c = (reads (held (search rules) (called c.in_ok-rest.ensures.read (called c.in_ok-items.ensures.read (answered (search rules))))))

pub part-returns-in_err-rest-2-clause-read : goal.part-returns-in_err-rest-2-clause-read
part-returns-in_err-rest-2-clause-read t c = stop expr_read c.from_residual-in_err-rest-2.result c.from_residual-in_err-rest-2.ensures.1 (reads (failed (search rules) (held (search rules) (passed c.in_err-rest-2.ensures.read))))

pub part-returns-in_err-i-clause-read : goal.part-returns-in_err-i-clause-read
part-returns-in_err-i-clause-read t c = stop expr_read c.from_residual-in_err-i.result c.from_residual-in_err-i.ensures.1 (reads (failed (search rules) (held (search rules) (called c.in_ok-rest-2.ensures.read (passed c.in_err-i.ensures.read)))))

pub part-returns-in_err-e-2-clause-read : goal.part-returns-in_err-e-2-clause-read
part-returns-in_err-e-2-clause-read t c = stop expr_read c.from_residual-in_err-e-2.result c.from_residual-in_err-e-2.ensures.1 (no_memory c.in_err-e-2.ensures)

pub part-returns-then-is_sign-2-clause-read : goal.part-returns-then-is_sign-2-clause-read
part-returns-then-is_sign-2-clause-read t c = (reads (failed (search rules) (held (search rules) (called c.in_ok-rest-2.ensures.read (called c.in_ok-i.ensures.read (answered (search rules)))))))

pub part-returns-clause-read : goal.part-returns-clause-read
part-returns-clause-read t c = (reads (failed (search rules) (failed (search rules) (handed expr_read expr_read c.member.result c.member.ensures.read (λ x. answered refl)))))

pub member-returns-in_err-rest-clause-read : goal.member-returns-in_err-rest-clause-read
member-returns-in_err-rest-clause-read t c = stop expr_read c.from_residual.result c.from_residual.ensures.1 (reads (held (search rules) (passed c.in_err-rest.ensures.read)))

pub member-returns-in_err-rest-2-clause-read : goal.member-returns-in_err-rest-2-clause-read
member-returns-in_err-rest-2-clause-read t c = stop expr_read c.from_residual-in_err-rest-2.result c.from_residual-in_err-rest-2.ensures.1 (reads (held (search rules) (called c.in_ok-rest.ensures.read (passed c.in_err-rest-2.ensures.read))))

pub member-returns-in_err-e-clause-read : goal.member-returns-in_err-e-clause-read
member-returns-in_err-e-clause-read t c = stop expr_read c.from_residual-in_err-e.result c.from_residual-in_err-e.ensures.1 (no_memory c.in_err-e.ensures)

pub member-returns-then-is_second_word-clause-read : goal.member-returns-then-is_second_word-clause-read
member-returns-then-is_second_word-clause-read t c = (reads (held (search rules) (called c.in_ok-rest.ensures.read (called c.in_ok-rest-2.ensures.read (answered (search rules))))))

pub member-returns-in_err-rest-3-clause-read : goal.member-returns-in_err-rest-3-clause-read
member-returns-in_err-rest-3-clause-read t c = stop expr_read c.from_residual-in_err-rest-3.result c.from_residual-in_err-rest-3.ensures.1 (reads (failed (search rules) (held (search rules) (passed c.in_err-rest-3.ensures.read))))

pub member-returns-in_err-rest-4-clause-read : goal.member-returns-in_err-rest-4-clause-read
member-returns-in_err-rest-4-clause-read t c = stop expr_read c.from_residual-in_err-rest-4.result c.from_residual-in_err-rest-4.ensures.1 (reads (failed (search rules) (held (search rules) (called c.in_ok-rest-3.ensures.read (passed c.in_err-rest-4.ensures.read)))))

pub member-returns-in_err-rest-5-clause-read : goal.member-returns-in_err-rest-5-clause-read
member-returns-in_err-rest-5-clause-read t c = stop expr_read c.from_residual-in_err-rest-5.result c.from_residual-in_err-rest-5.ensures.1 (reads (failed (search rules) (held (search rules) (called c.in_ok-rest-3.ensures.read (called c.in_ok-rest-4.ensures.read (passed c.in_err-rest-5.ensures.read))))))

pub member-returns-in_err-rest-6-clause-read : goal.member-returns-in_err-rest-6-clause-read
member-returns-in_err-rest-6-clause-read t c = stop expr_read c.from_residual-in_err-rest-6.result c.from_residual-in_err-rest-6.ensures.1 (reads (failed (search rules) (held (search rules) (called c.in_ok-rest-3.ensures.read (called c.in_ok-rest-4.ensures.read (called c.in_ok-rest-5.ensures.read (passed c.in_err-rest-6.ensures.read)))))))

pub member-returns-in_err-e-2-clause-read : goal.member-returns-in_err-e-2-clause-read
member-returns-in_err-e-2-clause-read t c = stop expr_read c.from_residual-in_err-e-2.result c.from_residual-in_err-e-2.ensures.1 (no_memory c.in_err-e-2.ensures)

pub member-returns-then-is_second_word-2-clause-read : goal.member-returns-then-is_second_word-2-clause-read
member-returns-then-is_second_word-2-clause-read t c = (reads (failed (search rules) (held (search rules) (called c.in_ok-rest-3.ensures.read (called c.in_ok-rest-4.ensures.read (called c.in_ok-rest-5.ensures.read (called c.in_ok-rest-6.ensures.read (answered (search rules)))))))))

pub member-returns-in_err-rest-7-clause-read : goal.member-returns-in_err-rest-7-clause-read
member-returns-in_err-rest-7-clause-read t c = stop expr_read c.from_residual-in_err-rest-7.result c.from_residual-in_err-rest-7.ensures.1 (reads (failed (search rules) (failed (search rules) (held (search rules) (passed c.in_err-rest-7.ensures.read)))))

pub member-returns-in_err-rest-8-clause-read : goal.member-returns-in_err-rest-8-clause-read
member-returns-in_err-rest-8-clause-read t c = stop expr_read c.from_residual-in_err-rest-8.result c.from_residual-in_err-rest-8.ensures.1 (reads (failed (search rules) (failed (search rules) (held (search rules) (called c.in_ok-rest-7.ensures.read (passed c.in_err-rest-8.ensures.read))))))

pub member-returns-in_err-rest-9-clause-read : goal.member-returns-in_err-rest-9-clause-read
member-returns-in_err-rest-9-clause-read t c = stop expr_read c.from_residual-in_err-rest-9.result c.from_residual-in_err-rest-9.ensures.1 (reads (failed (search rules) (failed (search rules) (held (search rules) (called c.in_ok-rest-7.ensures.read (called c.in_ok-rest-8.ensures.read (passed c.in_err-rest-9.ensures.read)))))))

pub member-returns-in_err-i-clause-read : goal.member-returns-in_err-i-clause-read
member-returns-in_err-i-clause-read t c = stop expr_read c.from_residual-in_err-i.result c.from_residual-in_err-i.ensures.1 (reads (failed (search rules) (failed (search rules) (held (search rules) (called c.in_ok-rest-7.ensures.read (called c.in_ok-rest-8.ensures.read (called c.in_ok-rest-9.ensures.read (passed c.in_err-i.ensures.read))))))))

pub member-returns-in_err-e-3-clause-read : goal.member-returns-in_err-e-3-clause-read
member-returns-in_err-e-3-clause-read t c = stop expr_read c.from_residual-in_err-e-3.result c.from_residual-in_err-e-3.ensures.1 (no_memory c.in_err-e-3.ensures)

pub member-returns-then-is_second_word-3-clause-read : goal.member-returns-then-is_second_word-3-clause-read
member-returns-then-is_second_word-3-clause-read t c = (reads (failed (search rules) (failed (search rules) (held (search rules) (called c.in_ok-rest-7.ensures.read (called c.in_ok-rest-8.ensures.read (called c.in_ok-rest-9.ensures.read (called c.in_ok-i.ensures.read (answered (search rules))))))))))

pub member-returns-clause-read : goal.member-returns-clause-read
member-returns-clause-read t c = (reads (failed (search rules) (failed (search rules) (failed (search rules) (handed expr_read expr_read c.substring.result c.substring.ensures.read (λ x. answered refl))))))

pub substring-returns-in_err-rest-clause-read : goal.substring-returns-in_err-rest-clause-read
substring-returns-in_err-rest-clause-read t c = stop expr_read c.from_residual.result c.from_residual.ensures.1 (reads (passed c.in_err-rest.ensures.read))

pub substring-returns-in_err-rest-2-clause-read : goal.substring-returns-in_err-rest-2-clause-read
substring-returns-in_err-rest-2-clause-read t c = stop expr_read c.from_residual-in_err-rest-2.result c.from_residual-in_err-rest-2.ensures.1 (reads (called c.in_ok-rest.ensures.read (passed c.in_err-rest-2.ensures.read)))

pub substring-returns-in_err-rest-3-clause-read : goal.substring-returns-in_err-rest-3-clause-read
substring-returns-in_err-rest-3-clause-read t c = stop expr_read c.from_residual-in_err-rest-3.result c.from_residual-in_err-rest-3.ensures.1 (reads (called c.in_ok-rest.ensures.read (called c.in_ok-rest-2.ensures.read (passed c.in_err-rest-3.ensures.read))))

pub substring-returns-in_err-from-clause-read : goal.substring-returns-in_err-from-clause-read
substring-returns-in_err-from-clause-read t c = stop expr_read c.from_residual-in_err-from.result c.from_residual-in_err-from.ensures.1 (reads (called c.in_ok-rest.ensures.read (called c.in_ok-rest-2.ensures.read (called c.in_ok-rest-3.ensures.read (passed c.in_err-from.ensures.read)))))

pub substring-returns-in_err-rest-4-clause-read : goal.substring-returns-in_err-rest-4-clause-read
substring-returns-in_err-rest-4-clause-read t c = stop expr_read c.from_residual-in_err-rest-4.result c.from_residual-in_err-rest-4.ensures.1 (reads (called c.in_ok-rest.ensures.read (called c.in_ok-rest-2.ensures.read (called c.in_ok-rest-3.ensures.read (called c.in_ok-from.ensures.read (passed c.in_err-rest-4.ensures.read))))))

pub substring-returns-in_err-to-clause-read : goal.substring-returns-in_err-to-clause-read
substring-returns-in_err-to-clause-read t c = stop expr_read c.from_residual-in_err-to.result c.from_residual-in_err-to.ensures.1 (reads (called c.in_ok-rest.ensures.read (called c.in_ok-rest-2.ensures.read (called c.in_ok-rest-3.ensures.read (called c.in_ok-from.ensures.read (called c.in_ok-rest-4.ensures.read (passed c.in_err-to.ensures.read)))))))

pub substring-returns-in_err-e-clause-read : goal.substring-returns-in_err-e-clause-read
substring-returns-in_err-e-clause-read t c = stop expr_read c.from_residual-in_err-e.result c.from_residual-in_err-e.ensures.1 (no_memory c.in_err-e.ensures)

pub substring-returns-clause-read : goal.substring-returns-clause-read
substring-returns-clause-read t c = (reads (called c.in_ok-rest.ensures.read (called c.in_ok-rest-2.ensures.read (called c.in_ok-rest-3.ensures.read (called c.in_ok-from.ensures.read (called c.in_ok-rest-4.ensures.read (called c.in_ok-to.ensures.read (answered (search rules)))))))))

pub atom-returns-in_err-rest-clause-read : goal.atom-returns-in_err-rest-clause-read
atom-returns-in_err-rest-clause-read t c = stop expr_read c.from_residual.result c.from_residual.ensures.1 (reads (held (search rules) (passed c.in_err-rest.ensures.read)))

pub atom-returns-then-is_sign-clause-read : goal.atom-returns-then-is_sign-clause-read
atom-returns-then-is_sign-clause-read t c = (reads (held (search rules) (called c.in_ok-rest.ensures.read (handed expr_read expr_read c.enclosed.result c.enclosed.ensures.read (λ x. answered refl)))))

pub atom-returns-in_err-rest-2-clause-read : goal.atom-returns-in_err-rest-2-clause-read
atom-returns-in_err-rest-2-clause-read t c = stop expr_read c.from_residual-in_err-rest-2.result c.from_residual-in_err-rest-2.ensures.1 (reads (failed (search rules) (held (search rules) (passed c.in_err-rest-2.ensures.read))))

pub atom-returns-in_err-items-clause-read : goal.atom-returns-in_err-items-clause-read
atom-returns-in_err-items-clause-read t c = stop expr_read c.from_residual-in_err-items.result c.from_residual-in_err-items.ensures.1 (reads (failed (search rules) (held (search rules) (called c.in_ok-rest-2.ensures.read (passed c.in_err-items.ensures.read)))))

pub atom-returns-then-is_sign-2-clause-read : goal.atom-returns-then-is_sign-2-clause-read
atom-returns-then-is_sign-2-clause-read t c = (reads (failed (search rules) (held (search rules) (called c.in_ok-rest-2.ensures.read (called c.in_ok-items.ensures.read (answered (search rules)))))))

pub atom-returns-then-is_word-clause-read : goal.atom-returns-then-is_word-clause-read
atom-returns-then-is_word-clause-read t c = (reads (failed (search rules) (failed (search rules) (held (search rules) (handed expr_read expr_read c.converted.result c.converted.ensures.read (λ x. answered refl))))))

pub atom-returns-clause-read : goal.atom-returns-clause-read
atom-returns-clause-read t c = (reads (failed (search rules) (failed (search rules) (failed (search rules) (handed expr_read expr_read c.literal.result c.literal.ensures.read (λ x. answered refl))))))

pub converted-returns-in_err-rest-clause-read : goal.converted-returns-in_err-rest-clause-read
converted-returns-in_err-rest-clause-read t c = stop expr_read c.from_residual.result c.from_residual.ensures.1 (reads (held (search rules) (passed c.in_err-rest.ensures.read)))

pub converted-returns-in_err-rest-2-clause-read : goal.converted-returns-in_err-rest-2-clause-read
converted-returns-in_err-rest-2-clause-read t c = stop expr_read c.from_residual-in_err-rest-2.result c.from_residual-in_err-rest-2.ensures.1 (reads (held (search rules) (called c.in_ok-rest.ensures.read (passed c.in_err-rest-2.ensures.read))))

pub converted-returns-in_err-e-clause-read : goal.converted-returns-in_err-e-clause-read
converted-returns-in_err-e-clause-read t c = stop expr_read c.from_residual-in_err-e.result c.from_residual-in_err-e.ensures.1 (reads (held (search rules) (called c.in_ok-rest.ensures.read (called c.in_ok-rest-2.ensures.read (passed c.in_err-e.ensures.read)))))

pub converted-returns-in_err-e-2-clause-read : goal.converted-returns-in_err-e-2-clause-read
converted-returns-in_err-e-2-clause-read t c = stop expr_read c.from_residual-in_err-e-2.result c.from_residual-in_err-e-2.ensures.1 (no_memory c.in_err-e-2.ensures)

pub converted-returns-then-is_second_sign-clause-read : goal.converted-returns-then-is_second_sign-clause-read
converted-returns-then-is_second_sign-clause-read t c = (reads (held (search rules) (called c.in_ok-rest.ensures.read (called c.in_ok-rest-2.ensures.read (called c.in_ok-e.ensures.read (answered (search rules)))))))

pub converted-returns-in_err-rest-3-clause-read : goal.converted-returns-in_err-rest-3-clause-read
converted-returns-in_err-rest-3-clause-read t c = stop expr_read c.from_residual-in_err-rest-3.result c.from_residual-in_err-rest-3.ensures.1 (reads (failed (search rules) (passed c.in_err-rest-3.ensures.read)))

pub converted-returns-in_err-rest-4-clause-read : goal.converted-returns-in_err-rest-4-clause-read
converted-returns-in_err-rest-4-clause-read t c = stop expr_read c.from_residual-in_err-rest-4.result c.from_residual-in_err-rest-4.ensures.1 (reads (failed (search rules) (called c.in_ok-rest-3.ensures.read (passed c.in_err-rest-4.ensures.read))))

pub converted-returns-in_err-rest-5-clause-read : goal.converted-returns-in_err-rest-5-clause-read
converted-returns-in_err-rest-5-clause-read t c = stop expr_read c.from_residual-in_err-rest-5.result c.from_residual-in_err-rest-5.ensures.1 (reads (failed (search rules) (called c.in_ok-rest-3.ensures.read (called c.in_ok-rest-4.ensures.read (passed c.in_err-rest-5.ensures.read)))))

pub converted-returns-in_err-rest-6-clause-read : goal.converted-returns-in_err-rest-6-clause-read
converted-returns-in_err-rest-6-clause-read t c = stop expr_read c.from_residual-in_err-rest-6.result c.from_residual-in_err-rest-6.ensures.1 (reads (failed (search rules) (called c.in_ok-rest-3.ensures.read (called c.in_ok-rest-4.ensures.read (called c.in_ok-rest-5.ensures.read (passed c.in_err-rest-6.ensures.read))))))

pub converted-returns-in_err-e-3-clause-read : goal.converted-returns-in_err-e-3-clause-read
converted-returns-in_err-e-3-clause-read t c = stop expr_read c.from_residual-in_err-e-3.result c.from_residual-in_err-e-3.ensures.1 (reads (failed (search rules) (called c.in_ok-rest-3.ensures.read (called c.in_ok-rest-4.ensures.read (called c.in_ok-rest-5.ensures.read (called c.in_ok-rest-6.ensures.read (passed c.in_err-e-3.ensures.read)))))))

pub converted-returns-in_err-e-4-clause-read : goal.converted-returns-in_err-e-4-clause-read
converted-returns-in_err-e-4-clause-read t c = stop expr_read c.from_residual-in_err-e-4.result c.from_residual-in_err-e-4.ensures.1 (no_memory c.in_err-e-4.ensures)

pub converted-returns-clause-read : goal.converted-returns-clause-read
converted-returns-clause-read t c = (reads (failed (search rules) (called c.in_ok-rest-3.ensures.read (called c.in_ok-rest-4.ensures.read (called c.in_ok-rest-5.ensures.read (called c.in_ok-rest-6.ensures.read (called c.in_ok-e-3.ensures.read (answered (search rules)))))))))

pub enclosed-returns-in_err-e-clause-read : goal.enclosed-returns-in_err-e-clause-read
enclosed-returns-in_err-e-clause-read t c = stop expr_read c.from_residual.result c.from_residual.ensures.1 (reads (passed c.in_err-e.ensures.read))

pub enclosed-returns-in_err-rest-clause-read : goal.enclosed-returns-in_err-rest-clause-read
enclosed-returns-in_err-rest-clause-read t c = stop expr_read c.from_residual-in_err-rest.result c.from_residual-in_err-rest.ensures.1 (reads (called c.in_ok-e.ensures.read (passed c.in_err-rest.ensures.read)))

pub enclosed-returns-clause-read : goal.enclosed-returns-clause-read
enclosed-returns-clause-read t c = (reads (called c.in_ok-e.ensures.read (called c.in_ok-rest.ensures.read (answered (search rules)))))

pub listed-returns-in_err-rest-clause-read : goal.listed-returns-in_err-rest-clause-read
listed-returns-in_err-rest-clause-read t c = stopped c.from_residual.result exprs_read c.from_residual.ensures.1 (reads (held (search rules) (passed c.in_err-rest.ensures.read)))

pub listed-returns-then-is_sign-clause-read : goal.listed-returns-then-is_sign-clause-read
listed-returns-then-is_sign-clause-read t c = listed_none c.args.d (sign c.args.close.now) (map expr_view c.new-items.result.items) (places c.args.ts.now) (places c.in_ok-rest.rest.now) (search rules) c.in_ok-rest.ensures.read (ap (map expr_view) c.new-items.ensures.items)

pub listed-returns-in_err-e-clause-read : goal.listed-returns-in_err-e-clause-read
listed-returns-in_err-e-clause-read t c = stopped c.from_residual-in_err-e.result exprs_read c.from_residual-in_err-e.ensures.1 (reads (failed (search rules) (passed c.in_err-e.ensures.read)))

pub listed-returns-in_err-add-clause-read : goal.listed-returns-in_err-add-clause-read
listed-returns-in_err-add-clause-read t c = stopped c.from_residual-in_err-add.result exprs_read c.from_residual-in_err-add.ensures.1 (no_memory c.in_err-add.ensures)

pub listed-commas-init : goal.listed-commas-init
listed-commas-init t c = record {
  shorter = omega (arith, c.in_ok-e.ensures.shorter);
  same = λ r h. more_starts c.args.d (sign c.args.close.now) (expr_view c.in_ok-e.e) (map expr_view c.add.new.items.items) (places c.args.ts.now) (places c.in_ok-e.after.now) r (search rules) c.in_ok-e.ensures.read
      (map_one expr_view c.add.new.items.items c.new-items.result.items c.in_ok-e.e c.in_ok-add.ensures c.new-items.ensures.items) h;
}

pub listed-returns-in_err-after-clause-read : goal.listed-returns-in_err-after-clause-read
listed-returns-in_err-after-clause-read t c = stopped c.from_residual-in_err-after.result exprs_read c.from_residual-in_err-after.ensures.1 (c.commas.invariant.same _ (more_stops c.args.d (sign c.args.close.now) (map expr_view c.commas.items.items) (places c.commas.rest.now) _ (search rules) c.in_err-after.ensures.read))

pub listed-returns-in_err-e-2-clause-read : goal.listed-returns-in_err-e-2-clause-read
listed-returns-in_err-e-2-clause-read t c = stopped c.from_residual-in_err-e-2.result exprs_read c.from_residual-in_err-e-2.ensures.1 (c.commas.invariant.same _ (more_stops_after c.args.d (sign c.args.close.now) (map expr_view c.commas.items.items) (places c.commas.rest.now) (places c.in_ok-after.after.now) _ (search rules) c.in_ok-after.ensures.read c.in_err-e-2.ensures.read))

pub listed-returns-in_err-add-2-clause-read : goal.listed-returns-in_err-add-2-clause-read
listed-returns-in_err-add-2-clause-read t c = stopped c.from_residual-in_err-add-2.result exprs_read c.from_residual-in_err-add-2.ensures.1 (no_memory c.in_err-add-2.ensures)

pub listed-commas-preserved : goal.listed-commas-preserved
listed-commas-preserved t c = record {
  shorter = omega (arith, c.commas.invariant.shorter, c.in_ok-after.ensures.shorter, c.in_ok-e-2.ensures.shorter);
  same = λ r h. c.commas.invariant.same r (more_step c.args.d (sign c.args.close.now) (expr_view c.in_ok-e-2.e) (map expr_view c.commas.items.items) (map expr_view c.add-in-commas.new.items.items) (places c.commas.rest.now) (places c.in_ok-after.after.now) (places c.in_ok-e-2.after.now) r (search rules) c.in_ok-after.ensures.read c.in_ok-e-2.ensures.read
      (map_more expr_view c.add-in-commas.new.items.items c.commas.items.items c.in_ok-e-2.e c.in_ok-add-2.ensures) h);
}

pub listed-returns-in_err-rest-2-clause-read : goal.listed-returns-in_err-rest-2-clause-read
listed-returns-in_err-rest-2-clause-read t c = stopped c.from_residual-in_err-rest-2.result exprs_read c.from_residual-in_err-rest-2.ensures.1 (c.commas.invariant.same _ (more_stops_at_end c.args.d (sign c.args.close.now) (map expr_view c.commas.items.items) (places c.commas.rest.now) _ (search rules) c.in_err-rest-2.ensures.read))

pub listed-returns-clause-read : goal.listed-returns-clause-read
listed-returns-clause-read t c = c.commas.invariant.same _ (more_ends c.args.d (sign c.args.close.now) (map expr_view c.commas.items.items) (places c.commas.rest.now) (places c.in_ok-rest-2.rest.now) (search rules) c.in_ok-rest-2.ensures.read)

pub operation-returns-in_err-first-clause-read : goal.operation-returns-in_err-first-clause-read
operation-returns-in_err-first-clause-read t c = stop expr_read c.from_residual.result c.from_residual.ensures.1 (reads (passed c.in_err-first.ensures.read))

pub operation-chain-init : goal.operation-chain-init
operation-chain-init t c = record {
  shorter = omega (arith, c.in_ok-first.ensures.shorter);
  deep = omega arith;
  level = omega arith;
  same = λ r h. chain_starts c.args.d c.args.least c.place-at.result (expr_view c.in_ok-first.first) (places c.args.ts.now) (places c.in_ok-first.after.now) r c.place-at.ensures c.in_ok-first.ensures.read h;
}

pub operation-returns-in_err-after-clause-read : goal.operation-returns-in_err-after-clause-read
operation-returns-in_err-after-clause-read t c = stop expr_read c.from_residual-in_err-after.result c.from_residual-in_err-after.ensures.1 (c.chain.invariant.same _ (chain_stops c.args.d c.args.least c.place-at.result c.chain.level c.chain.n c.infix_level-own.result c.earlier-before.result _ (expr_view c.chain.left) (places c.chain.rest.now) _ c.infix_level-own.ensures.value c.earlier-before.ensures.value c.in_err-after.ensures.read (search rules)))

pub operation-returns-in_err-right-clause-read : goal.operation-returns-in_err-right-clause-read
operation-returns-in_err-right-clause-read t c = stop expr_read c.from_residual-in_err-right.result c.from_residual-in_err-right.ensures.1 (c.chain.invariant.same _ (chain_stops_after c.args.d c.args.least c.place-at.result c.chain.level c.chain.n c.infix_level-own.result c.earlier-before.result _ (expr_view c.chain.left) (places c.chain.rest.now) (places c.in_ok-after.after.now) _ c.infix_level-own.ensures.value c.earlier-before.ensures.value c.in_ok-after.ensures.read c.in_err-right.ensures.read (search rules)))

pub operation-returns-in_err-left-clause-read : goal.operation-returns-in_err-left-clause-read
operation-returns-in_err-left-clause-read t c = stop expr_read c.from_residual-in_err-left.result c.from_residual-in_err-left.ensures.1 (no_memory c.in_err-left.ensures)

pub operation-chain-preserved : goal.operation-chain-preserved
operation-chain-preserved t c = record {
  shorter = omega (arith, c.chain.invariant.shorter, c.in_ok-after.ensures.shorter, c.in_ok-right.ensures.shorter);
  deep = omega (arith, c.in_ok-after.ensures.within);
  level = omega arith;
  same = λ r h. c.chain.invariant.same r (chain_step c.args.d c.args.least c.place-at.result c.chain.level c.chain.n c.infix_level-own.result c.earlier-before.result _ (expr_view c.chain.left) _ (expr_view c.in_ok-right.right) (places c.chain.rest.now) (places c.in_ok-after.after.now) (places c.in_ok-right.after.now) r c.infix_level-own.ensures.value c.earlier-before.ensures.value c.in_ok-after.ensures.read c.in_ok-right.ensures.read c.in_ok-left.ensures (search rules) h);
}

pub operation-returns-clause-read : goal.operation-returns-clause-read
operation-returns-clause-read t c = c.chain.invariant.same _ (chain_ends c.args.d c.args.least c.place-at.result c.chain.level c.chain.n (expr_view c.chain.left) (places c.chain.rest.now) (search rules))

pub post-returns-in_err-atom-clause-read : goal.post-returns-in_err-atom-clause-read
post-returns-in_err-atom-clause-read t c = stop post_read c.from_residual.result c.from_residual.ensures.1 (reads (passed c.in_err-atom.ensures.read))

pub post-parts-init : goal.post-parts-init
post-parts-init t c = record {
  shorter = omega (arith, c.in_ok-atom.ensures.shorter);
  deep = omega arith;
  same = λ r h. parts_start c.args.d c.place-at.result (expr_view c.in_ok-atom.atom) (places c.args.ts.now) (places c.in_ok-atom.after.now) r c.place-at.ensures c.in_ok-atom.ensures.read h;
}

pub post-returns-in_err-longer-clause-read : goal.post-returns-in_err-longer-clause-read
post-returns-in_err-longer-clause-read t c = stop post_read c.from_residual-in_err-longer.result c.from_residual-in_err-longer.ensures.1 (c.parts.invariant.same _ (parts_stop c.args.d c.place-at.result c.parts.n (expr_view c.parts.e) (places c.parts.rest.now) _ (search rules) c.in_err-longer.ensures.read))

pub post-parts-preserved : goal.post-parts-preserved
post-parts-preserved t c = record {
  shorter = omega (arith, c.parts.invariant.shorter, c.in_ok-longer.ensures.shorter);
  deep = omega (arith, c.in_ok-longer.ensures.within);
  same = λ r h. c.parts.invariant.same r (parts_step c.args.d c.place-at.result c.parts.n (expr_view c.parts.e) (expr_view c.in_ok-longer.longer) (places c.parts.rest.now) (places c.in_ok-longer.after.now) r (search rules) c.in_ok-longer.ensures.read h);
}

pub post-returns-clause-read : goal.post-returns-clause-read
post-returns-clause-read t c = c.parts.invariant.same _ (parts_end c.args.d c.place-at.result c.parts.n (expr_view c.parts.e) (places c.parts.rest.now) (search rules))

pub unary-returns-in_err-e-clause-read : goal.unary-returns-in_err-e-clause-read
unary-returns-in_err-e-clause-read t c = stop expr_read c.from_residual.result c.from_residual.ensures.1 (reads (no_sign (sym c.unary_op.ensures ∙ c.in_default.is) (passed c.in_err-e.ensures.read)))

pub unary-returns-in_default-clause-read : goal.unary-returns-in_default-clause-read
unary-returns-in_default-clause-read t c = reads (no_sign (sym c.unary_op.ensures ∙ c.in_default.is) (called c.in_ok-e.ensures.read (answered refl)))

pub unary-returns-in_err-rest-clause-read : goal.unary-returns-in_err-rest-clause-read
unary-returns-in_err-rest-clause-read t c = stop expr_read c.from_residual-in_err-rest.result c.from_residual-in_err-rest.ensures.1 (reads (a_sign (sym c.unary_op.ensures ∙ c.in-Some.is) (passed c.in_err-rest.ensures.read)))

pub unary-returns-in_err-e-2-clause-read : goal.unary-returns-in_err-e-2-clause-read
unary-returns-in_err-e-2-clause-read t c = stop expr_read c.from_residual-in_err-e-2.result c.from_residual-in_err-e-2.ensures.1 (reads (a_sign (sym c.unary_op.ensures ∙ c.in-Some.is) (called c.in_ok-rest.ensures.read (passed c.in_err-e-2.ensures.read))))

pub unary-returns-in_err-e-3-clause-read : goal.unary-returns-in_err-e-3-clause-read
unary-returns-in_err-e-3-clause-read t c = stop expr_read c.from_residual-in_err-e-3.result c.from_residual-in_err-e-3.ensures.1 (no_memory c.in_err-e-3.ensures)

pub unary-returns-clause-read : goal.unary-returns-clause-read
unary-returns-clause-read t c = reads (a_sign (sym c.unary_op.ensures ∙ c.in-Some.is) (called c.in_ok-rest.ensures.read (called c.in_ok-e-2.ensures.read (answered (search rules)))))
