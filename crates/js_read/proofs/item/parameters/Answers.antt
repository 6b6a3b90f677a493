use Rattle.std.proofs.Common.{arith, rules, ◌<◌, ◌≤◌, length, ◌∙◌, ◌++◌, ◌∷◌, [], ap, refl}
use Rattle.js_grammar.specs.Tokens.{places}
use Rattle.js_grammar.specs.Reads.{Reads, no_memory, reads, held, failed, passed, answered}
use Rattle.js_nodes.specs.Handing.{stopped}
use Rattle.js_read.proofs.StmtLoops.{names_start, names_step, names_stop, names_stop_after, names_end}
use Rattle.js_nodes.specs.Views.{names_read}
use Rattle.js_read.proofs.item.parameters.Goals as goal

pub returns-then-is_sign-clause-read : goal.returns-then-is_sign-clause-read
returns-then-is_sign-clause-read c = reads (held (search rules) (answered (search rules)))

pub returns-in_err-x-clause-read : goal.returns-in_err-x-clause-read
returns-in_err-x-clause-read c = stopped c.from_residual.result names_read c.from_residual.ensures.1 (reads (failed (search rules) (passed c.in_err-x.ensures.read)))

pub returns-in_err-add_name-clause-read : goal.returns-in_err-add_name-clause-read
returns-in_err-add_name-clause-read c = stopped c.from_residual-in_err-add_name.result names_read c.from_residual-in_err-add_name.ensures.1 (no_memory c.in_err-add_name.ensures)

pub commas-init : goal.commas-init
commas-init c = record {
  shorter = omega (arith, c.in_ok-x.ensures.shorter);
  same = λ r h. names_start c.in_ok-x.x c.add_name.new.names.items (places c.args.ts.now) (places c.in_ok-x.after.now) r (search rules) c.in_ok-x.ensures.read (c.in_ok-add_name.ensures ∙ ap (λ z. z ++ c.in_ok-x.x ∷ []) c.new-names.ensures.items) h;
}

pub returns-in_err-after-clause-read : goal.returns-in_err-after-clause-read
returns-in_err-after-clause-read c = stopped c.from_residual-in_err-after.result names_read c.from_residual-in_err-after.ensures.1 (c.commas.invariant.same _ (names_stop c.commas.names.items (places c.commas.rest.now) _ (search rules) c.in_err-after.ensures.read))

pub returns-in_err-x-2-clause-read : goal.returns-in_err-x-2-clause-read
returns-in_err-x-2-clause-read c = stopped c.from_residual-in_err-x-2.result names_read c.from_residual-in_err-x-2.ensures.1 (c.commas.invariant.same _ (names_stop_after c.commas.names.items (places c.commas.rest.now) (places c.in_ok-after.after.now) _ (search rules) c.in_ok-after.ensures.read c.in_err-x-2.ensures.read))

pub returns-in_err-add_name-2-clause-read : goal.returns-in_err-add_name-2-clause-read
returns-in_err-add_name-2-clause-read c = stopped c.from_residual-in_err-add_name-2.result names_read c.from_residual-in_err-add_name-2.ensures.1 (no_memory c.in_err-add_name-2.ensures)

pub commas-preserved : goal.commas-preserved
commas-preserved c = record {
  shorter = omega (arith, c.commas.invariant.shorter, c.in_ok-after.ensures.shorter, c.in_ok-x-2.ensures.shorter);
  same = λ r h. c.commas.invariant.same r (names_step c.in_ok-x-2.x c.commas.names.items c.add_name-in-commas.new.names.items (places c.commas.rest.now) (places c.in_ok-after.after.now) (places c.in_ok-x-2.after.now) r (search rules) c.in_ok-after.ensures.read c.in_ok-x-2.ensures.read c.in_ok-add_name-2.ensures h);
}

pub returns-clause-read : goal.returns-clause-read
returns-clause-read c = c.commas.invariant.same _ (names_end c.commas.names.items (places c.commas.rest.now) (search rules))
