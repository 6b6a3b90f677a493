use Rattle.std.proofs.Common.{arith, ◌≡◌, ◌∙◌, ◌+◌, ◌-◌, ap, sym, map, refl, true, false, List, [], ◌∷◌, length, subst, ◌&&◌}
use Rattle.std.specs.Prelude.{None, Option, option_map, is_some, not, Vec}
use Rattle.std.specs.declared.alloc.Global.{Global}
use Rattle.go_syntax.specs.View.{expr_view, exprs_of, maybe_expr, maybe_stmt, stmt_view, stmts_of, block_view, clause_view, joined}
use Rattle.go_syntax.specs.Tree as tree
use Rattle.go_syntax.specs.declared.tree.Block.{out-Block}
use Rattle.go_syntax.specs.declared.tree.Clause.{out-Clause}
use Rattle.go_type.specs.Levels.{tree_of}
use Rattle.go_walk.specs.Left.{targets_of, without_first}
use Rattle.go_calls.specs.Words.{types_of}
use Rattle.go_define.specs.AroundView.{around_of}
use Rattle.go_typing.specs.Walk.{uses, uses_all, Target}
use Rattle.go_typing.specs.Statements.{stmt, block, maybe, post_did, condition_uses, next_label, falls, is_default, case_tests}
use Rattle.go_syntax.specs.declared.tree.Stmt.{Stmt}
use Rattle.go_core.specs.declared.statement.CoreTest.{CoreTest}
use Rattle.go_operands.specs.EnvView.{table_of}
use Rattle.go_walk.specs.declared.cases.seen.ConstSet.{ConstSet}
use Rattle.go_define.specs.CaseView.{HasAll}
use Rattle.go_walk.specs.WalkView.{walk_of}
use Rattle.go_body.proofs.LeafLemmas as leaf
use Rattle.go_body.proofs.StandLemmas.{standing_does}
use Rattle.go_body.proofs.StmtLemmas as lemma
use Rattle.go_body.proofs.SizeLemmas as size
use Rattle.go_body.proofs.KeepLemmas as keep
use Rattle.go_body.proofs.LoopLemmas as loops
use Rattle.go_body.proofs.SwitchLemmas as switch
use Rattle.go_body.proofs.body.stmt.+stmts.Goals as goal

pub stmt-returns-in_ok-stand-in-Block-clause-does : goal.stmt-returns-in_ok-stand-in-Block-clause-does
stmt-returns-in_ok-stand-in-Block-clause-does t c =
    lemma.block_arm c.args.around.now (targets_of c.args.targets.now) c.args.s.now c.deref.result.now (option_map (λ x. x.now) c.args.label) c.args.walk.now c.block.new.walk c.args.flaws.now.items c.block.new.flaws.items c.args.out.now.items c.stand.new.out.items c.in-Block.b c.deref.ensures c.in-Block.is
    (standing_does (block (block_view c.in-Block.b) (around_of (types_of c.args.walk.now.env) c.args.around.now (targets_of c.args.targets.now) None)) c.args.walk.now c.block.new.walk c.args.flaws.now.items c.block.new.flaws.items c.args.out.now.items c.block.new.out.items c.stand.new.out.items c.len-done.result (let u = c.len-done.ensures in let v = c.args.out.now.ok.0 in omega (arith, u, v)) c.in_ok-block-in-Block.ensures.does c.in_ok-stand-in-Block.ensures.core)

pub stmt-returns-in_ok-if_stmt-in-If-clause-does : goal.stmt-returns-in_ok-if_stmt-in-If-clause-does
stmt-returns-in_ok-if_stmt-in-If-clause-does t c =
    lemma.if_arm c.args.around.now (targets_of c.args.targets.now) c.args.s.now c.deref.result.now (option_map (λ x. x.now) c.args.label) c.args.walk.now c.pop.new.walk c.args.flaws.now.items c.if_stmt.new.flaws.items c.args.out.now.items c.if_stmt.new.out.items c.in-If.init c.in-If.x c.in-If.b c.in-If.other c.push.new.walk c.if_stmt.new.walk c.deref.ensures c.in-If.is c.requires.ready c.in_ok-push-in-If.ensures.value c.in_ok-push-in-If.ensures.depth c.push.ensures.table c.in_ok-if_stmt-in-If.ensures.does c.pop.ensures.value c.pop.ensures.depth c.pop.ensures.table

pub stmt-if_stmt-requires : goal.stmt-if_stmt-requires
stmt-if_stmt-requires t c =
    (omega (arith, size.if_less c.args.s.now c.deref.result.now c.in-If.init c.in-If.x c.in-If.b c.in-If.other c.deref.ensures c.in-If.is), keep.ready_pushed c.args.around.now c.args.walk.now c.push.new.walk c.in_ok-push-in-If.ensures.value c.in_ok-push-in-If.ensures.depth c.push.ensures.table c.requires.ready)

pub stmt-pop-requires : goal.stmt-pop-requires
stmt-pop-requires t c =
    let d = c.in_ok-push-in-If.ensures.depth in let e = c.in_ok-if_stmt-in-If.ensures.does.depth in omega (arith, d, e)

pub stmt-returns-in_ok-for_stmt-in-For-clause-does : goal.stmt-returns-in_ok-for_stmt-in-For-clause-does
stmt-returns-in_ok-for_stmt-in-For-clause-does t c =
    lemma.for_arm c.args.around.now (targets_of c.args.targets.now) c.args.s.now c.deref.result.now (option_map (λ x. x.now) c.args.label) c.args.walk.now c.pop-in-For.new.walk c.args.flaws.now.items c.for_stmt.new.flaws.items c.args.out.now.items c.for_stmt.new.out.items c.in-For.init c.in-For.x c.in-For.turn c.in-For.b c.push-in-For.new.walk c.for_stmt.new.walk c.deref.ensures c.in-For.is c.requires.ready c.in_ok-push-in-For.ensures.value c.in_ok-push-in-For.ensures.depth c.push-in-For.ensures.table c.in_ok-for_stmt-in-For.ensures.does c.pop-in-For.ensures.value c.pop-in-For.ensures.depth c.pop-in-For.ensures.table

pub stmt-for_stmt-requires : goal.stmt-for_stmt-requires
stmt-for_stmt-requires t c =
    (omega (arith, size.for_less c.args.s.now c.deref.result.now c.in-For.init c.in-For.x c.in-For.turn c.in-For.b c.deref.ensures c.in-For.is), keep.ready_pushed c.args.around.now c.args.walk.now c.push-in-For.new.walk c.in_ok-push-in-For.ensures.value c.in_ok-push-in-For.ensures.depth c.push-in-For.ensures.table c.requires.ready)

pub stmt-pop-requires-in-For : goal.stmt-pop-requires-in-For
stmt-pop-requires-in-For t c =
    let d = c.in_ok-push-in-For.ensures.depth in let e = c.in_ok-for_stmt-in-For.ensures.does.depth in omega (arith, d, e)

pub stmt-returns-in_ok-told_many-in-Switch-clause-does : goal.stmt-returns-in_ok-told_many-in-Switch-clause-does
stmt-returns-in_ok-told_many-in-Switch-clause-does t c =
    lemma.switch_arm c.args.around.now (targets_of c.args.targets.now) c.args.s.now c.deref.result.now (option_map (λ x. x.now) c.args.label) c.args.walk.now c.pop-in-Switch.new.walk c.args.flaws.now.items c.told_many.new.flaws.items c.args.out.now.items c.switch_stmt.new.out.items c.in-Switch.init c.in-Switch.x c.as_slice.result.now c.in-Switch.cs c.so_far-before.result c.len.result c.switch_stmt.new.flaws.items c.push-in-Switch.new.walk c.switch_stmt.new.walk c.deref.ensures c.in-Switch.is c.as_slice.ensures.value c.requires.ready c.in_ok-push-in-Switch.ensures.value c.in_ok-push-in-Switch.ensures.depth c.push-in-Switch.ensures.table c.in_ok-switch_stmt-in-Switch.ensures.does c.pop-in-Switch.ensures.value c.pop-in-Switch.ensures.depth c.pop-in-Switch.ensures.table c.so_far-before.ensures.flaws c.so_far-before.ensures.declared c.so_far-before.ensures.lost (c.len.ensures ∙ lemma.same_length c.in-Switch.cs c.as_slice.result.now c.as_slice.ensures.value) c.in_ok-told_many-in-Switch.ensures.told

pub stmt-switch_stmt-requires : goal.stmt-switch_stmt-requires
stmt-switch_stmt-requires t c =
    (omega (arith, size.switch_less c.args.s.now c.deref.result.now c.in-Switch.init c.in-Switch.x c.as_slice.result.now c.in-Switch.cs c.deref.ensures c.in-Switch.is c.as_slice.ensures.value), keep.ready_pushed c.args.around.now c.args.walk.now c.push-in-Switch.new.walk c.in_ok-push-in-Switch.ensures.value c.in_ok-push-in-Switch.ensures.depth c.push-in-Switch.ensures.table c.requires.ready)

pub stmt-pop-requires-in-Switch : goal.stmt-pop-requires-in-Switch
stmt-pop-requires-in-Switch t c =
    let d = c.in_ok-push-in-Switch.ensures.depth in let e = c.in_ok-switch_stmt-in-Switch.ensures.does.depth in omega (arith, d, e)

pub stmt-returns-in_ok-stmt-in-Labeled-clause-does : goal.stmt-returns-in_ok-stmt-in-Labeled-clause-does
stmt-returns-in_ok-stmt-in-Labeled-clause-does t c =
    lemma.label_arm c.args.around.now (targets_of c.args.targets.now) c.args.s.now c.deref.result.now (option_map (λ x. x.now) c.args.label) c.args.walk.now c.stmt.new.walk c.args.flaws.now.items c.stmt.new.flaws.items c.args.out.now.items c.stmt.new.out.items c.in-Labeled.n c.in-Labeled.s (option_map (λ x. x.now) c.label_of.result) c.deref.ensures c.in-Labeled.is c.label_of.ensures.value c.in_ok-stmt-in-Labeled.ensures.does

pub stmt-returns-in_ok-plain-in_default-clause-does : goal.stmt-returns-in_ok-plain-in_default-clause-does
stmt-returns-in_ok-plain-in_default-clause-does t c =
    c.in_ok-plain-in_default.ensures.does (option_map (λ x. x.now) c.args.label)

pub maybe-returns-in_ok-stmt-in-Some-clause-does : goal.maybe-returns-in_ok-stmt-in-Some-clause-does
maybe-returns-in_ok-stmt-in-Some-clause-does t c =
    lemma.some_does c.args.s.now c.in-Some.s (around_of (types_of c.args.walk.now.env) c.args.around.now (targets_of c.args.targets.now) None) c.args.walk.now c.stmt.new.walk c.args.flaws.now.items c.stmt.new.flaws.items c.args.out.now.items c.stmt.new.out.items c.in-Some.is c.in_ok-stmt-in-Some.ensures.does

pub maybe-returns-in-None-clause-does : goal.maybe-returns-in-None-clause-does
maybe-returns-in-None-clause-does t c =
    lemma.none_does c.args.s.now (around_of (types_of c.args.walk.now.env) c.args.around.now (targets_of c.args.targets.now) None) c.args.walk.now c.args.flaws.now.items c.args.out.now.items c.in-None.is

pub stmts-loop-s-init : goal.stmts-loop-s-init
stmts-loop-s-init t c =
    record { ready = c.requires.ready; gone = loops.gone_begin c.args.onward (around_of (types_of c.args.walk.now.env) c.args.around.now (targets_of c.args.targets.now) None) c.args.ss.now c.args.walk.now c.args.flaws.now.items c.args.out.now.items c.requires.falls; targets = refl }

pub stmts-stmt-requires : goal.stmts-stmt-requires
stmts-stmt-requires t c =
    (omega (arith, size.stmt_less c.args.ss.now c.loop-s.s-index c.s-item.result c.s-item.is c.loop-s-test.true), c.loop-s.invariant.ready)

pub stmts-returns-then-is_taken_off-clause-does : goal.stmts-returns-then-is_taken_off-clause-does
stmts-returns-then-is_taken_off-clause-does t c =
    loops.gone_taken c.args.onward c.is_taken_off.result (around_of (types_of c.args.walk.now.env) c.args.around.now (targets_of c.args.targets.now) None) c.args.ss.now c.loop-s.s-index c.loop-s.left c.s-item.result c.args.walk.now c.loop-s.walk c.args.flaws.now.items c.loop-s.flaws.items c.args.out.now.items c.loop-s.out.items c.is_taken_off.ensures.value c.if-is_taken_off.true c.loop-s-test.true c.s-item.is c.loop-s.invariant.gone

pub stmts-loop-s-preserved : goal.stmts-loop-s-preserved
stmts-loop-s-preserved t c =
    record {
      ready = lemma.ready_stmt c.args.around.now (stmt_view c.s-item.result) (around_of (types_of c.loop-s.walk.env) c.args.around.now (targets_of c.loop-s.targets) None) c.loop-s.walk c.stmt.new.walk c.loop-s.flaws.items c.stmt.new.flaws.items c.loop-s.out.items c.stmt.new.out.items c.in_ok-stmt.ensures.does c.loop-s.invariant.ready;
      gone = loops.gone_step c.args.onward (around_of (types_of c.args.walk.now.env) c.args.around.now (targets_of c.args.targets.now) None) c.args.ss.now c.loop-s.s-index c.loop-s.left c.s-item.result c.args.walk.now c.loop-s.walk c.stmt.new.walk c.args.flaws.now.items c.loop-s.flaws.items c.stmt.new.flaws.items c.args.out.now.items c.loop-s.out.items c.stmt.new.out.items c.loop-s-test.true c.s-item.is (loops.not_taken c.args.onward c.is_taken_off.result (c.loop-s.left - 1) c.is_taken_off.ensures.value c.if-is_taken_off.false) c.loop-s.invariant.gone (keep.does_before c.args.around.now c.args.walk.now (stmt (stmt_view c.s-item.result)) (targets_of c.args.targets.now) (targets_of c.loop-s.targets) None c.loop-s.walk c.stmt.new.walk c.loop-s.flaws.items c.stmt.new.flaws.items c.loop-s.out.items c.stmt.new.out.items c.requires.ready c.loop-s.invariant.gone.does.kept c.loop-s.invariant.targets c.in_ok-stmt.ensures.does);
      targets = c.in_ok-stmt.ensures.targets ∙ c.loop-s.invariant.targets;
    }

pub stmts-returns-clause-does : goal.stmts-returns-clause-does
stmts-returns-clause-does t c =
    loops.gone_end c.args.onward (around_of (types_of c.args.walk.now.env) c.args.around.now (targets_of c.args.targets.now) None) c.args.ss.now c.loop-s.s-index c.loop-s.left c.args.walk.now c.loop-s.walk c.args.flaws.now.items c.loop-s.flaws.items c.args.out.now.items c.loop-s.out.items c.loop-s-test.false c.loop-s.invariant.gone

pub stmts-returns-clause-targets : goal.stmts-returns-clause-targets
stmts-returns-clause-targets t c =
    c.loop-s.invariant.targets

pub scoped-stmts-requires : goal.scoped-stmts-requires
scoped-stmts-requires t c =
    (omega arith, (keep.ready_pushed c.args.around.now c.args.walk.now c.push.new.walk c.in_ok-push.ensures.value c.in_ok-push.ensures.depth c.push.ensures.table c.requires.ready, c.requires.falls))

pub scoped-pop-requires : goal.scoped-pop-requires
scoped-pop-requires t c =
    let d = c.in_ok-push.ensures.depth in let e = c.in_ok-stmts.ensures.does.depth in omega (arith, d, e)

pub block-returns-clause-does : goal.block-returns-clause-does
block-returns-clause-does t c =
    loops.block_from c.args.b.now c.as_slice.result.now (around_of (types_of c.args.walk.now.env) c.args.around.now (targets_of c.args.targets.now) None) c.args.walk.now c.scoped.new.walk c.args.flaws.now.items c.scoped.new.flaws.items c.args.out.now.items c.scoped.new.out.items c.as_slice.ensures.value c.in_ok-scoped.ensures.does

pub block-scoped-requires : goal.block-scoped-requires
block-scoped-requires t c =
    (omega (arith, size.block_parts c.args.b.now c.as_slice.result.now c.as_slice.ensures.value), (c.requires.ready, λ e. absurd (cc)))

pub stmt-block-requires : goal.stmt-block-requires
stmt-block-requires t c =
    (omega (arith, size.block_less c.args.s.now c.deref.result.now c.in-Block.b c.deref.ensures c.in-Block.is), c.requires.ready)

pub stmt-stmt-requires : goal.stmt-stmt-requires
stmt-stmt-requires t c =
    (omega (arith, size.label_less c.args.s.now c.deref.result.now c.in-Labeled.n c.in-Labeled.s c.deref.ensures c.in-Labeled.is), c.requires.ready)

pub maybe-stmt-requires : goal.maybe-stmt-requires
maybe-stmt-requires t c =
    (omega (arith, size.some_less c.args.s.now c.in-Some.s c.in-Some.is), c.requires.ready)

pub after_turn-stmt-requires : goal.after_turn-stmt-requires
after_turn-stmt-requires t c =
    (omega (arith, size.some_less c.args.turn.now c.in-Some.s c.in-Some.is), c.requires.ready)

pub if_stmt-maybe-requires : goal.if_stmt-maybe-requires
if_stmt-maybe-requires t c =
    (omega arith, c.requires.ready)

pub for_stmt-maybe-requires : goal.for_stmt-maybe-requires
for_stmt-maybe-requires t c =
    (omega arith, c.requires.ready)

pub switch_stmt-maybe-requires : goal.switch_stmt-maybe-requires
switch_stmt-maybe-requires t c =
    (omega arith, c.requires.ready)

pub if_stmt-block-requires : goal.if_stmt-block-requires
if_stmt-block-requires t c =
    (omega arith, keep.ready_passed c.args.around.now (uses (expr_view c.args.x.now)) c.maybe.new.walk c.decided.new.walk c.in-Ok.ensures.passes (lemma.ready_maybe c.args.around.now (maybe_stmt (option_map stmt_view c.args.init.now)) (around_of (types_of c.args.walk.now.env) c.args.around.now (targets_of c.args.targets.now) None) c.args.walk.now c.maybe.new.walk c.args.flaws.now.items c.maybe.new.flaws.items c.args.out.now.items c.maybe.new.out.items c.in_ok-maybe.ensures.does c.requires.ready))

pub if_stmt-maybe-requires-in-Ok-block : goal.if_stmt-maybe-requires-in-Ok-block
if_stmt-maybe-requires-in-Ok-block t c =
    (omega arith, lemma.ready_block c.args.around.now (block_view c.args.b.now) (around_of (types_of c.decided.new.walk.env) c.args.around.now (targets_of c.maybe.new.targets) None) c.decided.new.walk c.block.new.walk c.decided.new.flaws.items c.block.new.flaws.items c.new-when_true.result.items c.block.new.out.items c.in-Ok-block.ensures.does (keep.ready_passed c.args.around.now (uses (expr_view c.args.x.now)) c.maybe.new.walk c.decided.new.walk c.in-Ok.ensures.passes (lemma.ready_maybe c.args.around.now (maybe_stmt (option_map stmt_view c.args.init.now)) (around_of (types_of c.args.walk.now.env) c.args.around.now (targets_of c.args.targets.now) None) c.args.walk.now c.maybe.new.walk c.args.flaws.now.items c.maybe.new.flaws.items c.args.out.now.items c.maybe.new.out.items c.in_ok-maybe.ensures.does c.requires.ready)))

pub if_stmt-returns-in_ok-and_choice-in-Ok-maybe-clause-does : goal.if_stmt-returns-in_ok-and_choice-in-Ok-maybe-clause-does
if_stmt-returns-in_ok-and_choice-in-Ok-maybe-clause-does t c =
    lemma.if_all c.args.around.now (targets_of c.args.targets.now) c.args.walk.now c.requires.ready (maybe_stmt (option_map stmt_view c.args.init.now)) (expr_view c.args.x.now) (block_view c.args.b.now) (maybe_stmt (option_map stmt_view c.args.other.now)) (targets_of c.maybe.new.targets) (targets_of c.block.new.targets) c.maybe.new.walk c.decided.new.walk c.block.new.walk c.maybe-in-Ok-block.new.walk c.args.flaws.now.items c.maybe.new.flaws.items c.decided.new.flaws.items c.block.new.flaws.items c.maybe-in-Ok-block.new.flaws.items c.args.out.now.items c.maybe.new.out.items c.and_choice.new.out.items c.new-when_true.result.items c.block.new.out.items c.new-when_false.result.items c.maybe-in-Ok-block.new.out.items c.in-Ok.condition c.new-when_true.ensures.items c.new-when_false.ensures.items c.in_ok-maybe.ensures.targets c.in-Ok-block.ensures.targets c.in_ok-maybe.ensures.does c.in-Ok.ensures.core c.in-Ok.ensures.told c.in-Ok.ensures.passes c.in-Ok-block.ensures.does c.in-Ok-maybe.ensures.does c.in_ok-and_choice-in-Ok-maybe.ensures.core

pub after_turn-returns-then-is_define-clause-does : goal.after_turn-returns-then-is_define-clause-does
after_turn-returns-then-is_define-clause-does t c =
    lemma.some_post c.args.turn.now c.in-Some.s (around_of (types_of c.args.walk.now.env) c.args.around.now (targets_of c.args.targets.now) None) c.args.walk.now c.told_define.new.walk c.args.flaws.now.items c.told_define.new.flaws.items c.args.out.now.items c.args.out.now.items c.in-Some.is (c.in_ok-told_define-in-Some.ensures.does (maybe (tree.AStmt (stmt_view c.in-Some.s)) (around_of (types_of c.args.walk.now.env) c.args.around.now (targets_of c.args.targets.now) None)) c.args.out.now.items)

pub after_turn-returns-in_ok-stmt-in-Some-clause-does : goal.after_turn-returns-in_ok-stmt-in-Some-clause-does
after_turn-returns-in_ok-stmt-in-Some-clause-does t c =
    lemma.some_post c.args.turn.now c.in-Some.s (around_of (types_of c.args.walk.now.env) c.args.around.now (targets_of c.args.targets.now) None) c.args.walk.now c.stmt.new.walk c.args.flaws.now.items c.stmt.new.flaws.items c.args.out.now.items c.stmt.new.out.items c.in-Some.is (leaf.other_does (stmt_view c.in-Some.s) (maybe (tree.AStmt (stmt_view c.in-Some.s)) (around_of (types_of c.args.walk.now.env) c.args.around.now (targets_of c.args.targets.now) None)) c.args.walk.now c.stmt.new.walk c.args.flaws.now.items c.stmt.new.flaws.items c.args.out.now.items c.stmt.new.out.items (sym c.is_define.ensures.value ∙ c.if-is_define.false) c.in_ok-stmt-in-Some.ensures.does)

pub after_turn-returns-in-None-clause-does : goal.after_turn-returns-in-None-clause-does
after_turn-returns-in-None-clause-does t c =
    lemma.none_post c.args.turn.now (around_of (types_of c.args.walk.now.env) c.args.around.now (targets_of c.args.targets.now) None) c.args.walk.now c.args.flaws.now.items c.args.out.now.items c.in-None.is

pub after_turn-told_define-requires : goal.after_turn-told_define-requires
after_turn-told_define-requires t c =
    record { depth = c.requires.ready.depth; define = sym c.is_define.ensures.value ∙ c.if-is_define.true }

pub turned-block-requires : goal.turned-block-requires
turned-block-requires t c =
    (omega arith, keep.ready_passed c.args.around.now next_label c.args.walk.now c.enter.new.walk c.in_ok-enter.ensures.passes c.requires.ready)

pub turned-returns-clause-does : goal.turned-returns-clause-does
turned-returns-clause-does t c =
    lemma.turn_does c.args.around.now (targets_of c.args.targets.now) (targets_of c.enter.new.targets) (option_map (λ x. x.now) c.args.label) c.args.number.0 (block_view c.args.b.now) c.args.walk.now c.enter.new.walk c.block.new.walk c.args.flaws.now.items c.block.new.flaws.items c.args.out.now.items c.block.new.out.items c.requires.ready c.in_ok-enter.ensures.targets c.in_ok-enter.ensures.passes c.in_ok-block.ensures.does

pub for_stmt-after_turn-requires : goal.for_stmt-after_turn-requires
for_stmt-after_turn-requires t c =
    (omega arith, keep.ready_passed c.args.around.now (condition_uses (maybe_expr (option_map expr_view c.args.x.now))) c.maybe.new.walk c.maybe_decided.new.walk c.in-Ok.ensures.passes (lemma.ready_maybe c.args.around.now (maybe_stmt (option_map stmt_view c.args.init.now)) (around_of (types_of c.args.walk.now.env) c.args.around.now (targets_of c.args.targets.now) None) c.args.walk.now c.maybe.new.walk c.args.flaws.now.items c.maybe.new.flaws.items c.args.out.now.items c.maybe.new.out.items c.in_ok-maybe.ensures.does c.requires.ready))

pub for_stmt-turned-requires : goal.for_stmt-turned-requires
for_stmt-turned-requires t c =
    (omega arith, lemma.ready_post c.args.around.now (maybe_stmt (option_map stmt_view c.args.turn.now)) (around_of (types_of c.maybe_decided.new.walk.env) c.args.around.now (targets_of c.maybe.new.targets) None) c.maybe_decided.new.walk c.after_turn.new.walk c.maybe_decided.new.flaws.items c.after_turn.new.flaws.items c.new-after.result.items c.after_turn.new.out.items c.in-Ok-after_turn.ensures.does (keep.ready_passed c.args.around.now (condition_uses (maybe_expr (option_map expr_view c.args.x.now))) c.maybe.new.walk c.maybe_decided.new.walk c.in-Ok.ensures.passes (lemma.ready_maybe c.args.around.now (maybe_stmt (option_map stmt_view c.args.init.now)) (around_of (types_of c.args.walk.now.env) c.args.around.now (targets_of c.args.targets.now) None) c.args.walk.now c.maybe.new.walk c.args.flaws.now.items c.maybe.new.flaws.items c.args.out.now.items c.maybe.new.out.items c.in_ok-maybe.ensures.does c.requires.ready)))

pub for_stmt-returns-in_ok-and_loop-in-Ok-turned-clause-does : goal.for_stmt-returns-in_ok-and_loop-in-Ok-turned-clause-does
for_stmt-returns-in_ok-and_loop-in-Ok-turned-clause-does t c =
    lemma.for_all c.args.around.now (targets_of c.args.targets.now) c.args.walk.now c.requires.ready (maybe_stmt (option_map stmt_view c.args.init.now)) (maybe_expr (option_map expr_view c.args.x.now)) (maybe_stmt (option_map stmt_view c.args.turn.now)) (block_view c.args.b.now) (option_map (λ x. x.now) c.args.label) c.args.walk.now.next_label (targets_of c.maybe.new.targets) (targets_of c.after_turn.new.targets) c.maybe.new.walk c.maybe_decided.new.walk c.after_turn.new.walk c.turned.new.walk c.args.flaws.now.items c.maybe.new.flaws.items c.maybe_decided.new.flaws.items c.after_turn.new.flaws.items c.turned.new.flaws.items c.args.out.now.items c.maybe.new.out.items c.and_loop.new.out.items c.new-after.result.items c.after_turn.new.out.items c.new-inside.result.items c.turned.new.out.items c.in-Ok.condition c.new-after.ensures.items c.new-inside.ensures.items refl c.in_ok-maybe.ensures.targets c.in-Ok-after_turn.ensures.targets c.in_ok-maybe.ensures.does c.in-Ok.ensures.core c.in-Ok.ensures.told c.in-Ok.ensures.passes c.in-Ok-after_turn.ensures.does c.in-Ok-turned.ensures.does c.in_ok-and_loop-in-Ok-turned.ensures.core

pub clause-scoped-requires : goal.clause-scoped-requires
clause-scoped-requires t c =
    (omega (arith, size.clause_parts c.args.c.now c.as_slice-2.result.now c.as_slice-2.ensures.value), (keep.ready_passed c.args.around.now (uses_all (exprs_of (map expr_view (out-Clause c.args.c.now).exprs.items))) c.args.walk.now c.tested.new.walk c.in_ok-tested.ensures.passes c.requires.ready, λ e. ap (λ (xs : List Stmt). falls (stmts_of (map stmt_view xs))) (c.as_slice-2.ensures.value ∙ sym c.as_slice.ensures.value) ∙ lemma.falls_of c.goes_on-onward.result (falls (stmts_of (map stmt_view c.as_slice.result.now))) c.args.is_last c.goes_on-onward.ensures.value e))

pub clause-returns-in_ok-and_made-in-Ok-clause-does : goal.clause-returns-in_ok-and_made-in-Ok-clause-does
clause-returns-in_ok-and_made-in-Ok-clause-does t c =
    λ ks h. lemma.clause_all c.args.around.now (targets_of c.args.targets.now) c.args.c.now c.args.tag.id.0 c.args.number (option_map (tree_of (types_of c.args.walk.now.env)) c.args.tag.ty) ks c.args.is_last c.goes_on-onward.result c.is_default.result c.is_some-had.result c.as_slice-2.result.now c.args.walk.now c.tested.new.walk c.scoped.new.walk c.args.flaws.now.items c.tested.new.flaws.items c.scoped.new.flaws.items c.args.made.now.tests.items c.tested.new.tests.items c.and_made.new.made.tests.items c.args.made.now.clauses.items c.and_made.new.made.clauses.items c.args.made.now.default c.and_made.new.made.default c.tested.new.seen c.new-inside.result.items c.scoped.new.out.items c.requires.ready c.new-inside.ensures.items (c.goes_on-onward.ensures.value ∙ ap (λ (xs : List Stmt). falls (stmts_of (map stmt_view xs)) && not c.args.is_last) c.as_slice.ensures.value) c.is_default.ensures.value c.is_some-had.ensures c.as_slice-2.ensures.value (λ us. c.in_ok-tested.ensures.tested us ks h) c.in_ok-tested.ensures.passes c.in-Ok.ensures.does (ap (λ (v : Vec CoreTest Global). v.items) c.and_made.ensures.tests) c.in_ok-and_made-in-Ok.ensures.clauses c.in_ok-and_made-in-Ok.ensures.default

pub clause-returns-in_ok-and_made-in-Ok-clause-seen : goal.clause-returns-in_ok-and_made-in-Ok-clause-seen
clause-returns-in_ok-and_made-in-Ok-clause-seen t c =
    λ us ks h. subst (λ (s : ConstSet). HasAll s (case_tests (walk_of us c.args.walk.now) c.args.tag.id.0 (option_map (tree_of (types_of c.args.walk.now.env)) c.args.tag.ty) c.args.number (exprs_of (map expr_view (out-Clause c.args.c.now).exprs.items)) ks).seen) (sym c.and_made.ensures.seen) (c.in_ok-tested.ensures.tested us ks h).seen

pub clauses-loop-c-init : goal.clauses-loop-c-init
clauses-loop-c-init t c =
    record { ready = c.requires.ready; turned = switch.turned_begin (around_of (types_of c.args.walk.now.env) c.args.around.now (targets_of c.args.targets.now) None) c.args.tag.id.0 (option_map (tree_of (types_of c.args.walk.now.env)) c.args.tag.ty) c.args.cs.now c.args.walk.now c.args.flaws.now.items c.args.made.now c.requires.none; targets = refl }

pub clauses-clause-requires : goal.clauses-clause-requires
clauses-clause-requires t c =
    (omega (arith, size.clause_less c.args.cs.now c.loop-c.c-index c.c-item.result c.c-item.is c.loop-c-test.true), (c.loop-c.invariant.ready, keep.tag_more (table_of c.args.walk.now.env) (table_of c.loop-c.walk.env) c.args.tag.ty c.loop-c.invariant.turned.does.counts c.requires.ty))

pub clauses-loop-c-preserved : goal.clauses-loop-c-preserved
clauses-loop-c-preserved t c =
    record {
      ready = lemma.ready_clauses c.args.around.now c.c-item.result (around_of (types_of c.loop-c.walk.env) c.args.around.now (targets_of c.loop-c.targets) None) c.none_left.result (λ w. case_tests w c.args.tag.id.0 (option_map (tree_of (types_of c.loop-c.walk.env)) c.args.tag.ty) c.loop-c.number (exprs_of (map expr_view (out-Clause c.c-item.result).exprs.items)) c.loop-c.invariant.turned.so_far) c.loop-c.number (is_default (exprs_of (map expr_view (out-Clause c.c-item.result).exprs.items))) (is_some c.loop-c.made.default) (falls (stmts_of (map stmt_view (out-Clause c.c-item.result).body.items)) && not c.none_left.result) c.loop-c.walk c.clause.new.walk c.loop-c.flaws.items c.clause.new.flaws.items c.loop-c.made.tests.items c.clause.new.made.tests.items c.loop-c.made.clauses.items c.clause.new.made.clauses.items c.loop-c.made.default c.clause.new.made.default (c.in_ok-clause.ensures.does c.loop-c.invariant.turned.so_far c.loop-c.invariant.turned.has) c.loop-c.invariant.ready;
      turned = lemma.turned_all c.args.around.now (targets_of c.args.targets.now) (targets_of c.loop-c.targets) c.args.tag c.args.cs.now c.loop-c.c-index c.loop-c.left c.loop-c.number c.in_ok-number.number c.none_left.result c.c-item.result c.args.walk.now c.loop-c.walk c.clause.new.walk c.args.flaws.now.items c.loop-c.flaws.items c.clause.new.flaws.items c.loop-c.made c.clause.new.made c.requires.ready c.requires.ty c.loop-c.invariant.targets c.loop-c-test.true c.c-item.is c.none_left.ensures.value c.in_ok-number.ensures.value c.loop-c.invariant.turned c.in_ok-clause.ensures.does c.in_ok-clause.ensures.seen;
      targets = c.in_ok-clause.ensures.targets ∙ c.loop-c.invariant.targets;
    }

pub clauses-returns-clause-does : goal.clauses-returns-clause-does
clauses-returns-clause-does t c =
    switch.turned_end (around_of (types_of c.args.walk.now.env) c.args.around.now (targets_of c.args.targets.now) None) c.args.tag.id.0 (option_map (tree_of (types_of c.args.walk.now.env)) c.args.tag.ty) c.args.cs.now c.loop-c.c-index c.loop-c.left c.loop-c.number c.args.walk.now c.loop-c.walk c.args.flaws.now.items c.loop-c.flaws.items c.loop-c.made c.loop-c-test.false c.loop-c.invariant.turned

pub clauses-returns-clause-targets : goal.clauses-returns-clause-targets
clauses-returns-clause-targets t c =
    c.loop-c.invariant.targets

pub switch_stmt-clauses-requires : goal.switch_stmt-clauses-requires
switch_stmt-clauses-requires t c =
    (omega arith, (keep.ready_passed c.args.around.now next_label c.begin_tag.new.walk c.enter.new.walk c.in_ok-enter.ensures.passes (keep.ready_env c.args.around.now c.maybe.new.walk c.begin_tag.new.walk c.in_ok-tag.ensures.tagged.env c.in_ok-tag.ensures.tagged.counts (lemma.ready_maybe c.args.around.now (maybe_stmt (option_map stmt_view c.args.init.now)) (around_of (types_of c.args.walk.now.env) c.args.around.now (targets_of c.args.targets.now) None) c.args.walk.now c.maybe.new.walk c.args.flaws.now.items c.maybe.new.flaws.items c.args.out.now.items c.maybe.new.out.items c.in_ok-maybe.ensures.does c.requires.ready)), (keep.tag_more (table_of c.begin_tag.new.walk.env) (table_of c.enter.new.walk.env) c.in_ok-tag.tag.ty c.in_ok-enter.ensures.passes.counts c.in_ok-tag.ensures.tagged.below, c.made_nothing-made.ensures.nothing)))

pub switch_stmt-returns-in_ok-and_switch-in-Ok-clause-does : goal.switch_stmt-returns-in_ok-and_switch-in-Ok-clause-does
switch_stmt-returns-in_ok-and_switch-in-Ok-clause-does t c =
    lemma.switch_all c.args.around.now (targets_of c.args.targets.now) c.args.walk.now c.requires.ready (maybe_stmt (option_map stmt_view c.args.init.now)) (maybe_expr (option_map expr_view c.args.x.now)) (joined (map clause_view c.args.cs.now) tree.NoClauses) (option_map (λ x. x.now) c.args.label) c.begin_tag.new.walk.next_label c.in_ok-tag.tag (targets_of c.enter.new.targets) c.maybe.new.walk c.begin_tag.new.walk c.enter.new.walk c.clauses.new.walk c.args.flaws.now.items c.maybe.new.flaws.items c.begin_tag.new.flaws.items c.clauses.new.flaws.items c.args.out.now.items c.maybe.new.out.items c.begin_tag.new.out.items c.and_switch.new.out.items c.clauses.new.made (c.in_ok-enter.ensures.targets ∙ ap (λ (gs : List Target). (record { label = c.begin_tag.new.walk.next_label; name = (option_map (λ x. x.now) c.args.label); is_loop = false }) ∷ gs) c.in_ok-maybe.ensures.targets) c.in_ok-maybe.ensures.does c.in_ok-tag.ensures.tagged refl c.in_ok-enter.ensures.passes c.in-Ok.ensures.does c.in_ok-and_switch-in-Ok.ensures.core

pub switch_stmt-returns-in_ok-and_switch-in-Ok-clause-targets : goal.switch_stmt-returns-in_ok-and_switch-in-Ok-clause-targets
switch_stmt-returns-in_ok-and_switch-in-Ok-clause-targets t c =
    c.pop.ensures.value ∙ ap without_first (c.in-Ok.ensures.targets ∙ c.in_ok-enter.ensures.targets) ∙ c.in_ok-maybe.ensures.targets
