use Rattle.std.proofs.Common.{◌≡◌, ◌+◌}
use Rattle.std.specs.Prelude.{None, option_map}
use Rattle.go_syntax.specs.View.{stmt_view, block_view}
use Rattle.go_syntax.specs.declared.tree.Clause.{out-Clause}
use Rattle.go_type.specs.Levels.{tree_of}
use Rattle.go_calls.specs.Words.{types_of}
use Rattle.go_walk.specs.Left.{targets_of}
use Rattle.go_define.specs.AroundView.{around_of}
use Rattle.go_body.specs.Bodies.{Ready}
use Rattle.go_body.proofs.LoopLemmas.{Gone}
use Rattle.go_body.proofs.SizeLemmas.{stmt_size, block_size, of_maybe, of_stmts, of_clauses}
use Rattle.go_body.proofs.SwitchLemmas.{Turned}
use Rattle.go_body.proofs.body.stmt.+stmts.Given as goal

-- what was done so far, with what is left
abbrev pub invariant-stmts-loop-s : goal.invariant-stmts-loop-s
invariant-stmts-loop-s l = record {
  ready : Ready l.around l.walk;
  gone : Gone l.onward (around_of (types_of l.initial.walk.env) l.around (targets_of l.initial.targets) None) l.ss l.s-index l.left l.initial.walk l.walk l.initial.flaws.items l.flaws.items l.initial.out.items l.out.items;
  targets : targets_of l.targets ≡ targets_of l.initial.targets;
}

abbrev pub invariant-clauses-loop-c : goal.invariant-clauses-loop-c
invariant-clauses-loop-c l = record {
  ready : Ready l.around l.walk;
  turned : Turned (around_of (types_of l.initial.walk.env) l.around (targets_of l.initial.targets) None) l.tag.id.0 (option_map (tree_of (types_of l.initial.walk.env)) l.tag.ty) l.cs l.c-index l.left l.number l.initial.walk l.walk l.initial.flaws.items l.flaws.items l.made;
  targets : targets_of l.targets ≡ targets_of l.initial.targets;
}

abbrev pub decreases-stmt : goal.decreases-stmt
decreases-stmt l = stmt_size (stmt_view l.s.now)

abbrev pub decreases-maybe : goal.decreases-maybe
decreases-maybe l = of_maybe l.s.now

abbrev pub decreases-stmts : goal.decreases-stmts
decreases-stmts l = of_stmts l.ss.now

abbrev pub decreases-scoped : goal.decreases-scoped
decreases-scoped l = of_stmts l.ss.now + 1

abbrev pub decreases-block : goal.decreases-block
decreases-block l = block_size (block_view l.b.now)

abbrev pub decreases-if_stmt : goal.decreases-if_stmt
decreases-if_stmt l = of_maybe l.init.now + block_size (block_view l.b.now) + of_maybe l.other.now + 1

abbrev pub decreases-after_turn : goal.decreases-after_turn
decreases-after_turn l = of_maybe l.turn.now

abbrev pub decreases-turned : goal.decreases-turned
decreases-turned l = block_size (block_view l.b.now) + 1

abbrev pub decreases-for_stmt : goal.decreases-for_stmt
decreases-for_stmt l = of_maybe l.init.now + of_maybe l.turn.now + block_size (block_view l.b.now) + 2

abbrev pub decreases-clause : goal.decreases-clause
decreases-clause l = of_stmts (out-Clause l.c.now).body.items + 2

abbrev pub decreases-clauses : goal.decreases-clauses
decreases-clauses l = of_clauses l.cs.now

abbrev pub decreases-switch_stmt : goal.decreases-switch_stmt
decreases-switch_stmt l = of_maybe l.init.now + of_clauses l.cs.now + 1
