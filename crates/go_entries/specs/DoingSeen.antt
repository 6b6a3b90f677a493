-- Which tasks of the definitions those of the program stand for.
use Rattle.std.specs.Prelude.{◌≡◌, List, [], ◌∷◌, false, Option, Some, None, length}
use Rattle.go_type.specs.Tree.{Ty}
use Rattle.go_type.specs.Levels.{tree_of}
use Rattle.go_core.specs.CoreView.{var_of, expr_view, callee_view, stmts_view, branch_of}
use Rattle.go_core.specs.Opened.{indexes_of, cases_of, called_of}
use Rattle.go_core.specs.Operator as op
use Rattle.go_core.specs.Goroutine as defined
use Rattle.go_slices.specs.Seen.{operator_of}
use Rattle.go_state.specs.TasksSeen.{elements_view, cases_view, tests_from, targets_from, clauses_from, condition_of}
use Rattle.go_state.specs.StateSeen.{ranged_of, vars_of}
use Rattle.go_state.specs.Passed.{begins_with_step}
use Rattle.go_entries.specs.declared.doing.task.Doing.{Doing}
use Rattle.go_entries.specs.declared.doing.task.Doing.TheVariants as doing

-- with the trees of the table's types
module _ (ts : List Ty) where
  abbrev pub doing_of : Doing → defined.Task
  doing_of (doing.Operate o n) = defined.operate (operator_of ts o) n
  doing_of (doing.Build b) =
      let is = indexes_of (elements_view ts b.elements.now) in defined.operate (op.to_built (tree_of ts b.ty) b.count is) (length is)
  doing_of (doing.AtLocal v) = defined.at_local v.0
  doing_of (doing.MakeClosure f) = defined.make_closure f.0
  doing_of (doing.OnlyWhereTrue e) = defined.only_where_true (expr_view ts e.now)
  doing_of (doing.OnlyWhereFalse e) = defined.only_where_false (expr_view ts e.now)
  doing_of (doing.BindVars vs) = defined.bind_vars (vars_of ts vs.now)
  doing_of (doing.DeclareVar v) = defined.declare_var (var_of ts v)
  doing_of (doing.Assign targets n) = defined.assign (targets_from ts targets.now 0) n
  doing_of (doing.Choose a b) = defined.choose (stmts_view ts a.now) (stmts_view ts b.now)
  doing_of (doing.Turn l) = defined.turn l.label.0 (condition_of ts l) (stmts_view ts l.body.now) (stmts_view ts l.post.now)
  doing_of (doing.TurnAgain l) = defined.turn_again l.label.0 (condition_of ts l) (stmts_view ts l.body.now) (stmts_view ts l.post.now)
  doing_of (doing.ChooseClause n s) = defined.choose_clause n (tests_from ts s.tests.now s.from) (clauses_from ts s.clauses.now 0) s.default
  doing_of (doing.ChooseDefault cs d) = defined.choose_default (clauses_from ts cs.now 0) d
  doing_of (doing.BeginRange r) = defined.begin_range (ranged_of ts r)
  doing_of (doing.BranchTo kind label) = defined.branch_to (branch_of kind) label.0
  doing_of (doing.Call c n) = defined.call_with (called_of (callee_view ts c.now)) n
  doing_of (doing.Go c n) = defined.go_with (called_of (callee_view ts c.now)) n
  doing_of (doing.Defer c n) = defined.defer_with (called_of (callee_view ts c.now)) n
  doing_of (doing.Return n) = defined.return_with n
  doing_of doing.Panic = defined.panic_with
  doing_of doing.Recover = defined.recover_here
  doing_of (doing.SendTo t) = defined.send_to (tree_of ts t)
  doing_of (doing.ReceiveFrom t ok) = defined.receive_from (tree_of ts t) ok
  doing_of doing.Close = defined.close_channel
  doing_of (doing.SelectFrom s) = defined.select_from s.label.0 (cases_of (cases_view ts s.cases.now)) s.count s.has_default (stmts_view ts s.default.now)
  doing_of doing.TakeGate = defined.take_gate
  doing_of doing.AddToGate = defined.add_to_gate
  doing_of doing.AwaitGate = defined.await_gate
  doing_of doing.Yield = defined.yield_turn
  doing_of (doing.Print n ends_line) = defined.print_values n ends_line
  doing_of doing.Exit = defined.exit_with
  doing_of doing.Fatal = defined.fatal_with

  -- these tasks are the step that was found, before what remains; where none was, they begin with none
  abbrev pub IsDone : Option Doing → (List defined.Task → List defined.Task) → Type 0
  IsDone None first = begins_with_step (first []) ≡ false
  IsDone (Some d) first = (rest : List defined.Task) → first rest ≡ doing_of d ∷ rest
