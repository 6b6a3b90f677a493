use Rattle.std.proofs.Common.{drop, map, ◌≡◌, true}
use Rattle.go_core.specs.CoreView.{clauses_of, cases_of, stmts_of, stmt_view, var_of}
use Rattle.go_core.specs.Sound.{SoundCases, SoundClauses, SoundStmts}
use Rattle.go_core.specs.SoundNode.{with_all}
use Rattle.go_sound_nodes.specs.ListView.{clause_view, case_view}
use Rattle.go_sound_nodes.specs.Around.{around, program_in, trees_in}
use Rattle.go_sound_nodes.specs.Known.{Knows}
use Rattle.go_sound_nodes.proofs.judge.Judge.+stmt.Given as goal

abbrev pub invariant-stmts-loop-s : goal.invariant-stmts-loop-s
invariant-stmts-loop-s l =
    let ts = trees_in l.self in
    Knows l.self
    → SoundStmts (program_in l.self) (with_all (map (var_of ts) l.vars.items) (around l.self l.round)) (stmts_of (map (stmt_view ts) (drop l.s-index l.s-items)))
    → SoundStmts (program_in l.self) (around l.self l.round) (stmts_of (map (stmt_view ts) l.s-items))

abbrev pub invariant-clauses-loop-c : goal.invariant-clauses-loop-c
invariant-clauses-loop-c l =
    let ts = trees_in l.self in
    Knows l.self
    → SoundClauses (program_in l.self) (around l.self l.round) (clauses_of (map (clause_view ts) (drop l.c-index l.c-items)))
    → SoundClauses (program_in l.self) (around l.self l.round) (clauses_of (map (clause_view ts) l.c-items))

abbrev pub invariant-cases-loop-c : goal.invariant-cases-loop-c
invariant-cases-loop-c l =
    let ts = trees_in l.self in
    Knows l.self
    → SoundCases (program_in l.self) (around l.self l.round) (cases_of (map (case_view ts) (drop l.c-index l.c-items)))
    → SoundCases (program_in l.self) (around l.self l.round) (cases_of (map (case_view ts) l.c-items))
