-- What a judge sees: the program's tree, and what stands around a node.
use Rattle.std.specs.Prelude.{ℕ, List, [], ◌∷◌, ◌++◌, map, Bool, false, ◌==◌, ◌||◌, if◌then◌else◌, Option, Some, None}
use Rattle.go_type.specs.Tree.{Ty, Tys}
use Rattle.go_type.specs.Levels.{trees_of}
use Rattle.go_type.specs.Table.{places}
use Rattle.go_core.specs.CoreTree.{Var, CoreProgram}
use Rattle.go_core.specs.CoreView.{var_of, program_view}
use Rattle.go_core.specs.SoundNode.{Around}
use Rattle.go_sound_nodes.specs.declared.judge.Judge.{Judge}
use Rattle.go_sound_nodes.specs.declared.round.Round.{Round, Round-F, fold-Round}

abbrev pub or_type : Option Ty → Option Ty → Option Ty
or_type None t = t
or_type (Some u) t = Some u

abbrev pub is_among : ℕ → List ℕ → Bool
is_among x [] = false
is_among x (y ∷ ys) = (y == x) || is_among x ys

-- the first before all others, the last of these first
abbrev pub onto : List Var → List Var → List Var
onto [] ys = ys
onto (x ∷ xs) ys = onto xs (x ∷ ys)

abbrev pub program_in : Judge → CoreProgram
program_in j = program_view j.program.now

abbrev pub trees_in : Judge → List Ty
trees_in j = places j.program.now.types

abbrev pub breaks_step : Round-F (List ℕ) → List ℕ
breaks_step (Round-F.Head vars captured) = []
breaks_step (Round-F.Among vs rest) = rest.now
breaks_step (Round-F.Break l rest) = l.0 ∷ rest.now
breaks_step (Round-F.Loop l rest) = l.0 ∷ rest.now

-- the labels of the statements around that `break` can leave
abbrev pub breaks_in : Round → List ℕ
breaks_in = fold-Round (List ℕ) breaks_step

abbrev pub continues_step : Round-F (List ℕ) → List ℕ
continues_step (Round-F.Head vars captured) = []
continues_step (Round-F.Among vs rest) = rest.now
continues_step (Round-F.Break l rest) = rest.now
continues_step (Round-F.Loop l rest) = l.0 ∷ rest.now

-- the labels of the loops around
abbrev pub continues_in : Round → List ℕ
continues_in = fold-Round (List ℕ) continues_step

module _ (ts : List Ty) where
  abbrev pub vars_step : Round-F (List Var) → List Var
  vars_step (Round-F.Head vars captured) = map (var_of ts) vars.now ++ map (var_of ts) captured.now
  vars_step (Round-F.Among vs rest) = onto (map (var_of ts) vs.now) rest.now
  vars_step (Round-F.Break l rest) = rest.now
  vars_step (Round-F.Loop l rest) = rest.now

  -- the variables in scope
  abbrev pub vars_in : Round → List Var
  vars_in = fold-Round (List Var) vars_step

abbrev pub around : Judge → Round → Around
around j r = record {
  vars = vars_in (trees_in j) r;
  declarable = map (var_of (trees_in j)) j.declarable.now;
  results = trees_of (trees_in j) j.results.now;
  breaks = breaks_in r;
  continues = continues_in r;
}

abbrev pub with_onto : List Var → Around → Around
with_onto vs a = record a { vars = onto vs a.vars }
