-- Own: what the runner answers, against the run of the script.
use Rattle.std.specs.Prelude.{◌≡◌, ◌<◌, ◌++◌, ℕ, List, Result, Ok, Err, length, slice_index}
use Rattle.gj_base.specs.Counts.{Begins}
use Rattle.gj_base.specs.Sink.{SinkState, appended, FailedIn}
use Rattle.js_tree.specs.Script.{ScriptTree}
use Rattle.js_tree.specs.Value.{End, Going, Ended, Stuck}
use Rattle.js_tree.specs.Evaluate.{choice_number}
use Rattle.js_tree.specs.ScriptRun.{ScriptResult, script_run}
use Rattle.js_run.specs.declared.whole.answer.RunEnd.{RunEnd}
use Rattle.js_run.specs.declared.whole.answer.RunEnd.TheVariants as run_end
use Rattle.js_run.specs.declared.whole.answer.RunRefusal.{RunRefusal}
use Rattle.js_run.specs.declared.whole.answer.RunRefusal.TheVariants.{WriteFault, NoMemory}

abbrev pub end_in : RunEnd → End
end_in (run_end.Ended status text) = Ended status text
end_in run_end.Stopped = Going
end_in (run_end.Stuck at) = Stuck at

-- a list of numbers, which zeros follow, begins with these
abbrev pub BeginsWith : (numbers choices : List ℕ) → Type 0
BeginsWith numbers choices = (i : ℕ) → i < length numbers → choice_number choices i ≡ slice_index numbers i

-- the run ended so, with so many numbers and ticks, and all that it printed was written
pub record Ran (r : ScriptResult) (end : End) (taken ticks : ℕ) (sink sink' : SinkState) : Type 0 where
  pub end_is : r.end ≡ end
  pub taken_is : r.taken ≡ taken
  pub ticks_are : r.ticks ≡ ticks
  pub written : sink' ≡ appended sink r.printed

-- what the run prints was written up to a text, in which the sink failed; nothing was written after that
pub record FailedRun (r : ScriptResult) (sink sink' : SinkState) : Type 0 where
  pub before : List ℕ
  pub text : List ℕ
  pub begins : Begins (before ++ text) r.printed
  pub failed : FailedIn text (appended sink before) sink'

-- a part of what the run prints was written, and the sink did not fail
pub record CutRun (r : ScriptResult) (sink sink' : SinkState) : Type 0 where
  pub part : List ℕ
  pub begins : Begins part r.printed
  pub bytes : sink'.bytes ≡ (appended sink part).bytes
  pub faults : sink'.faults ≡ sink.faults

-- an answer, against what the run of the script gives
abbrev pub AnswersAs : Result RunEnd RunRefusal → ScriptResult → (taken ticks : ℕ) → (sink sink' : SinkState) → Type 0
AnswersAs (Ok end) r taken ticks sink sink' = Ran r (end_in end) taken ticks sink sink'
AnswersAs (Err WriteFault) r taken ticks sink sink' = FailedRun r sink sink'
AnswersAs (Err NoMemory) r taken ticks sink sink' = CutRun r sink sink'

-- exactly the script run with these ticks, for each list of numbers that begins with those that were taken
pub record RunsAs (script : ScriptTree) (budget : ℕ) (answer : Result RunEnd RunRefusal) (taken taken' : List ℕ) (sink sink' : SinkState) : Type 0 where
  pub numbers : List ℕ
  pub took : taken' ≡ taken ++ numbers
  pub ticks : ℕ
  pub is : (choices : List ℕ) → BeginsWith numbers choices → AnswersAs answer (script_run script choices budget) (length numbers) ticks sink sink'
