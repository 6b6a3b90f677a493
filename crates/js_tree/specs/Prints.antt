-- What printing does to a sink, answer by answer.
use Rattle.std.specs.Prelude.{◌≡◌, ℕ, List, Result, Ok, Err}
use Rattle.gj_base.specs.Counts.{Begins}
use Rattle.gj_base.specs.Sink.{SinkState, appended, FailedIn}
use Rattle.js_tree.specs.declared.printer.PrintRefusal.{PrintRefusal}
use Rattle.js_tree.specs.declared.printer.PrintRefusal.TheVariants.{Failed, NoMemory}

-- memory was refused: a prefix was appended, and nothing failed
pub record CutIn (text : List ℕ) (old new : SinkState) : Type 0 where
  pub same : new.faults ≡ old.faults
  pub part : List ℕ
  pub begins : Begins part text
  pub written : new.bytes ≡ (appended old part).bytes

-- the whole text, or a prefix of it with a count of faults that rose, or a prefix for want of memory
abbrev pub Prints : Result (Unit {0}) PrintRefusal → List ℕ → SinkState → SinkState → Type 0
Prints (Ok _) text old new = new ≡ appended old text
Prints (Err Failed) text old new = FailedIn text old new
Prints (Err NoMemory) text old new = CutIn text old new
