-- What a write to a sink does, answer by answer.
use Rattle.std.specs.Prelude.{◌≡◌, ◌++◌, ℕ, List, Option, Result, Ok, Err, option_map}
use Rattle.gj_base.specs.Counts.{Rose, Begins}
use Rattle.gj_base.specs.declared.sink.SinkError.{SinkError}
use Rattle.gj_base.specs.declared.sink.SinkError.TheVariants.{Failed, NoMemory}

-- what a sink is: its bytes, where they are told, and how often a write has failed and memory was refused
pub record SinkState : Type 0 where
  pub bytes : Option (List ℕ)
  pub faults : ℕ
  pub refusals : ℕ

-- the sink with a piece more
abbrev pub appended : SinkState → List ℕ → SinkState
appended sink piece = record sink { bytes = option_map (λ bytes. bytes ++ piece) sink.bytes }

-- a failure appended a prefix of the piece
pub record FailedIn (piece : List ℕ) (old new : SinkState) : Type 0 where
  pub rose : Rose old.faults new.faults
  pub same : new.refusals ≡ old.refusals
  pub part : List ℕ
  pub begins : Begins part piece
  pub written : new.bytes ≡ (appended old part).bytes

-- memory was refused, and nothing was appended
pub record RefusedIn (old new : SinkState) : Type 0 where
  pub rose : Rose old.refusals new.refusals
  pub same : new.faults ≡ old.faults
  pub kept : new.bytes ≡ old.bytes

-- the whole piece
abbrev pub Writes : Result (Unit {0}) SinkError → List ℕ → SinkState → SinkState → Type 0
Writes (Ok _) piece old new = new ≡ appended old piece
Writes (Err Failed) piece old new = FailedIn piece old new
Writes (Err NoMemory) piece old new = RefusedIn old new
