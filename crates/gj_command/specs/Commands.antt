-- What the commands come to; only private clauses cite this file.
use Rattle.std.specs.Prelude.{◌≡◌, ◌≢◌, List, ℕ, Result, Ok, Err}
use Rattle.gj_base.specs.Sink.{SinkState}
use Rattle.gj_base.specs.declared.files.FileError.{FileError}
use Rattle.gj_base.specs.declared.files.FileError.TheVariants as file_error
use Rattle.gj_command.specs.Told.{Told}
use Rattle.gj_command.specs.declared.outcome.Outcome.{Outcome}
use Rattle.gj_command.specs.declared.outcome.Outcome.TheVariants as outcome

-- what comes of a script, and that it is told; where it is stuck nothing is told
abbrev pub RunTells : Result Outcome ℕ → SinkState → SinkState → Type 0
RunTells (Ok answer) old new = (line : List ℕ) × (answer ≢ outcome.Usage) × Told line old new
RunTells (Err place) old new = new ≡ old

-- what comes of a script that wasn't read
abbrev pub IsUnread : FileError → Outcome → Type 0
IsUnread file_error.Missing answer = answer ≡ outcome.ReadFault
IsUnread file_error.Failed answer = answer ≡ outcome.ReadFault
IsUnread file_error.TooLong answer = answer ≡ outcome.TooLong
IsUnread file_error.NoMemory answer = answer ≡ outcome.NoMemory
