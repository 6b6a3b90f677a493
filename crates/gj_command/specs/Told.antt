-- own: what a user is told on the error sink.
use Rattle.std.specs.Prelude.{◌≡◌, ◌⊎◌, List, ℕ}
use Rattle.gj_base.specs.Counts.{Rose, Begins}
use Rattle.gj_base.specs.Sink.{SinkState, appended}

-- only a beginning of the line was written, and a count of the sink rose
pub record CutShort (line : List ℕ) (old new : SinkState) : Type 0 where
  pub part : List ℕ
  pub begins : Begins part line
  pub written : new.bytes ≡ (appended old part).bytes
  pub cause : Rose old.faults new.faults ⊎ Rose old.refusals new.refusals

-- the line was written, or else a beginning of it and a count of the sink rose
abbrev pub Told : List ℕ → SinkState → SinkState → Type 0
Told line old new = (new ≡ appended old line) ⊎ CutShort line old new
