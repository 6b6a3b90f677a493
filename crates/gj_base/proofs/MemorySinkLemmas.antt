-- What a write to a sink in memory does, as the trait says it.
use Rattle.std.proofs.Common.{◌≡◌, ℕ, List, take, ap, Some}
use Rattle.gj_base.proofs.CountsLemmas.{Begins-take}
use Rattle.gj_base.specs.Counts.{Rose}
use Rattle.gj_base.specs.Sink.{RefusedIn, FailedIn}
use Rattle.gj_base.specs.MemorySink.{MemorySink, sink_state, after_failure, after_refusal}

pub refused_in : (old new : MemorySink) → Rose old.refusals new.refusals → new ≡ after_refusal old → RefusedIn (sink_state old) (sink_state new)
refused_in old new rose is = record { rose = rose; same = ap (λ (s : MemorySink). s.faults) is; kept = ap (λ (s : MemorySink). Some s.bytes) is }

pub failed_in : (old new : MemorySink) (piece : List ℕ) (after : ℕ) → Rose old.faults new.faults → new ≡ after_failure old piece after → FailedIn piece (sink_state old) (sink_state new)
failed_in old new piece after rose is =
    record {
      rose = rose;
      same = ap (λ (s : MemorySink). s.refusals) is;
      part = take after piece;
      begins = Begins-take after piece;
      written = ap (λ (s : MemorySink). Some s.bytes) is;
    }
