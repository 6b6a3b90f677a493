-- What a sink in memory is, and what a write to it does, answer by answer.
use Rattle.std.specs.Prelude.{◌≡◌, ◌++◌, ℕ, List, [], Some, None, Result, Ok, Err, take, refl}
use Rattle.std.specs.FinMap as map
use Rattle.std.specs.Coded.{Coded, code_by, coded×, coded_list, coded_ℕ}
use Rattle.gj_base.specs.Counts.{counted}
use Rattle.gj_base.specs.Plan.{Plan, failure_at}
use Rattle.gj_base.specs.Sink.{SinkState}
use Rattle.gj_base.specs.declared.sink.SinkError.{SinkError}
use Rattle.gj_base.specs.declared.sink.SinkError.TheVariants.{Failed, NoMemory}

-- its bytes; how often a write failed and memory was refused; how many writes were answered otherwise than by a refusal; which are told to fail
pub record MemorySink : Type 0 where
  pub bytes : List ℕ
  pub faults : ℕ
  pub refusals : ℕ
  pub calls : ℕ
  pub plan : Plan

-- a sink in memory is stored as the tuple of its fields
abbrev pub memory_sink_code : Coded MemorySink
memory_sink_code =
    code_by (List ℕ × (ℕ × (ℕ × (ℕ × Plan)))) (coded× (coded_list coded_ℕ) (coded× coded_ℕ (coded× coded_ℕ (coded× coded_ℕ (map.code coded_ℕ coded_ℕ)))))
    (λ s. (s.bytes, (s.faults, (s.refusals, (s.calls, s.plan)))))
    (λ t. record { bytes = t.0; faults = t.1.0; refusals = t.1.1.0; calls = t.1.1.1.0; plan = t.1.1.1.1 })
    (λ _. refl)

-- it tells its bytes
abbrev pub sink_state : MemorySink → SinkState
sink_state sink = record { bytes = Some sink.bytes; faults = sink.faults; refusals = sink.refusals }

-- a sink that has taken nothing yet, and is told nothing
abbrev pub empty_sink : MemorySink
empty_sink = record { bytes = []; faults = 0; refusals = 0; calls = 0; plan = map.empty }

-- after a write that took these bytes
abbrev pub after_write : MemorySink → List ℕ → MemorySink
after_write sink piece = record sink { bytes = sink.bytes ++ piece; calls = counted sink.calls }

-- after a write that failed once it had taken so many bytes, or all where there are fewer
abbrev pub after_failure : MemorySink → List ℕ → ℕ → MemorySink
after_failure sink piece count = record sink { bytes = sink.bytes ++ take count piece; faults = counted sink.faults; calls = counted sink.calls }

-- after a write that memory was refused to, which isn't counted among the calls
abbrev pub after_refusal : MemorySink → MemorySink
after_refusal sink = record sink { refusals = counted sink.refusals }

-- a write fails exactly where it is told to, and takes its whole piece otherwise, if it has the memory
abbrev pub WritesInMemory : Result (Unit {0}) SinkError → List ℕ → MemorySink → MemorySink → Type 0
WritesInMemory (Ok _) piece old new = (failure_at old.plan old.calls ≡ None) × (new ≡ after_write old piece)
WritesInMemory (Err Failed) piece old new = (count : ℕ) × (failure_at old.plan old.calls ≡ Some count) × (new ≡ after_failure old piece count)
WritesInMemory (Err NoMemory) piece old new = new ≡ after_refusal old
