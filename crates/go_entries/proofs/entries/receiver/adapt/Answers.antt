use Rattle.std.proofs.Common.{◌∙◌, sym, ap, List}
use Rattle.std.specs.Prelude.{Option}
use Rattle.std.specs.Borrow.{Bor}
use Rattle.go_type.specs.Table.{places, names}
use Rattle.go_core.specs.Calls.{adapted}
use Rattle.go_values.specs.ValuesSeen.{values_of, memory_of}
use Rattle.go_values.specs.declared.values.scalar.Scalar.{Scalar}
use Rattle.go_state.proofs.TodoLemmas.{if_ok}
use Rattle.go_entries.specs.EntriesSeen.{receiver_of, first_of}
use Rattle.go_entries.specs.declared.entries.receiver.First.{First}
use Rattle.go_entries.specs.declared.entries.receiver.Receiver.{Receiver}
use Rattle.go_entries.proofs.ReceiverLemmas.{adapted_with}
use Rattle.go_entries.proofs.entries.receiver.adapt.Goals as goal

pub returns-in_ok-adapted-in-AsItIs : goal.returns-in_ok-adapted-in-AsItIs
returns-in_ok-adapted-in-AsItIs c =
    let w = c.args.c.now.table.now in
    let ts = places w in
    let m = memory_of ts c.args.m.now in
    record {
      value =
          ap (λ (xs : List (Bor (List Scalar))). adapted_with (values_of ts xs) (first_of ts c.in_ok-adapted-in-AsItIs.adapted.first) m) c.in_ok-adapted-in-AsItIs.ensures.value
          ∙ ap (λ (o : Option First). adapted_with (values_of ts c.args.operands.now) (first_of ts o) m) c.in_ok-adapted-in-AsItIs.ensures.first
          ∙ sym (ap (λ (r : Receiver). adapted (names w) (receiver_of ts r) (values_of ts c.args.operands.now) m) c.in-AsItIs.is);
    }

pub returns-in-Through : goal.returns-in-Through
returns-in-Through c =
    let w = c.args.c.now.table.now in
    let ts = places w in
    record {
      value = if_ok c.read_through.result (λ a h.
          h ∙ sym (ap (λ (r : Receiver). adapted (names w) (receiver_of ts r) (values_of ts c.args.operands.now) (memory_of ts c.args.m.now)) c.in-Through.is)) c.read_through.ensures.value;
    }

pub returns-in-ToACopy : goal.returns-in-ToACopy
returns-in-ToACopy c =
    let w = c.args.c.now.table.now in
    let ts = places w in
    record {
      value = if_ok c.copied.result (λ a h.
          h ∙ sym (ap (λ (r : Receiver). adapted (names w) (receiver_of ts r) (values_of ts c.args.operands.now) (memory_of ts c.args.m.now)) c.in-ToACopy.is)) c.copied.ensures.value;
    }
