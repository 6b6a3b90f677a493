use Rattle.std.proofs.Common.{◌∙◌, ◌∷◌, [], sym, ap, List}
use Rattle.std.specs.Prelude.{Option}
use Rattle.std.specs.Borrow.{Bor}
use Rattle.go_type.specs.Table.{places, names}
use Rattle.go_core.specs.Calls.{adapted, through}
use Rattle.go_core.specs.CoreView.{var_of}
use Rattle.go_core.specs.Goroutine as defined
use Rattle.go_core.specs.Memory.{Value}
use Rattle.go_values.specs.ValuesSeen.{value_of, values_of, memory_of}
use Rattle.go_values.specs.declared.values.scalar.Scalar.{Scalar}
use Rattle.go_entries.specs.EntriesSeen.{first_of}
use Rattle.go_entries.specs.declared.entries.receiver.First.{First}
use Rattle.go_entries.proofs.ReceiverLemmas.{adapted_with, none_there}
use Rattle.go_entries.proofs.entries.receiver.read_through.Goals as goal

pub returns-in_ok-adapted-in-Some : goal.returns-in_ok-adapted-in-Some
returns-in_ok-adapted-in-Some c =
    let w = c.args.c.now.table.now in
    let ts = places w in
    let m = memory_of ts c.args.m.now in
    let v = var_of ts c.args.var in
    let first = defined.push_value (value_of ts c.in-Some.x.now.now) ∷ defined.receive_through v ∷ [] in
    let others = values_of ts c.in-Some.others.now in
    record {
      value =
          ap (λ (xs : List (Bor (List Scalar))). adapted_with (values_of ts xs) (first_of ts c.in_ok-adapted-in-Some.adapted.first) m) c.in_ok-adapted-in-Some.ensures.value
          ∙ ap (λ (o : Option First). adapted_with (value_of ts c.in_ok-zeros-in-Some.zeros.now ∷ others) (first_of ts o) m) c.in_ok-adapted-in-Some.ensures.first
          ∙ ap (λ (x : Value). adapted_with (x ∷ others) first m) c.in_ok-zeros-in-Some.ensures.value
          ∙ sym (ap (λ (xs : List (Bor (List Scalar))). adapted (names w) (through v) (values_of ts xs) m) c.in-Some.ensures.cases.0);
    }

pub returns-in_ok-adapted-in-None : goal.returns-in_ok-adapted-in-None
returns-in_ok-adapted-in-None c =
    let w = c.args.c.now.table.now in
    let ts = places w in
    let m = memory_of ts c.args.m.now in
    let v = var_of ts c.args.var in
    let e = none_there c.args.operands.now c.in-None.ensures.cases in
    record {
      value =
          ap (λ (xs : List (Bor (List Scalar))). adapted_with (values_of ts xs) (first_of ts c.in_ok-adapted-in-None.adapted.first) m) (c.in_ok-adapted-in-None.ensures.value ∙ e)
          ∙ ap (λ (o : Option First). adapted_with [] (first_of ts o) m) c.in_ok-adapted-in-None.ensures.first
          ∙ sym (ap (λ (xs : List (Bor (List Scalar))). adapted (names w) (through v) (values_of ts xs) m) e);
    }
