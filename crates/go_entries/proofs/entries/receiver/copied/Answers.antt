use Rattle.std.proofs.Common.{◌∙◌, ◌∷◌, [], sym, ap, ℕ, List}
use Rattle.std.specs.Prelude.{Option}
use Rattle.std.specs.Borrow.{Bor}
use Rattle.go_type.specs.Table.{places, names}
use Rattle.go_core.specs.Calls.{adapted, to_a_copy}
use Rattle.go_core.specs.Memory as core
use Rattle.go_core.specs.Memory.{Value, next_base, with_fresh}
use Rattle.go_values.specs.ValuesSeen.{value_of, values_of, memory_of}
use Rattle.go_values.specs.declared.values.scalar.Scalar.{Scalar}
use Rattle.go_values.proofs.ScalarLemmas.{pointer_seen}
use Rattle.go_entries.specs.EntriesSeen.{first_of}
use Rattle.go_entries.specs.declared.entries.receiver.First.{First}
use Rattle.go_entries.proofs.ReceiverLemmas.{adapted_with, none_there}
use Rattle.go_entries.proofs.entries.receiver.copied.Goals as goal

pub returns-in_ok-adapted-in-Some : goal.returns-in_ok-adapted-in-Some
returns-in_ok-adapted-in-Some c =
    let w = c.args.c.now.table.now in
    let ts = places w in
    let m = memory_of ts c.args.m.now in
    let n = memory_of ts c.add_fresh.new.self in
    let others = values_of ts c.in-Some.others.now in
    let x = value_of ts c.in-Some.x.now.now in
    let pointer =
    c.in_ok-pointer-in-Some.ensures.value ts
    ∙ ap (λ (y : core.Scalar). y ∷ []) (pointer_seen ts c.next_base-base.result ∙ ap (λ (n : ℕ). core.pointer n) (c.next_base-base.ensures.value ts)) in
    record {
      value =
          ap (λ (xs : List (Bor (List Scalar))). adapted_with (values_of ts xs) (first_of ts c.in_ok-adapted-in-Some.adapted.first) n) c.in_ok-adapted-in-Some.ensures.value
          ∙ ap (λ (o : Option First). adapted_with (value_of ts c.in_ok-pointer-in-Some.pointer.now ∷ others) (first_of ts o) n) c.in_ok-adapted-in-Some.ensures.first
          ∙ ap (λ (v : Value). adapted_with (v ∷ others) [] n) pointer
          ∙ ap (λ (k : core.Memory). adapted_with ((core.pointer (next_base m) ∷ []) ∷ others) [] k) (c.in_ok-add_fresh-in-Some.ensures.value ts)
          ∙ sym (ap (λ (xs : List (Bor (List Scalar))). adapted (names w) to_a_copy (values_of ts xs) m) c.in-Some.ensures.cases.0);
    }

pub returns-in_ok-adapted-in-None : goal.returns-in_ok-adapted-in-None
returns-in_ok-adapted-in-None c =
    let w = c.args.c.now.table.now in
    let ts = places w in
    let m = memory_of ts c.args.m.now in
    let e = none_there c.args.operands.now c.in-None.ensures.cases in
    record {
      value =
          ap (λ (xs : List (Bor (List Scalar))). adapted_with (values_of ts xs) (first_of ts c.in_ok-adapted-in-None.adapted.first) m) (c.in_ok-adapted-in-None.ensures.value ∙ e)
          ∙ ap (λ (o : Option First). adapted_with [] (first_of ts o) m) c.in_ok-adapted-in-None.ensures.first
          ∙ sym (ap (λ (xs : List (Bor (List Scalar))). adapted (names w) to_a_copy (values_of ts xs) m) e);
    }
