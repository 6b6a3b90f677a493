use Rattle.std.proofs.Common.{◌≡◌, ◌∙◌, sym, arith, rules, true, false}
use Rattle.go_type.specs.Table.{places, names}
use Rattle.go_core.specs.Layout.{name_holds}
use Rattle.go_values.specs.Asked.{asked_of}
use Rattle.go_values.proofs.HoldsLemmas.{field_holds, field_fails, fields_hold}
use Rattle.go_values.proofs.layouts.holds.+holds.Goals as goal

pub holds_all-fields-preserved : goal.holds_all-fields-preserved
holds_all-fields-preserved t c =
    let test = asked_of c.args.asked in
    let b : c.holds.result ≡ true = search rules in
    field_holds (places c.args.table.now) test (name_holds test (names c.args.table.now) c.args.left) c.args.fields.now c.fields.i c.type_at.result _ (omega (arith, c.fields-test.true)) c.type_at.ensures.value (sym c.holds.ensures.value ∙ b) c.fields.invariant

pub holds_all-returns-then-not-holds : goal.holds_all-returns-then-not-holds
holds_all-returns-then-not-holds t c =
    let test = asked_of c.args.asked in
    let b : c.holds.result ≡ false = search rules in
    record { value = field_fails (places c.args.table.now) test (name_holds test (names c.args.table.now) c.args.left) c.args.fields.now c.fields.i c.type_at.result _ (omega (arith, c.fields-test.true)) c.type_at.ensures.value (sym c.holds.ensures.value ∙ b) c.fields.invariant }

pub holds_all-returns : goal.holds_all-returns
holds_all-returns t c =
    let test = asked_of c.args.asked in
    record { value = fields_hold (places c.args.table.now) test (name_holds test (names c.args.table.now) c.args.left) c.args.fields.now c.fields.i _ (omega (arith, c.fields-test.false)) c.fields.invariant }
