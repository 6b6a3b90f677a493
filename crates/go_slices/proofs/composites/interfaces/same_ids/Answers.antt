use Rattle.std.proofs.Common.{◌≡◌, ◌∙◌, refl, sym, arith, rules, true, false, get_or}
use Rattle.go_type.specs.Table.{places}
use Rattle.go_slices.proofs.CompositesListLemmas.{no_type}
use Rattle.go_slices.proofs.MapsListLemmas.{split}
use Rattle.go_slices.proofs.MethodLemmas.{types_step, types_differ, types_end, other_count}
use Rattle.go_slices.proofs.composites.interfaces.same_ids.Goals as goal

pub types-preserved : goal.types-preserved
types-preserved c =
    let ts = places c.args.p.now.types in
    let x = get_or c.args.xs.now c.types.i no_type in
    let y = get_or c.args.ys.now c.types.i no_type in
    let b : c.same_type.result ≡ true = search rules in
    types_step ts c.args.xs.now c.args.ys.now c.types.i x y _
    (split c.args.xs.now c.types.i x no_type (omega (arith, c.types-test.true)) refl)
    (split c.args.ys.now c.types.i y no_type (omega (arith, c.types-test.true)) refl)
    (sym c.same_type.ensures.value ∙ b) c.types.invariant

pub returns-then-not-same_type : goal.returns-then-not-same_type
returns-then-not-same_type c =
    let ts = places c.args.p.now.types in
    let x = get_or c.args.xs.now c.types.i no_type in
    let y = get_or c.args.ys.now c.types.i no_type in
    let b : c.same_type.result ≡ false = search rules in
    record {
      value =
          types_differ ts c.args.xs.now c.args.ys.now c.types.i x y _
          (split c.args.xs.now c.types.i x no_type (omega (arith, c.types-test.true)) refl)
          (split c.args.ys.now c.types.i y no_type (omega (arith, c.types-test.true)) refl)
          (sym c.same_type.ensures.value ∙ b) c.types.invariant;
    }

pub returns : goal.returns
returns c =
    let ts = places c.args.p.now.types in
    record { value = types_end ts c.args.xs.now c.args.ys.now c.types.i _ (omega (arith, c.types-test.false)) (omega (arith, c.types-test.false)) c.types.invariant }

pub returns-then-xs-ys : goal.returns-then-xs-ys
returns-then-xs-ys c = record { value = sym (other_count (places c.args.p.now.types) c.args.xs.now c.args.ys.now c.if-xs-ys.true) }
