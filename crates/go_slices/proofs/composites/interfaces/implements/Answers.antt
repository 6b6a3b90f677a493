use Rattle.std.proofs.Common.{◌≡◌, ◌∙◌, sym, arith, rules, true, false}
use Rattle.go_type.specs.Levels.{tree_of}
use Rattle.go_type.specs.Table.{places}
use Rattle.go_core.specs.CoreView.{program_view}
use Rattle.go_slices.proofs.MapsListLemmas.{split}
use Rattle.go_slices.proofs.MethodLemmas.{specs_step, specs_lacks, specs_end}
use Rattle.go_slices.proofs.composites.interfaces.implements.Goals as goal

pub specs-preserved : goal.specs-preserved
specs-preserved c =
    let ts = places c.args.p.now.types in
    let b : c.has_method.result ≡ true = search rules in
    specs_step ts (program_view c.args.p.now) (tree_of ts c.args.t) c.args.specs.now c.specs.i c.index-specs-i.result _
    (split c.args.specs.now c.specs.i c.index-specs-i.result c.index-specs-i.result (omega (arith, c.specs-test.true)) c.index-specs-i.is)
    (sym c.has_method.ensures.value ∙ b) c.specs.invariant

pub returns-then-not-has_method : goal.returns-then-not-has_method
returns-then-not-has_method c =
    let ts = places c.args.p.now.types in
    let b : c.has_method.result ≡ false = search rules in
    record {
      value =
          specs_lacks ts (program_view c.args.p.now) (tree_of ts c.args.t) c.args.specs.now c.specs.i c.index-specs-i.result _
          (split c.args.specs.now c.specs.i c.index-specs-i.result c.index-specs-i.result (omega (arith, c.specs-test.true)) c.index-specs-i.is)
          (sym c.has_method.ensures.value ∙ b) c.specs.invariant;
    }

pub returns : goal.returns
returns c =
    let ts = places c.args.p.now.types in
    record { value = specs_end ts (program_view c.args.p.now) (tree_of ts c.args.t) c.args.specs.now c.specs.i _ (omega (arith, c.specs-test.false)) c.specs.invariant }
