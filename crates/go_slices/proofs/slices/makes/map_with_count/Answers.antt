use Rattle.std.proofs.Common.{refl, rules}
use Rattle.std.specs.Int.{w128}
use Rattle.std.specs.Int.RustNames.{FitsSigned}
use Rattle.std.proofs.lemmas.Int.{to_z-of_z}
use Rattle.go_values.specs.ValuesSeen.{memory_of}
use Rattle.go_values.proofs.Steps.{goes, stopped}
use Rattle.go_slices.proofs.slices.makes.map_with_count.Goals as goal

pub returns-in_err-n : goal.returns-in_err-n
returns-in_err-n c = record {
  value = λ ts.
      let s = memory_of ts c.args.m.now in
      stopped ts s c.from_residual.result _ _ _ refl c.from_residual.ensures.1 (c.in_err-n.ensures.value ts _);
}

pub returns : goal.returns
returns c =
    let f-n : FitsSigned w128 c.in_ok-n.n = search rules in
    let v = simp to_z-of_z at c.map_of_count.ensures.value in
    record {
      value = λ ts.
          let s = memory_of ts c.args.m.now in
          goes ts s c.map_of_count.result _ _ (c.in_ok-n.ensures.value ts _) (v ts);
    }
