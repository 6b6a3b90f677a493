use Rattle.std.proofs.Common.{◌∙◌, refl, rules}
use Rattle.std.specs.Int.{w128}
use Rattle.std.specs.Int.RustNames.{FitsSigned}
use Rattle.std.proofs.lemmas.Int.{to_z-of_z}
use Rattle.go_type.specs.Table.{places}
use Rattle.go_values.specs.ValuesSeen.{memory_of}
use Rattle.go_values.proofs.Steps.{goes, stopped}
use Rattle.go_slices.proofs.slices.makes.made_with_capacity.Goals as goal

pub returns-in_err-n : goal.returns-in_err-n
returns-in_err-n c = record {
  value =
      let ts = places c.args.c.now.table.now in
      let s = memory_of ts c.args.m.now in
      stopped ts s c.from_residual.result _ _ _ refl c.from_residual.ensures.1 (c.in_err-n.ensures.value ts _);
}

pub returns-in_err-k : goal.returns-in_err-k
returns-in_err-k c = record {
  value =
      let ts = places c.args.c.now.table.now in
      let s = memory_of ts c.args.m.now in
      stopped ts s c.from_residual-in_err-k.result _ _ _ (c.in_ok-n.ensures.value ts _) c.from_residual-in_err-k.ensures.1 (c.in_err-k.ensures.value ts _);
}

pub returns-in_err-length : goal.returns-in_err-length
returns-in_err-length c =
    let f-n : FitsSigned w128 c.in_ok-n.n = search rules in
    let f-k : FitsSigned w128 c.in_ok-k.k = search rules in
    let v = simp to_z-of_z at c.in_err-length.ensures.value in
    record {
      value =
          let ts = places c.args.c.now.table.now in
          let s = memory_of ts c.args.m.now in
          stopped ts s c.from_residual-in_err-length.result _ _ _ (c.in_ok-n.ensures.value ts _ ∙ c.in_ok-k.ensures.value ts _) c.from_residual-in_err-length.ensures.1 (v _);
    }

pub returns-in_err-capacity : goal.returns-in_err-capacity
returns-in_err-capacity c =
    let f-n : FitsSigned w128 c.in_ok-n.n = search rules in
    let f-k : FitsSigned w128 c.in_ok-k.k = search rules in
    let v = simp to_z-of_z at c.in_err-capacity.ensures.value in
    let v-length = simp to_z-of_z at c.in_ok-length.ensures.value in
    record {
      value =
          let ts = places c.args.c.now.table.now in
          let s = memory_of ts c.args.m.now in
          stopped ts s c.from_residual-in_err-capacity.result _ _ _ (c.in_ok-n.ensures.value ts _ ∙ c.in_ok-k.ensures.value ts _ ∙ v-length _) c.from_residual-in_err-capacity.ensures.1 (v _);
    }

pub returns : goal.returns
returns c =
    let f-n : FitsSigned w128 c.in_ok-n.n = search rules in
    let f-k : FitsSigned w128 c.in_ok-k.k = search rules in
    let v-length = simp to_z-of_z at c.in_ok-length.ensures.value in
    let v-capacity = simp to_z-of_z at c.in_ok-capacity.ensures.value in
    record {
      value =
          let ts = places c.args.c.now.table.now in
          let s = memory_of ts c.args.m.now in
          goes ts s c.made_of.result _ _ (c.in_ok-n.ensures.value ts _ ∙ c.in_ok-k.ensures.value ts _ ∙ v-length _ ∙ v-capacity _) (c.made_of.ensures.value);
    }
