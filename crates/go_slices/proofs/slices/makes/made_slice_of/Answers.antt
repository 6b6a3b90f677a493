use Rattle.std.proofs.Common.{sym, subst, List}
use Rattle.go_type.specs.Tree.{slice}
use Rattle.go_type.specs.Levels.{tree_of}
use Rattle.go_type.specs.Table.{places, names}
use Rattle.go_core.specs.StepSlices.{make_slice_step}
use Rattle.std.specs.Borrow.{Bor}
use Rattle.go_values.specs.ValuesSeen.{values_of, memory_of}
use Rattle.go_values.specs.declared.values.scalar.Scalar.{Scalar}
use Rattle.go_values.specs.OperatorsSeen.{Does}
use Rattle.go_slices.proofs.SlicesListLemmas.{one_value, two_values, nothing}
use Rattle.go_slices.proofs.slices.makes.made_slice_of.Goals as goal

pub returns-in-len1 : goal.returns-in-len1
returns-in-len1 c =
    let e = one_value c.args.vs.now nothing c.in-len1.len_at_least c.in-len1.len_below in
    let w = c.args.c.now.table.now in
    let ts = places w in
    let s = memory_of ts c.args.m.now in
    record {
      value = subst (λ (us : List (Bor (List Scalar))). Does ts s c.made_with_length.result (make_slice_step (names w) (slice (tree_of ts c.args.t)) (values_of ts us) s)) (sym e) c.made_with_length.ensures.value;
    }

pub returns-in-len2 : goal.returns-in-len2
returns-in-len2 c =
    let e = two_values c.args.vs.now nothing c.in-len2.len_at_least c.in-len2.len_below in
    let w = c.args.c.now.table.now in
    let ts = places w in
    let s = memory_of ts c.args.m.now in
    record {
      value = subst (λ (us : List (Bor (List Scalar))). Does ts s c.made_with_capacity.result (make_slice_step (names w) (slice (tree_of ts c.args.t)) (values_of ts us) s)) (sym e) c.made_with_capacity.ensures.value;
    }
