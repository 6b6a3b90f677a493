use Rattle.std.proofs.lemmas.Result.{on_ok_weaker}
use Rattle.go_calls.proofs.JoinLemmas.{of_four}
use Rattle.go_calls.proofs.FormLemmas.{called_Slice}
use Rattle.go_calls.proofs.callee.names.+called.Goals as goal

pub add_called-returns-in_ok-add_bound-in-Slice-2 : goal.add_called-returns-in_ok-add_bound-in-Slice-2
add_called-returns-in_ok-add_bound-in-Slice-2 t c =
    let e = called_Slice c.args.e.now c.deref.result.now c.in-Slice.x c.in-Slice.low c.in-Slice.high c.in-Slice.most c.deref.ensures c.in-Slice.is in
    record { value = on_ok_weaker c.add_bound-in-Slice-2.result (of_four _ _ _ _ _ _ _ _ _ _ c.in_ok-add_called-in-Slice.ensures.value c.in_ok-add_bound-in-Slice.ensures.value c.in_ok-add_bound-in-Slice-2.ensures.value e) c.add_bound-in-Slice-2.ensures.value }
