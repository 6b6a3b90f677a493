use Rattle.std.proofs.Common.{◌≡◌, ap, sym, ◌∷◌, ◌+◌, ℕ, List}
use Rattle.std.proofs.lemmas.Result.{IfOk-weaker}
use Rattle.go_state.proofs.Views.{expr_at, expr_Build, expr_BuildMap, expr_SliceOf, expr_MakeSlice, expr_MakeMap, expr_MakeChan}
use Rattle.go_type.specs.Levels.{tree_of}
use Rattle.go_type.specs.Tree.{Ty}
use Rattle.go_core.specs.CoreTree as core
use Rattle.go_core.specs.CoreView.{expr_view}
use Rattle.go_core.specs.Goroutine as defined
use Rattle.go_core.specs.Operator as op
use Rattle.go_state.specs.Last.{applied}
use Rattle.go_state.specs.TasksSeen.{pairs_view}
use Rattle.go_entries.specs.DoingSeen.{doing_of}
use Rattle.go_entries.proofs.doing.doing.expr_doing.Goals as goal

pub returns-in-Build : goal.returns-in-Build
returns-in-Build c = record { value = λ ts rest. rw (expr_at ts c.args.e.now c.deref.result.now c.deref.ensures, expr_Build ts c.deref.result.now c.in-Build.ty c.in-Build.count c.in-Build.elements c.in-Build.is) (c.building.ensures.value ts rest) }

pub returns-in-BuildMap : goal.returns-in-BuildMap
returns-in-BuildMap c = record {
  value =
      IfOk-weaker c.mapping.result
      (λ d. (ts : List Ty) (rest : List defined.Task) → applied (core.build_map (tree_of ts c.in-BuildMap.ty) (pairs_view ts c.in-BuildMap.pairs)) rest ≡ doing_of ts d ∷ rest)
      (λ d. (ts : List Ty) (rest : List defined.Task) → applied (expr_view ts c.args.e.now) rest ≡ doing_of ts d ∷ rest)
      (λ d h ts rest. rw (expr_at ts c.args.e.now c.deref.result.now c.deref.ensures, expr_BuildMap ts c.deref.result.now c.in-BuildMap.ty c.in-BuildMap.pairs c.in-BuildMap.is) (h ts rest))
      c.mapping.ensures.value;
}

pub returns-in-SliceOf : goal.returns-in-SliceOf
returns-in-SliceOf c = record { value = λ ts rest. rw (expr_at ts c.args.e.now c.deref.result.now c.deref.ensures, expr_SliceOf ts c.deref.result.now c.in-SliceOf.from c.in-SliceOf.ty c.in-SliceOf.operand c.in-SliceOf.low c.in-SliceOf.high c.in-SliceOf.limit c.in-SliceOf.is) (c.slicing.ensures.value ts (tree_of ts c.in-SliceOf.ty) (expr_view ts c.in-SliceOf.operand) rest) }

pub returns-in-MakeSlice : goal.returns-in-MakeSlice
returns-in-MakeSlice c = record {
  value = λ ts rest. rw (expr_at ts c.args.e.now c.deref.result.now c.deref.ensures, expr_MakeSlice ts c.deref.result.now c.in-MakeSlice.ty c.in-MakeSlice.length c.in-MakeSlice.capacity c.in-MakeSlice.is) (ap (λ (n : ℕ). defined.operate (op.to_new_slice (tree_of ts c.in-MakeSlice.ty)) (1 + n) ∷ rest) (sym (c.one_if.ensures.value ts)));
}

pub returns-in-MakeMap : goal.returns-in-MakeMap
returns-in-MakeMap c = record {
  value = λ ts rest. rw (expr_at ts c.args.e.now c.deref.result.now c.deref.ensures, expr_MakeMap ts c.deref.result.now c.in-MakeMap.ty c.in-MakeMap.count c.in-MakeMap.is) (ap (λ (n : ℕ). defined.operate (op.to_new_map) (n) ∷ rest) (sym (c.one_if-in-MakeMap.ensures.value ts)));
}

pub returns-in-MakeChan : goal.returns-in-MakeChan
returns-in-MakeChan c = record {
  value = λ ts rest. rw (expr_at ts c.args.e.now c.deref.result.now c.deref.ensures, expr_MakeChan ts c.deref.result.now c.in-MakeChan.ty c.in-MakeChan.capacity c.in-MakeChan.is) (ap (λ (n : ℕ). defined.operate (op.to_new_channel) (n) ∷ rest) (sym (c.one_if-in-MakeChan.ensures.value ts)));
}
