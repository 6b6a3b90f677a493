use Rattle.std.proofs.Common.{◌≡◌, ◌∙◌, ap, sym, subst, ℕ, List, length}
use Rattle.go_type.specs.Levels.{tree_of}
use Rattle.go_type.specs.Table.{places}
use Rattle.go_core.specs.CoreView.{program_view}
use Rattle.go_core.specs.GoStep as steps
use Rattle.go_core.specs.Operator as op
use Rattle.go_state.specs.StateSeen.{move_of}
use Rattle.go_state.specs.Goes.{Goes}
use Rattle.go_entries.proofs.local_steps.operate.build_step.Goals as goal

pub returns : goal.returns
returns c = record {
  value = λ choices.
      let p = program_view c.args.p.now in
      let ts = places c.args.p.now.types in
      let what = c.args.what in
      let done = λ (is : List ℕ) (n : ℕ). Goes p ts c.operate_step.result c.args.f.now c.operate_step.new.f c.args.m.now c.operate_step.new.m
      (λ g. steps.operate_step p choices (move_of c.args.free) g (op.to_built (tree_of ts what.ty) what.count is) n) in
      let places_are = c.as_slice.ensures.value ∙ c.in_ok-found.ensures.value ts in
      let counted : c.len.result ≡ length c.as_slice.result.now = c.len.ensures ∙ c.in_ok-found.found.ok.0 ∙ ap length (sym c.as_slice.ensures.value) in
      subst (λ (is : List ℕ). done is (length is)) places_are (subst (λ (n : ℕ). done c.as_slice.result.now n) counted (c.operate_step.ensures.value choices));
}
