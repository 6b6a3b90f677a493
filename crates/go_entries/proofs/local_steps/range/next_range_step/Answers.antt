use Rattle.std.proofs.Common.{◌≡◌, ap, sym, ◌∙◌, subst, List}
use Rattle.std.specs.Prelude.{Ok}
use Rattle.go_type.specs.Tree.{Ty}
use Rattle.go_type.specs.Named.{NamedTy}
use Rattle.go_type.specs.Levels.{tree_of}
use Rattle.go_type.specs.Table.{places}
use Rattle.go_type.specs.Underlying.{underlying}
use Rattle.go_core.specs.Control as control
use Rattle.go_core.specs.Goroutine.{with_memory}
use Rattle.go_values.specs.ValuesSeen.{value_of, memory_of}
use Rattle.go_state.specs.StateSeen.{frame_of, ranged_of, cursor_of}
use Rattle.go_state.specs.RangesFound.{NextFound}
use Rattle.go_state.proofs.GoesLemmas.{same_step}
use Rattle.go_entries.proofs.LocalStepsStepLemmas.{found_none}
use Rattle.go_entries.proofs.local_steps.range.next_range_step.Goals as goal

pub returns-in_err-found : goal.returns-in_err-found
returns-in_err-found c = record {
  value = λ p q.
      let ts = places c.args.c.now.table.now in
      let r = ranged_of ts c.args.range in
      let at = cursor_of ts c.args.cursor in
      let m = memory_of ts c.args.m.now in
      let over : underlying p.names r.from ≡ tree_of ts c.underlying.result = ap (λ (ms : List NamedTy). underlying ms r.from) q ∙ sym c.underlying.ensures.tree in
      found_none p ts (λ g. control.Next p g) c.from_residual.result c.in_err-found.field-0.0 (λ g. control.next_of p g (tree_of ts c.underlying.result) c.args.birth at m) (λ g. (let none : control.Next p g = control.not_so in none))
      c.args.f.now c.args.f.now c.args.m.now c.args.m.now (λ g. control.next_range_step p g c.args.birth r at) c.from_residual.ensures.1
      (λ g below s e.
      ap (λ (t : Ty). control.range_on p g (control.next_of p g t c.args.birth at m) r (frame_of ts c.args.f.now) below (with_memory m s)) over
      ∙ ap (λ (d : control.Next p g). control.range_on p g d r (frame_of ts c.args.f.now) below (with_memory m s)) e)
      (λ g. c.in_err-found.ensures.value p g q);
}

pub returns-in-None : goal.returns-in-None
returns-in-None c = record {
  value = λ p q g below s.
      let ts = places c.args.c.now.table.now in
      let r = ranged_of ts c.args.range in
      let at = cursor_of ts c.args.cursor in
      let m = memory_of ts c.args.m.now in
      let over : underlying p.names r.from ≡ tree_of ts c.underlying.result = ap (λ (ms : List NamedTy). underlying ms r.from) q ∙ sym c.underlying.ensures.tree in
      let d = control.next_of p g (tree_of ts c.underlying.result) c.args.birth at m in
      let e : d ≡ control.over = subst (λ o. NextFound p g ts (Ok o) d) c.in-None.is (c.in_ok-found.ensures.value p g q) in
      ap (λ (t : Ty). control.range_on p g (control.next_of p g t c.args.birth at m) r (frame_of ts c.args.f.now) below (with_memory m s)) over
      ∙ ap (λ (d : control.Next p g). control.range_on p g d r (frame_of ts c.args.f.now) below (with_memory m s)) e;
}

pub returns-in-Some : goal.returns-in-Some
returns-in-Some c = record {
  value = λ p q.
      let ts = places c.args.c.now.table.now in
      let r = ranged_of ts c.args.range in
      let at = cursor_of ts c.args.cursor in
      let m = memory_of ts c.args.m.now in
      let n = c.in-Some.next in
      let over : underlying p.names r.from ≡ tree_of ts c.underlying.result = ap (λ (ms : List NamedTy). underlying ms r.from) q ∙ sym c.underlying.ensures.tree in
      same_step p ts c.turn.result c.args.f.now c.args.f.now c.turn.new.f c.args.m.now c.turn.new.m
      (λ g. control.range_on p g (control.next (value_of ts n.key.now) (value_of ts n.value.now) (cursor_of ts n.cursor)) r)
      (λ g. control.next_range_step p g c.args.birth r at)
      (λ g below s.
      let d = control.next_of p g (tree_of ts c.underlying.result) c.args.birth at m in
      let e : d ≡ control.next (value_of ts n.key.now) (value_of ts n.value.now) (cursor_of ts n.cursor) = subst (λ o. NextFound p g ts (Ok o) d) c.in-Some.is (c.in_ok-found.ensures.value p g q) in
      ap (λ (t : Ty). control.range_on p g (control.next_of p g t c.args.birth at m) r (frame_of ts c.args.f.now) below (with_memory m s)) over
      ∙ ap (λ (d : control.Next p g). control.range_on p g d r (frame_of ts c.args.f.now) below (with_memory m s)) e)
      (c.turn.ensures.value p q);
}
