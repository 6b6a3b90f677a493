use Rattle.std.proofs.Common.{◌≡◌, ap, sym, ◌∙◌, ◌∷◌, List, Bool}
use Rattle.std.specs.Prelude.{Option, Some, None}
use Rattle.go_type.specs.Tree.{Ty}
use Rattle.go_type.specs.Named.{NamedTy}
use Rattle.go_type.specs.Levels.{tree_of}
use Rattle.go_type.specs.Table.{places, names}
use Rattle.go_type.specs.Underlying.{underlying}
use Rattle.go_core.specs.Control as control
use Rattle.go_core.specs.Goroutine as defined
use Rattle.go_core.specs.Goroutine.{moved, with_memory}
use Rattle.go_values.specs.ValuesSeen.{value_of, memory_of}
use Rattle.go_state.specs.StateSeen.{frame_of, ranged_of}
use Rattle.go_state.proofs.GoesLemmas.{lacked}
use Rattle.go_entries.proofs.LocalStepsStepLemmas.{found_none}
use Rattle.go_entries.proofs.local_steps.range.begin_range_step.Goals as goal

pub returns-in_err-x : goal.returns-in_err-x
returns-in_err-x c = record {
  value = λ p q.
      let ts = places c.args.c.now.table.now in
      let r = ranged_of ts c.args.range in
      let m = memory_of ts c.args.m.now in
      lacked p ts c.from_residual.result c.in_err-x.field-0.0 c.args.f.now c.operand.new.f c.args.m.now c.args.m.now (λ g. control.begin_range_step p g r) c.from_residual.ensures.1
      (λ g below s. c.in_err-x.ensures.value ts (λ x f'. control.begun_with p g (control.is_nil_array p g (underlying p.names r.from) x) x r f' below (with_memory m s)));
}

pub returns-then-is_nil_array : goal.returns-then-is_nil_array
returns-then-is_nil_array c = record {
  value = λ p q g below s.
      let ts = places c.args.c.now.table.now in
      let ns = names c.args.c.now.table.now in
      let r = ranged_of ts c.args.range in
      let s0 = with_memory (memory_of ts c.args.m.now) s in
      let x = value_of ts c.in_ok-x.x.now in
      let over : underlying p.names r.from ≡ tree_of ts c.underlying-over.result = ap (λ (ms : List NamedTy). underlying ms r.from) q ∙ sym c.underlying-over.ensures.tree in
      c.in_ok-x.ensures.value ts (λ x f'. control.begun_with p g (control.is_nil_array p g (underlying p.names r.from) x) x r f' below s0)
      ∙ ap (λ (b : Bool). control.begun_with p g b x r (frame_of ts c.operand.new.f) below s0)
      (ap (λ (t : Ty). control.is_nil_array p g t x) over ∙ sym (c.is_nil_array.ensures.value p g q) ∙ c.if-is_nil_array.true);
}

pub returns-in_err-cursor : goal.returns-in_err-cursor
returns-in_err-cursor c = record {
  value = λ p q.
      let ts = places c.args.c.now.table.now in
      let r = ranged_of ts c.args.range in
      let m = memory_of ts c.args.m.now in
      let x = value_of ts c.in_ok-x.x.now in
      let f1 = frame_of ts c.operand.new.f in
      let over : underlying p.names r.from ≡ tree_of ts c.underlying-over.result = ap (λ (ms : List NamedTy). underlying ms r.from) q ∙ sym c.underlying-over.ensures.tree in
      found_none p ts (λ g. Option defined.Cursor) c.from_residual-in_err-cursor.result c.in_err-cursor.field-0.0 (λ g. control.cursor_of p g (tree_of ts c.underlying-over.result) x m) (λ g. None)
      c.args.f.now c.operand.new.f c.args.m.now c.args.m.now (λ g. control.begin_range_step p g r) c.from_residual-in_err-cursor.ensures.1
      (λ g below s e.
      let s0 = with_memory m s in
      c.in_ok-x.ensures.value ts (λ x f'. control.begun_with p g (control.is_nil_array p g (underlying p.names r.from) x) x r f' below s0)
      ∙ ap (λ (b : Bool). control.begun_with p g b x r f1 below s0)
      (ap (λ (t : Ty). control.is_nil_array p g t x) over ∙ sym (c.is_nil_array.ensures.value p g q) ∙ c.if-is_nil_array.false)
      ∙ ap (λ (o : Option defined.Cursor). control.range_begun p g o r f1 below s0) (ap (λ (t : Ty). control.cursor_of p g t x m) over ∙ e))
      (λ g. c.in_err-cursor.ensures.value p g q);
}

pub returns : goal.returns
returns c = record {
  value = λ p q g below s.
      let ts = places c.args.c.now.table.now in
      let r = ranged_of ts c.args.range in
      let m = memory_of ts c.args.m.now in
      let s0 = with_memory m s in
      let x = value_of ts c.in_ok-x.x.now in
      let f1 = frame_of ts c.operand.new.f in
      let over : underlying p.names r.from ≡ tree_of ts c.underlying-over.result = ap (λ (ms : List NamedTy). underlying ms r.from) q ∙ sym c.underlying-over.ensures.tree in
      c.in_ok-x.ensures.value ts (λ x f'. control.begun_with p g (control.is_nil_array p g (underlying p.names r.from) x) x r f' below s0)
      ∙ ap (λ (b : Bool). control.begun_with p g b x r f1 below s0)
      (ap (λ (t : Ty). control.is_nil_array p g t x) over ∙ sym (c.is_nil_array.ensures.value p g q) ∙ c.if-is_nil_array.false)
      ∙ ap (λ (o : Option defined.Cursor). control.range_begun p g o r f1 below s0) (ap (λ (t : Ty). control.cursor_of p g t x m) over ∙ c.in_ok-cursor.ensures.value p g q)
      ∙ ap (λ (f' : defined.Frame). Some (moved g (f' ∷ below) 1 s0)) (sym (c.in_ok-before.ensures.value ts));
}
