use Rattle.std.proofs.Common.{◌∙◌, sym}
use Rattle.std.proofs.lemmas.Bool.{false≢true}
use Rattle.go_sound_nodes.specs.Around.{around, program_in, trees_in}
use Rattle.go_sound_nodes.proofs.NodeLemmas.{slice_sound, make_sound, gate_sound}
use Rattle.go_sound_nodes.proofs.judge.Judge.+expr.Goals as goal
use Rattle.go_sound_nodes.proofs.judge.Judge.+expr.Goals.{composite-then-bound-3, composite-then-bound-2, composite-then-bound, composite-then-expr, composite-else-expr, composite-else-bound, composite-else-bound-2, composite-else-bound-3, made-then-gives_int, made-then-bound, made-then-expr-5, made-else-expr-5, made-else-bound, made-else-gives_int, gate-then-place, gate-else-place}

pub composite-returns-then-gives : goal.composite-returns-then-gives
composite-returns-then-gives t c = record {
  is = λ known h.
      let j = c.args.self.now in
      elim c.if-bound-3.branch [
        | composite-then-bound-3 w4 ↦ elim c.if-bound-2.branch [
          | composite-then-bound-2 w3 ↦ elim c.if-bound.branch [
            | composite-then-bound w2 ↦ elim c.if-expr.branch [
              | composite-then-expr w1 ↦
                  slice_sound (trees_in j) (program_in j) (around j c.args.round.now) c.args.form.now c.in-SliceOf.from c.in-SliceOf.ty c.in-SliceOf.operand c.in-SliceOf.low c.in-SliceOf.high c.in-SliceOf.limit c.in-SliceOf.is
                  (c.expr.ensures.is known w1.if-expr.true) (w1.bound.ensures.is known (sym w1.value-is ∙ w2.if-bound.true)) (w2.bound-then-bound.ensures.is known (sym w2.value-is ∙ w3.if-bound-2.true))
                  (w3.bound-then-bound-2.ensures.is known (sym w3.value-is ∙ w4.if-bound-3.true)) (w4.gives.ensures.is (sym w4.value-is ∙ c.if-gives.true)) (c.slices_to.ensures.is h)
              | composite-else-expr w1 ↦ absurd (false≢true (sym w1.if-expr.false ∙ sym w1.value-is ∙ w2.if-bound.true))
            ]
            | composite-else-bound w2 ↦ absurd (false≢true (sym w2.if-bound.false ∙ sym w2.value-is ∙ w3.if-bound-2.true))
          ]
          | composite-else-bound-2 w3 ↦ absurd (false≢true (sym w3.if-bound-2.false ∙ sym w3.value-is ∙ w4.if-bound-3.true))
        ]
        | composite-else-bound-3 w4 ↦ absurd (false≢true (sym w4.if-bound-3.false ∙ sym w4.value-is ∙ c.if-gives.true))
      ];
}

pub made-returns-then-is_good : goal.made-returns-then-is_good
made-returns-then-is_good t c = record {
  is = λ known h.
      let j = c.args.self.now in
      elim c.if-gives_int.branch [
        | made-then-gives_int w3 ↦ elim c.if-bound.branch [
          | made-then-bound w2 ↦ elim c.if-expr-5.branch [
            | made-then-expr-5 w1 ↦
                make_sound (trees_in j) (program_in j) (around j c.args.round.now) c.args.form.now c.in-MakeSlice.ty c.in-MakeSlice.length c.in-MakeSlice.capacity c.in-MakeSlice.is
                (c.expr-in-MakeSlice.ensures.is known w1.if-expr-5.true) (w1.bound.ensures.is known (sym w1.value-is ∙ w2.if-bound.true)) (w2.gives_int.ensures.is (sym w2.value-is ∙ w3.if-gives_int.true))
                (w3.is_good.ensures.is known (sym w3.value-is ∙ c.if-is_good.true)) (c.is_slice.ensures.is h)
            | made-else-expr-5 w1 ↦ absurd (false≢true (sym w1.if-expr-5.false ∙ sym w1.value-is ∙ w2.if-bound.true))
          ]
          | made-else-bound w2 ↦ absurd (false≢true (sym w2.if-bound.false ∙ sym w2.value-is ∙ w3.if-gives_int.true))
        ]
        | made-else-gives_int w3 ↦ absurd (false≢true (sym w3.if-gives_int.false ∙ sym w3.value-is ∙ c.if-is_good.true))
      ];
}

pub gate-returns-then-lies : goal.gate-returns-then-lies
gate-returns-then-lies t c = record {
  is = λ known h.
      let j = c.args.self.now in
      elim c.if-place.branch [
        | gate-then-place w ↦
            gate_sound (trees_in j) (program_in j) (around j c.args.round.now) c.args.e.now c.deref.result.now c.in-GateMake.pointer c.deref-in-GateMake.result.now c.in-Address.ty c.in-Address.place c.deref-in-Address.result.now
            c.in-Field.struct_type c.in-Field.number c.in-Field.place c.deref.ensures c.in-GateMake.is c.deref-in-GateMake.ensures c.in-Address.is c.deref-in-Address.ensures c.in-Field.is
            (c.place.ensures.is known w.if-place.true) (w.lies.ensures.is (sym w.value-is ∙ c.if-lies.true)) (c.is_gate_field.ensures.is h)
        | gate-else-place w ↦ absurd (false≢true (sym w.if-place.false ∙ sym w.value-is ∙ c.if-lies.true))
      ];
}
