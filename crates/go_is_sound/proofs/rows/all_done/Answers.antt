use Rattle.std.proofs.Common.{rules, true, ◌≡◌, ℕ, arith, length, map}
use Rattle.std.specs.Prelude.{Some, slice_get}
use Rattle.std.proofs.lemmas.List.{length-map}
use Rattle.go_type.specs.Table.{places}
use Rattle.go_core.specs.CoreView.{method_row_view, program_view}
use Rattle.go_sound_parts.proofs.RowLemmas.{up_to}
use Rattle.go_is_sound.proofs.RowLemmas.{all_declared}
use Rattle.go_is_sound.proofs.rows.all_done.Goals as goal

pub rows-preserved : goal.rows-preserved
rows-preserved c =
    let b : c.is_done.result ≡ true = search rules in up_to (λ (k : ℕ). slice_get c.args.done.now k ≡ Some true) c.rows.i c.rows.invariant (c.is_done.ensures.is b)

pub returns : goal.returns
returns c = record {
  is = λ d h.
      let p = c.args.p.now in
      let rows = p.methods.items.items in
      let l : length (map (method_row_view (places p.types)) rows) ≡ length rows = length-map rows (method_row_view (places p.types)) in
      all_declared (program_view p) c.args.done.now d (λ k w. c.rows.invariant k (omega (arith, c.rows-test.false, c.len-i-end.ensures, p.methods.items.ok.0, l, w)));
}
