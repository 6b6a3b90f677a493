use Rattle.std.proofs.Common.{rules, true, ◌≡◌, arith}
use Rattle.std.proofs.lemmas.Option.{slice_get_within}
use Rattle.go_sound_parts.specs.Index.{IsIndexed}
use Rattle.go_sound_parts.proofs.RowLemmas.{own_rows, up_to}
use Rattle.go_sound_parts.proofs.index.has_each_row.Goals as goal

pub rows-preserved : goal.rows-preserved
rows-preserved c =
    let b : c.is_indexed.result ≡ true = search rules in up_to (IsIndexed c.args.p.now c.args.index.now) c.rows.i c.rows.invariant (c.is_indexed.ensures.is b)

pub returns : goal.returns
returns c = record {
  is = λ h. own_rows c.args.p.now c.args.index.now (λ k r e. c.rows.invariant k (let w = slice_get_within c.args.p.now.methods.items.items k r e in omega (arith, c.rows-test.false, c.len-i-end.ensures, c.args.p.now.methods.items.ok.0, w)));
}
