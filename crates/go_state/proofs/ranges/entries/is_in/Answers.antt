use Rattle.std.proofs.Common.{arith, eq-eqb, get_or}
use Rattle.std.proofs.lemmas.Bool.{ne_eqb}
use Rattle.std.proofs.lemmas.List.{drop_more}
use Rattle.go_state.proofs.EntryLemmas.{in_step, in_found, in_end}
use Rattle.go_state.proofs.ranges.entries.is_in.Goals as goal

pub births-preserved : goal.births-preserved
births-preserved c = λ p g.
    let xs = c.args.produced.now in
    let i = c.births.i in
    in_step p g c.args.n xs i (get_or xs i 0) _ (drop_more xs i 0 (omega (arith, c.births-test.true))) (ne_eqb c.args.n (get_or xs i 0) c.if-n-produced.false) (c.births.invariant p g)

pub returns-then-n-produced : goal.returns-then-n-produced
returns-then-n-produced c =
    let xs = c.args.produced.now in
    let i = c.births.i in
    record {
      value = λ p g. in_found p g c.args.n xs i (get_or xs i 0) _ (drop_more xs i 0 (omega (arith, c.births-test.true))) (eq-eqb c.args.n (get_or xs i 0) c.if-n-produced.true) (c.births.invariant p g);
    }

pub returns : goal.returns
returns c = record { value = λ p g. in_end p g c.args.n c.args.produced.now c.births.i _ (omega (arith, c.births-test.false)) (c.births.invariant p g) }
