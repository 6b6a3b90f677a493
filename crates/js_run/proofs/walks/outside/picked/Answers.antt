use Rattle.std.proofs.Common.{◌<◌, ap, ◌∙◌, arith, ℕ, List, [], ◌∷◌, length}
use Rattle.std.specs.Prelude.{◌^◌}
use Rattle.std.proofs.lemmas.List.{length-append}
use Rattle.js_run.proofs.Prints.{picks, no_pick, few_pick}
use Rattle.js_run.proofs.walks.outside.picked.Goals as goal

pub returns-then-k-lt2 : goal.returns-then-k-lt2
returns-then-k-lt2 g c = record { keeps = λ env stack sink. few_pick env stack c.args.state.now c.args.state.now sink c.args.at c.args.usage c.args.k _ c.if-k-lt2.true; one = omega arith }

pub returns : goal.returns
returns g c =
    let most : c.args.k < 2 ^ 32 = omega arith in
    let p = c.pick-n.ensures.picks in
    let more = ap (λ (ns : List ℕ). length ns) p.taken ∙ length-append _ (p.raw ∷ []) in
    record {
      keeps = λ env stack sink. picks env stack c.args.state.now c.tick.new.state sink c.args.at c.args.usage c.args.k _ _ c.pick-n.result c.chosen.result c.in_ok-tick.ensures.ticks c.if-k-lt2.false most p c.chosen.ensures.value;
      one = omega (arith, more);
    }

pub returns-in_err-tick : goal.returns-in_err-tick
returns-in_err-tick g c =
    let most : c.args.k < 2 ^ 32 = omega arith in
    record {
      keeps = λ env stack sink. no_pick env stack c.args.state.now c.tick.new.state sink c.args.at c.args.usage c.args.k _ _ c.from_residual.result c.in_err-tick.ensures.ticks c.if-k-lt2.false most c.from_residual.ensures.1;
      one = omega arith;
    }
