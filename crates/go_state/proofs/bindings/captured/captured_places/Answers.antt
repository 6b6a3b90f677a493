use Rattle.std.proofs.Common.{◌≡◌, ◌++◌, ◌+◌, ◌-◌, refl, sym, ap, arith, get_or, map, ℕ, List}
use Rattle.std.proofs.lemmas.List.{length-map, drop_more}
use Rattle.go_core.specs.CoreView.{id_of}
use Rattle.go_core.specs.Goroutine as defined
use Rattle.go_state.specs.StateSeen.{places_of}
use Rattle.go_state.proofs.Lists.{no_id, split_map}
use Rattle.go_state.proofs.BindLemmas.{captured_none, captured_step}
use Rattle.go_state.proofs.bindings.captured.captured_places.Goals as goal

pub each-init : goal.each-init
each-init c =
    let vs = c.args.captured.now in
    let bs = c.args.bases.now in
    ap (λ (ps : List defined.Place). ps ++ places_of c.args.at.now.items) (sym (captured_none (map id_of vs) bs (c.min-count.result - 0) (λ k i j. omega (arith, i, j, c.min-count.ensures, length-map vs id_of))))

pub each-preserved : goal.each-preserved
each-preserved c =
    let vs = c.args.captured.now in
    let bs = c.args.bases.now in
    let k = c.min-count.result - (c.each.i + 1) in
    let same : c.min-count.result - 1 - c.each.i ≡ k = omega arith in
    captured_step (map id_of vs) bs k (c.min-count.result - c.each.i) _ _ c.each.at.items _ _ (places_of c.args.at.now.items)
    (omega (arith, c.each-test.true))
    (split_map id_of vs k (get_or vs k no_id) no_id (omega (arith, c.each-test.true, c.min-count.ensures)) refl)
    (drop_more bs k 0 (omega (arith, c.each-test.true, c.min-count.ensures)))
    c.in_ok-push.ensures.items (ap (λ (n : ℕ). (get_or vs n no_id).0) same) (ap (λ (n : ℕ). get_or bs n 0) same) c.each.invariant
