use Rattle.std.proofs.Common.{◌<◌, refl, ap, sym, arith, List, length}
use Rattle.std.proofs.lemmas.List.{map-set}
use Rattle.go_core.specs.Goroutine as defined
use Rattle.go_values.specs.OperatorsSeen as seen
use Rattle.go_state.proofs.ListsLemmas.{get_here}
use Rattle.go_state.specs.StateSeen.{after_of, goroutine_of, state_of}
use Rattle.go_partners.proofs.PlacesLemmas.{get_other}
use Rattle.go_partners.proofs.StopLemmas.{resumed_goes}
use Rattle.go_partners.proofs.exchanges.partner.resume.Goals as goal

pub returns-clause-value : goal.returns-clause-value
returns-clause-value c = λ ts.
    let s = c.args.state.now in
    let gs = s.goroutines.items in
    let counted = s.goroutines.ok.0 in
    let h : c.args.partner < length gs = omega (arith, c.if-partner-len.false, c.len.ensures, counted) in
    resumed_goes ts c.wake.result c.index_mut.result.now c.wake.new.goroutine (state_of ts s) _ (seen.values_of ts c.args.given) (after_of ts c.args.after) c.args.partner
    (get_here (goroutine_of ts) gs c.args.partner c.index_mut.result.now h c.index_mut.ensures.value)
    (ap (λ (xs : List defined.Goroutine). let t : defined.State = record (state_of ts s) { goroutines = xs } in t) (sym (map-set (goroutine_of ts) gs c.args.partner c.wake.new.goroutine)))
    (c.wake.ensures.value ts)

pub returns-clause-others : goal.returns-clause-others
returns-clause-others c = λ i d. get_other c.args.state.now.goroutines.items c.args.partner i c.wake.new.goroutine (λ e. d (sym e))

pub returns-then-partner-len-clause-others : goal.returns-then-partner-len-clause-others
returns-then-partner-len-clause-others c = λ i d. refl
