use Rattle.std.proofs.Common.{◌≡◌, ◌∙◌, ap, sym, ℕ, List, map}
use Rattle.std.specs.Prelude.{Option}
use Rattle.std.specs.Borrow.{Bor}
use Rattle.go_type.specs.Table.{places}
use Rattle.go_core.specs.Communicate as defined
use Rattle.go_core.specs.Communicate.{select_with, case_count, default_tasks, offers_from, reach}
use Rattle.go_core.specs.CoreView.{stmts_view}
use Rattle.go_core.specs.Goroutine as core
use Rattle.go_core.specs.Opened.{cases_of}
use Rattle.go_core.specs.declared.statement.CoreCases.{out-CoreCases}
use Rattle.go_state.specs.TasksSeen.{cases_view}
use Rattle.go_values.specs.ValuesSeen.{values_of}
use Rattle.go_values.specs.declared.values.scalar.Scalar.{Scalar}
use Rattle.go_state.specs.StateSeen.{frame_of, move_of, offer_of, state_of}
use Rattle.go_partners.specs.Moves.{TalkStep, frames_below, with_frames}
use Rattle.go_partners.specs.Chosen.{default_of}
use Rattle.go_partners.proofs.ReachLemmas.{talks_from}
use Rattle.go_partners.proofs.TalkLemmas.{talks_lacked}
use Rattle.go_partners.proofs.SelectLemmas.{cases_counted, select_lacks}
use Rattle.go_partners.proofs.talk_steps.select.select_step.Goals as goal

pub returns-in_err-vs-clause-value : goal.returns-in_err-vs-clause-value
returns-in_err-vs-clause-value c = λ p q.
    let ts = places c.args.c.now.table.now in
    let g = c.args.g in
    let free = move_of c.args.free in
    let s = state_of ts c.args.state.now in
    let w = c.args.what in
    let choices = c.args.choices.now in
    let cases = cases_of (cases_view ts w.cases.now) in
    let body = stmts_view ts w.default.now in
    let step : TalkStep = λ x below u. defined.select_step p g free choices cases w.count w.has_default body x below u in
    talks_lacked p ts g c.from_residual.result c.in_err-vs.field-0.0 c.args.f.now c.operands.new.f c.args.state.now c.args.state.now step c.from_residual.ensures.1
    (λ fs. c.in_err-vs.ensures.value ts (λ vs f'. select_with p g free choices (case_count p g free cases) w.has_default body (offers_from p g free cases vs) f' (frames_below g s) (with_frames g fs s)))

pub returns-in_err-offers-clause-value : goal.returns-in_err-offers-clause-value
returns-in_err-offers-clause-value c = λ p q.
    let ts = places c.args.c.now.table.now in
    let g = c.args.g in
    let free = move_of c.args.free in
    let s = state_of ts c.args.state.now in
    let w = c.args.what in
    let choices = c.args.choices.now in
    let cases = cases_of (cases_view ts w.cases.now) in
    let body = stmts_view ts w.default.now in
    let f1 = frame_of ts c.operands.new.f in
    let below = frames_below g s in
    let step : TalkStep = λ x below u. defined.select_step p g free choices cases w.count w.has_default body x below u in
    let run : List core.Frame → core.Frame → Option (List core.Offer) → Option core.State = λ fs f' o. select_with p g free choices (case_count p g free cases) w.has_default body o f' below (with_frames g fs s) in
    talks_lacked p ts g c.from_residual-in_err-offers.result c.in_err-offers.field-0.0 c.args.f.now c.operands.new.f c.args.state.now c.args.state.now step c.from_residual-in_err-offers.ensures.1
    (λ fs.
    select_lacks c.in_err-offers.field-0.0 (offers_from p g free cases (values_of ts c.as_slice.result.now)) (step (frame_of ts c.args.f.now) below (with_frames g fs s))
    (λ e.
    c.in_ok-vs.ensures.value ts (λ vs f'. run fs f' (offers_from p g free cases vs))
    ∙ ap (λ (xs : List (Bor (List Scalar))). run fs f1 (offers_from p g free cases (values_of ts xs))) (sym c.as_slice.ensures.value)
    ∙ ap (run fs f1) e)
    (c.in_err-offers.ensures.value p g free q))

pub returns-clause-value : goal.returns-clause-value
returns-clause-value c = λ p q.
    let ts = places c.args.c.now.table.now in
    let g = c.args.g in
    let free = move_of c.args.free in
    let s = state_of ts c.args.state.now in
    let w = c.args.what in
    let choices = c.args.choices.now in
    let cases = cases_of (cases_view ts w.cases.now) in
    let body = stmts_view ts w.default.now in
    let f1 = frame_of ts c.operands.new.f in
    let below = frames_below g s in
    let default = c.default_in.result in
    let os = map (offer_of ts) c.in_ok-offers.offers.items in
    let counted : c.len.result ≡ case_count p g free cases = c.len.ensures ∙ (out-CoreCases w.cases.now).items.ok.0 ∙ sym (cases_counted p g free ts w.cases.now) in
    let step : TalkStep = λ x below u. defined.select_step p g free choices cases w.count w.has_default body x below u in
    let other : TalkStep = λ x below u. reach p g free choices (default_of ts default) c.len.result os x below u in
    talks_from p ts g c.reach.result c.args.f.now c.operands.new.f c.reach.new.f c.args.state.now c.reach.new.state step other
    (λ fs.
    let s0 = with_frames g fs s in
    let run : core.Frame → Option (List core.Offer) → Option core.State = λ f' o. select_with p g free choices (case_count p g free cases) w.has_default body o f' below s0 in
    c.in_ok-vs.ensures.value ts (λ vs f'. run f' (offers_from p g free cases vs))
    ∙ ap (λ (xs : List (Bor (List Scalar))). run f1 (offers_from p g free cases (values_of ts xs))) (sym c.as_slice.ensures.value)
    ∙ ap (run f1) (c.in_ok-offers.ensures.value p g free q)
    ∙ ap (λ (d : Option (List core.Task → List core.Task)). reach p g free choices d (case_count p g free cases) os f1 below s0) (sym (c.default_in.ensures.value ts p g free))
    ∙ ap (λ (n : ℕ). reach p g free choices (default_of ts default) n os f1 below s0) (sym counted))
    (c.reach.ensures.value p ts)
