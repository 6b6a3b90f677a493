use Rattle.std.proofs.Common.{◌∙◌, [], ◌∷◌, ◌+◌}
use Rattle.go_core.specs.Communicate.{done_with, to_partner, partner_offer}
use Rattle.go_values.specs.ValuesSeen.{value_of}
use Rattle.go_state.specs.StateSeen.{after_of, frame_of, move_of, state_of}
use Rattle.go_partners.specs.Moves.{frames_below}
use Rattle.go_partners.proofs.TakeLemmas.{same_moves}
use Rattle.go_partners.proofs.StopLemmas.{moves_stopped, beside_stops}
use Rattle.go_partners.proofs.exchanges.take.send_to_partner.Goals as goal

pub returns-in_err-to_partner-clause-value : goal.returns-in_err-to_partner-clause-value
returns-in_err-to_partner-clause-value c = λ p ts.
    let w = c.args.what in
    moves_stopped ts p c.args.g c.args.f.now _ c.args.state.now c.to_partner.new.state c.from_residual.result c.in_err-to_partner.field-0.0 _ c.from_residual.ensures.1
    (beside_stops ts p c.args.g c.args.f.now _ c.args.state.now c.to_partner.new.state c.in_err-to_partner.field-0.0
    (λ s t. to_partner p c.args.g (move_of c.args.free) w.name (value_of ts w.value.now) (partner_offer c.args.g (move_of c.args.free) s) t)
    (λ x. done_with [] (after_of ts w.after) x) (1 + w.units) (c.in_err-to_partner.ensures.value ts p))

pub returns-clause-value : goal.returns-clause-value
returns-clause-value c = λ p ts fs.
    let w = c.args.what in
    let g = c.args.g in
    let below = frames_below g (state_of ts c.args.state.now) in
    let done = done_with [] (after_of ts w.after) (frame_of ts c.args.f.now) in
    c.in_ok-to_partner.ensures.value ts p fs (done ∷ below) (1 + w.units)
    ∙ same_moves g below (state_of ts c.to_partner.new.state) done _ (1 + w.units) c.in_ok-units.units (c.in_ok-units.ensures.frame ts) c.in_ok-units.ensures.value
