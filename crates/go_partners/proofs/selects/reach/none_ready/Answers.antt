use Rattle.std.proofs.Common.{ap, ◌∙◌, refl, [], map}
use Rattle.go_core.specs.Communicate.{reached}
use Rattle.go_core.specs.CoreView.{stmts_view}
use Rattle.go_core.specs.Opened.{all_opened}
use Rattle.go_state.specs.StateSeen.{frame_of, offer_of, state_of}
use Rattle.go_partners.specs.Moves.{frames_below, with_frames}
use Rattle.go_partners.specs.Chosen.{default_of}
use Rattle.go_partners.proofs.ReachLemmas.{reached_default, reached_waits, talks_same}
use Rattle.go_partners.proofs.selects.reach.none_ready.Goals as goal

pub returns-in-Some : goal.returns-in-Some
returns-in-Some c = record {
  value = λ p ts s g free choices fs.
      let s0 = state_of ts s in
      let f = frame_of ts c.args.f.now in
      let w = c.args.ways in
      let offers = map (offer_of ts) w.offers.items in
      let below = frames_below g s0 in
      talks_same p ts g _ c.able.result _ _ s0 c.able.ensures.value
      (ap (λ d. reached p g free choices (default_of ts d) w.units offers [] f below (with_frames g fs s0)) c.in-Some.is
      ∙ reached_default p g free choices w.units offers f below s0 (all_opened (stmts_view ts c.in-Some.body.now)) fs _ c.in_ok-units.units (c.in_ok-run-in-Some.ensures.value ts) c.in_ok-units.ensures.value);
}

pub returns : goal.returns
returns c = record {
  value = λ p ts s g free choices fs.
      let s0 = state_of ts s in
      let f = frame_of ts c.args.f.now in
      let w = c.args.ways in
      let offers = map (offer_of ts) w.offers.items in
      let below = frames_below g s0 in
      ap (λ d. reached p g free choices (default_of ts d) w.units offers [] f below (with_frames g fs s0)) c.in-None.is
      ∙ reached_waits p g free choices w.units offers f below s0 fs offers c.in_ok-units.units refl c.in_ok-units.ensures.value;
}
