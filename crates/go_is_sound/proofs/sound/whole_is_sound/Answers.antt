use Rattle.std.proofs.Common.{◌≡◌, true, rules}
use Rattle.go_core.specs.CoreView.{program_view}
use Rattle.go_core.specs.SoundProgram.{Sound}
use Rattle.go_is_sound.specs.Whole.{BodiesSound}
use Rattle.go_is_sound.proofs.WholeLemmas.{sound_of}
use Rattle.go_is_sound.proofs.ListLemmas.{yes_then}
use Rattle.go_is_sound.proofs.sound.whole_is_sound.Goals as goal

pub returns : goal.returns
returns c = record {
  is = λ h.
      let p = c.args.p.now in
      let k : c.in_ok-packages.packages ≡ true = search rules in
      let d : c.are_distinct.result ≡ true = search rules in
      yes_then c.bodies_are_sound.result (BodiesSound p) (Sound (program_view p))
      (λ s. sound_of p c.args.facts.now h (c.are_distinct.ensures.is h d) (c.in_ok-packages.ensures.is h k) s)
      (c.bodies_are_sound.ensures.is h);
}
