use Rattle.std.proofs.Common.{rules}
use Rattle.go_core.specs.CoreView.{program_view}
use Rattle.go_core.specs.SoundProgram.{Sound}
use Rattle.go_is_sound.specs.Facts.{Holds}
use Rattle.go_is_sound.proofs.ListLemmas.{yes_then}
use Rattle.go_is_sound.proofs.sound.is_sound.Goals as goal

pub returns-in-Some : goal.returns-in-Some
returns-in-Some c = record {
  is =
      let p = c.args.p.now in
      let h : Holds p c.in-Some.facts = search rules in
      yes_then c.whole_is_sound.result (Sound (program_view p)) (Sound (program_view p)) (λ s. s) (c.whole_is_sound.ensures.is h);
}
