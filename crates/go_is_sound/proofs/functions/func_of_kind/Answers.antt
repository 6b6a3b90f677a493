use Rattle.std.specs.Prelude.{ℕ}
use Rattle.go_type.specs.Table.{places}
use Rattle.go_core.specs.CoreView.{func_view, program_view}
use Rattle.go_core.specs.SoundProgram.{SoundFunc}
use Rattle.go_is_sound.specs.Functions.{IsFuncOf, IsKind}
use Rattle.go_is_sound.proofs.BodyLemmas.{func_sound}
use Rattle.go_is_sound.proofs.ListLemmas.{yes_then}
use Rattle.go_is_sound.proofs.functions.func_of_kind.Goals as goal

pub returns-in-Some : goal.returns-in-Some
returns-in-Some c = record {
  is = λ h.
      let p = c.args.p.now in
      let f = c.args.f.now in
      let own = c.in-Some.own.now in
      yes_then c.func_of_own.result (IsFuncOf p f own) ((k : ℕ) → IsKind p k c.args.is_method → SoundFunc (program_view p) k (func_view (places p.types) f))
      (λ x k n. func_sound p k f c.args.is_method x.head own x.is_head (c.in-Some.ensures.is (places p.types)) n x.sound_types x.terminates x.body)
      (c.func_of_own.ensures.is h);
}
