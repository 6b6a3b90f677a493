use Rattle.std.specs.Prelude.{ℕ}
use Rattle.go_type.specs.Table.{places}
use Rattle.go_core.specs.CoreView.{func_view, program_view}
use Rattle.go_core.specs.SoundProgram.{SoundFunc}
use Rattle.go_is_sound.specs.Functions.{IsKind}
use Rattle.go_is_sound.proofs.ListLemmas.{yes_then}
use Rattle.go_is_sound.proofs.functions.func_is_sound.Goals as goal

pub returns-in-Some : goal.returns-in-Some
returns-in-Some c = record {
  is = λ h.
      let p = c.args.p.now in
      let q = program_view p in
      let x = func_view (places p.types) c.args.f.now in
      yes_then c.func_of_kind.result ((k : ℕ) → IsKind p k c.in-Some.is_method → SoundFunc q k x) (SoundFunc q c.args.id.0 x)
      (λ s. s c.args.id.0 (c.in-Some.ensures.is h))
      (c.func_of_kind.ensures.is h);
}
