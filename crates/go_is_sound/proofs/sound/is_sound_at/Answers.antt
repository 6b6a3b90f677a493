use Rattle.std.proofs.Common.{◌≡◌, ◌∙◌, sym, subst}
use Rattle.std.specs.Prelude.{Some, slice_get}
use Rattle.go_type.specs.Table.{places}
use Rattle.go_core.specs.CoreTree.{CoreFunc}
use Rattle.go_core.specs.CoreView.{func_view, program_view}
use Rattle.go_core.specs.SoundProgram.{SoundFunc}
use Rattle.go_is_sound.proofs.ListLemmas.{some_one, yes_then}
use Rattle.go_is_sound.proofs.sound.is_sound_at.Goals as goal

pub returns-in-Some : goal.returns-in-Some
returns-in-Some c = record {
  is = λ h.
      let p = c.args.p.now in
      let q = program_view p in
      let x = func_view (places p.types) c.in-Some.f.now in
      yes_then c.func_is_sound.result (SoundFunc q c.args.id.0 x) ((f : CoreFunc) → slice_get q.funcs c.args.id.0 ≡ Some f → SoundFunc q c.args.id.0 f)
      (λ s f g. subst (λ (y : CoreFunc). SoundFunc q c.args.id.0 y) (some_one x f (sym c.in-Some.ensures.is ∙ g)) s)
      (c.func_is_sound.ensures.is h);
}
