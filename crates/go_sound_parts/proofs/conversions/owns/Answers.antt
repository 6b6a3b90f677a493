use Rattle.std.proofs.Common.{◌∙◌, sym, ap}
use Rattle.std.specs.Prelude.{Some}
use Rattle.go_type.specs.Levels.{trees_of}
use Rattle.go_core.specs.TypeOf.{Signature}
use Rattle.go_sound_parts.proofs.SpecLemmas.{one_signature}
use Rattle.go_sound_parts.proofs.conversions.owns.Goals as goal

pub returns-in-Some : goal.returns-in-Some
returns-in-Some c = record {
  is = λ h ts.
      let e = c.same_signature.ensures.is h ts in
      sym (c.in-Some.ensures.is ts)
      ∙ ap (λ (s : Signature). Some s) (one_signature _ _ _ _ _ _ e.0 e.1 e.2);
}
