use Rattle.std.specs.Prelude.{◌≡◌, ℕ, List, Some}
use Rattle.std.specs.List.{AllByRecursion}
use Rattle.go_type.specs.Levels.{specs_of}
use Rattle.go_type.specs.Tree.{Ty}
use Rattle.go_type.specs.declared.types.MethodSpec.{MethodSpec}
use Rattle.go_core.specs.TypeOf.{Signature, spec_in}
use Rattle.go_sound_parts.specs.Methods.{OwnsSpec}
use Rattle.go_sound_parts.proofs.SpecLemmas.{found_spec, all_owned}
use Rattle.go_sound_parts.proofs.conversions.has_all.Goals as goal

pub returns : goal.returns
returns c = record {
  is = λ h ts.
      found_spec ts (λ (name package_ : List ℕ) (s : Signature). spec_in name package_ (specs_of ts c.args.own.now) ≡ Some s) c.args.asked.now
      (all_owned ts c.args.own.now c.args.asked.now (c.owns_all.ensures.is h));
}
