use Rattle.std.specs.Prelude.{ℕ, List}
use Rattle.go_type.specs.Levels.{tree_of}
use Rattle.go_type.specs.Table.{places}
use Rattle.go_core.specs.CoreView.{program_view}
use Rattle.go_core.specs.SoundNode.{HasRow}
use Rattle.go_core.specs.TypeOf.{Signature}
use Rattle.go_sound_parts.proofs.SpecLemmas.{found_spec}
use Rattle.go_sound_parts.proofs.methods.answers.Goals as goal

pub returns : goal.returns
returns c = record {
  is = λ own h.
      let p = c.args.p.now in
      let ts = places p.types in
      found_spec ts (λ (name package_ : List ℕ) (s : Signature). HasRow (program_view p) (tree_of ts c.args.t) (record { name = name; package_ = package_ }) s.params s.results s.variadic)
      c.args.specs.now (c.have_rows.ensures.is own h);
}
