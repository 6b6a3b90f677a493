use Rattle.go_type.specs.Table.{places}
use Rattle.go_core.specs.CoreTree.{Var}
use Rattle.go_core.specs.CoreView.{program_view, var_of}
use Rattle.go_core.specs.SoundNode.{IsGoodType}
use Rattle.go_is_sound.proofs.ListLemmas.{all_mapped}
use Rattle.go_is_sound.proofs.functions.are_good_vars.Goals as goal

pub returns : goal.returns
returns c = record {
  is = λ h e.
      let p = c.args.p.now in
      all_mapped (λ (v : Var). IsGoodType (program_view p) v.type_) (var_of (places p.types)) c.args.f.now.vars.items.items (c.all_good_vars.ensures.is h e);
}
