use Rattle.std.proofs.Common.{rules, true, ◌≡◌, arith, ℕ}
use Rattle.go_type.specs.Levels.{tree_of}
use Rattle.go_type.specs.Table.{places}
use Rattle.go_core.specs.CoreView.{program_view}
use Rattle.go_core.specs.SoundNode.{IsGoodType}
use Rattle.go_sound_parts.proofs.RowLemmas.{up_to}
use Rattle.go_is_sound.proofs.TableLemmas.{all_trees}
use Rattle.go_is_sound.proofs.types.are_good.Goals as goal

pub types-preserved : goal.types-preserved
types-preserved c =
    let b : c.is_good.result ≡ true = search rules in
    λ h.
    let p = c.args.p.now in
    up_to (λ (k : ℕ). IsGoodType (program_view p) (tree_of (places p.types) (record { 0 = k }))) c.types.i (c.types.invariant h) (c.is_good.ensures.is h b)

pub returns : goal.returns
returns c = record {
  is = λ h e. all_trees c.args.p.now.types (IsGoodType (program_view c.args.p.now)) (λ k l. c.types.invariant h k (omega (arith, c.types-test.false, c.len-i-end.ensures.value, l)));
}
