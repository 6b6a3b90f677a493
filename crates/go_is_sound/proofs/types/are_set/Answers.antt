use Rattle.std.proofs.Common.{rules, ◌≡◌, arith, ℕ, true}
use Rattle.go_type.specs.Tree.{named}
use Rattle.go_type.specs.Table.{names}
use Rattle.go_core.specs.Layout.{holds_by_value}
use Rattle.go_core.specs.SoundNode.{every}
use Rattle.go_sound_parts.proofs.MeasureLemmas.{count_names}
use Rattle.go_sound_parts.proofs.RowLemmas.{up_to}
use Rattle.go_is_sound.proofs.types.are_set.Goals as goal

pub names-preserved : goal.names-preserved
names-preserved c =
    let b : c.is_set.result ≡ true = search rules in
    λ h.
    up_to (λ (k : ℕ). holds_by_value every (names c.args.p.now.types) (named k) ≡ true) c.names.i (c.names.invariant h) (c.is_set.ensures.is h b)

pub returns : goal.returns
returns c = record {
  is = λ h e id l. c.names.invariant h id (let n = count_names c.args.p.now.types in omega (arith, c.names-test.false, c.name_len-i-end.ensures, n, l));
}
