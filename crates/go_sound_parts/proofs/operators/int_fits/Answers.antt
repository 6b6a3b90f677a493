use Rattle.std.proofs.Common.{◌≡◌, ℤ, of_z, rules, subst, to_z}
use Rattle.std.specs.Int.{w128}
use Rattle.gj_base.specs.declared.kind.Kind.{Kind}
use Rattle.go_const.specs.Representability.{IsBetween, greatest, least}
use Rattle.go_core.specs.Arithmetic.{wrapped}
use Rattle.go_sound_parts.proofs.RangeLemmas.{number_fits}
use Rattle.go_sound_parts.proofs.operators.int_fits.Goals as goal

pub returns : goal.returns
returns c = record {
  is = λ h.
      let kind = c.kind_of.result in
      let n = c.args.n in
      let e : to_z w128 (of_z w128 n) ≡ n = search rules in
      let between : IsBetween (least kind) (greatest kind) n = subst (λ (z : ℤ). IsBetween (least kind) (greatest kind) z) e (c.fits.ensures.0 h) in
      subst (λ (k : Kind). wrapped k n ≡ n) c.kind_of.ensures.is (number_fits kind n between);
}
