use Rattle.std.proofs.Common.{arith, length}
use Rattle.go_type.specs.Table.{names}
use Rattle.go_sound_parts.proofs.measures.is_whole.Goals as goal

pub returns-then-m-le-MOST : goal.returns-then-m-le-MOST
returns-then-m-le-MOST c = record {
  is = λ h e.
      let ns = names c.args.p.now.types in
      let x = h c.args.t c.in-Some.m c.in-Some.ensures.is in
      let l = c.is_seen.ensures.is e in
      let s = x.scalars_fit (length ns) l in
      record { is_finite = x.finite (length ns) l; is_small = omega (arith, s, c.if-m-le-MOST.true) };
}
