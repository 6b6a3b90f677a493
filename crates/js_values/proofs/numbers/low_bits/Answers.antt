use Rattle.std.proofs.Common.{subst}
use Rattle.gj_base.specs.declared.kind.Kind.{Kind}
use Rattle.js_pool.specs.Stands.{Stands}
use Rattle.js_body.specs.Tells.{around}
use Rattle.js_body.specs.Later.{itself, stands_later}
use Rattle.js_body.specs.StepLaws.{from_here, parts_kept}
use Rattle.js_values.specs.Numbers.{low_tree}
use Rattle.js_values.proofs.numbers.low_bits.Goals as goal

pub returns : goal.returns
returns c =
    let b = c.args.b.now in
    let q = c.low_part.new.p in (
      c.low_part.ensures.0.0,
      λ l u h s t. (
        subst (λ (k : Kind). Stands q c.low_part.result (low_tree k u)) (c.int_kind-kind.ensures s t) (c.low_part.ensures.1 q (itself q l) u (stands_later (from_here b.pool q c.low_part.ensures.0.0 l) h)),
        parts_kept b.pool q b.stack.items b.temps b.declared.items (around b) s c.low_part.ensures.0 l t,
      ),
    )
