use Rattle.std.proofs.Common.{refl, ◌∙◌}
use Rattle.js_pool.specs.Stands.{opened}
use Rattle.js_body.specs.Tells.{around}
use Rattle.js_body.specs.Later.{itself, stands_later}
use Rattle.js_body.specs.StepLaws.{from_here, parts_kept}
use Rattle.js_body.specs.BlockLaws.{parts_lines}
use Rattle.js_values.proofs.logic.begin_plain.Goals as goal

pub returns : goal.returns
returns c =
    let b = c.args.b.now in
    let p = c.side_test-test.new.p in (
      c.side_test-test.ensures.0.0,
      λ l t h s x.
          let a = parts_kept b.pool p b.stack.items b.temps b.declared.items (around b) s c.side_test-test.ensures.0 l x in (
            record {
              mark = c.open-mark.ensures ∙ parts_lines p (opened p) b.stack.items b.temps b.declared.items (around b) s a;
              test = c.side_test-test.ensures.1 p (itself p l) t (stands_later (from_here b.pool p c.side_test-test.ensures.0.0 l) h);
              both = refl;
            },
            a,
          ),
    )
