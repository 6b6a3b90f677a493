use Rattle.go_syntax.specs.View.{expr_view}
use Rattle.go_body.proofs.TypeLemmas.{again_does}
use Rattle.go_body.proofs.local.types.again.Goals as goal

pub returns-in-Ok-used : goal.returns-in-Ok-used
returns-in-Ok-used c =
    record {
      does = λ out.
          again_does c.args.n.now c.args.alias (expr_view c.args.e.now) c.args.at c.args.walk.now c.told_type.new.walk c.used.new.walk c.args.flaws.now.items c.redeclared.new.flaws.items c.told_type.new.flaws.items out c.in-Ok.ensures.value c.in-Ok-told_type.ensures.told c.in-Ok-told_type.ensures.stays c.in-Ok-used.ensures.moves;
    }
