use Rattle.go_syntax.specs.View.{expr_view}
use Rattle.go_body.proofs.TypeLemmas.{bare_does}
use Rattle.go_body.proofs.local.types.bare.Goals as goal

pub returns-in-Ok-and_flaw : goal.returns-in-Ok-and_flaw
returns-in-Ok-and_flaw c =
    record {
      does = λ out.
          bare_does c.args.n.now c.args.alias (expr_view c.args.e.now) c.args.walk.now c.name.new.walk c.used.new.walk c.args.flaws.now.items c.and_flaw.new.flaws.items out c.requires.bare c.in-Ok.ensures.value c.name.ensures.depth c.name.ensures.table c.in-Ok-used.ensures.moves c.in-Ok-and_flaw.ensures.value;
    }
