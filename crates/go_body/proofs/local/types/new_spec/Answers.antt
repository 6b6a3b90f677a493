use Rattle.go_syntax.specs.View.{expr_view}
use Rattle.go_body.proofs.TypeLemmas.{new_does, there_still}
use Rattle.go_body.proofs.local.types.new_spec.Goals as goal

pub with_found-requires-clause-missing : goal.with_found-requires-clause-missing
with_found-requires-clause-missing c = there_still c.args.n.now c.args.walk.now c.told_type.new.walk c.used.new.walk c.in-Ok.ensures.stays c.used.ensures.env c.requires.missing

pub returns-in-Ok-with_found : goal.returns-in-Ok-with_found
returns-in-Ok-with_found c =
    record {
      does = λ out.
          new_does c.args.n.now c.args.alias (expr_view c.args.e.now) c.in-Ok.ty c.args.walk.now c.told_type.new.walk c.used.new.walk c.with_found.new.walk c.args.flaws.now.items c.told_type.new.flaws.items out c.requires.other c.in-Ok.ensures.ty c.in-Ok.ensures.told c.in-Ok.ensures.stays c.in-Ok-used.ensures.moves c.used.ensures.env
          c.in-Ok-with_found.ensures.value c.in-Ok-with_found.ensures.depth c.in-Ok-with_found.ensures.kept c.in-Ok-with_found.ensures.counts;
    }
