use Rattle.std.proofs.Common.{◌∙◌, ap, ◌++◌, ◌∷◌, []}
use Rattle.go_type.specs.Named.{with_under}
use Rattle.go_type.specs.Table.{names}
use Rattle.go_type.specs.Tree.{Ty}
use Rattle.go_type.specs.Predeclared.{predeclared_names}
use Rattle.go_operands.specs.EnvView.{table_of, env_of}
use Rattle.go_items.specs.Steps.{no_text}
use Rattle.go_items.proofs.FirstLemmas.{text_unnamed, text_below, names_env, last_set, text_is}
use Rattle.go_items.proofs.first.first.and_text.Goals as goal

pub set_named-requires : goal.set_named-requires
set_named-requires c = record { id = c.requires.within; under = text_below (table_of c.args.env.now) c.requires.predeclared; unnamed = text_unnamed (table_of c.args.env.now) c.requires.predeclared }

pub returns : goal.returns
returns c =
    let t = table_of c.args.env.now in
    record {
      env =
          names_env (env_of c.set_named.new.self) (env_of c.args.env.now) (names (table_of c.set_named.new.self)) _ c.set_named.ensures.env
          (last_set c.args.id.0 no_text _ (names t) (names (table_of c.set_named.new.self)) c.requires.id c.requires.names c.set_named.ensures.names ∙ ap (λ (u : Ty). predeclared_names ++ with_under u no_text ∷ []) (text_is t c.requires.predeclared));
      places = c.set_named.ensures.places;
      counts = c.set_named.ensures.counts;
    }
