use Rattle.std.proofs.Common.{◌∙◌, ap, sym, subst, List, ℕ, [], ◌++◌, ◌∷◌, false}
use Rattle.go_type.specs.Named.{with_method, method_with}
use Rattle.go_type.specs.Predeclared.{predeclared_names}
use Rattle.go_type.specs.Levels.{SigBelow}
use Rattle.go_type.specs.Table.{places, names, size}
use Rattle.go_type.specs.declared.types.TypeId.{TypeId}
use Rattle.go_operands.specs.EnvView.{table_of, env_of}
use Rattle.go_items.proofs.FirstLemmas.{plain, names_env, last_set}
use Rattle.go_items.proofs.first.first.and_method.Goals as goal

pub add_method-requires : goal.add_method-requires
add_method-requires c = record {
  id = c.requires.within;
  sig = subst (λ (ps : List TypeId). SigBelow (size (table_of c.args.env.now)) (plain ps c.args.results)) (sym c.new.ensures) c.requires.results;
}

pub returns-clause-env : goal.returns-clause-env
returns-clause-env c = λ x h.
    let ts = places (table_of c.args.env.now) in
    let rs = c.args.results in
    names_env (env_of c.add_method.new.self) (env_of c.args.env.now) (names (table_of c.add_method.new.self)) _ c.in_ok-add_method.ensures.env
    (last_set c.args.id.0 x _ (names (table_of c.args.env.now)) (names (table_of c.add_method.new.self)) c.requires.id h c.in_ok-add_method.ensures.names
    ∙ ap (λ (n : List ℕ). predeclared_names ++ with_method (method_with ts n false (plain c.new.result rs)) x ∷ []) c.in_ok-text.ensures.value
    ∙ ap (λ (ps : List TypeId). predeclared_names ++ with_method (method_with ts c.args.name.now false (plain ps rs)) x ∷ []) c.new.ensures)
