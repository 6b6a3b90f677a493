use Rattle.std.proofs.Common.{◌∙◌, ap, subst, sym}
use Rattle.go_type.specs.Table.{name_count}
use Rattle.go_typing.specs.Scopes.{new_env, entered}
use Rattle.go_operands.specs.RulesReady.{HasPredeclared}
use Rattle.go_operands.specs.EnvView.{env_of}
use Rattle.std.proofs.Common.{List, ℕ, []}
use Rattle.go_items.proofs.FirstLemmas.{has_all}
use Rattle.go_items.proofs.first.first.begun.Goals as goal

pub new-requires-2 : goal.new-requires-2
new-requires-2 c = has_all c.in_ok-table.table c.in_ok-table.ensures.places c.in_ok-table.ensures.counts.0

pub returns : goal.returns
returns c =
    let t = c.in_ok-table.table in
    let same = c.in_ok-enter.ensures.rest.0 ∙ c.in_ok-env.ensures.table in
    record {
      env =
          c.in_ok-enter.ensures.value ∙ ap (λ (x : List ℕ). entered x (env_of c.in_ok-env.env)) c.new-path.ensures
          ∙ ap (entered []) (c.in_ok-env.ensures.value ∙ ap new_env c.in_ok-table.ensures.names);
      count = ap name_count same ∙ c.in_ok-table.ensures.counts.1;
      predeclared = subst HasPredeclared (sym same) (has_all t c.in_ok-table.ensures.places c.in_ok-table.ensures.counts.0);
    }

pub invariant_of-env : goal.invariant_of-env
invariant_of-env c =
    let e = c.enter.new.self in
    record { begins = e.begins; universe_within = e.universe_within; packages_within = e.packages_within; blocks_within = e.blocks_within }
