use Rattle.go_type.specs.Table.{places}
use Rattle.go_type.proofs.HitLemmas.{sees_method}
use Rattle.go_type.proofs.search.method_hit.Goals as goal

pub returns-clause-seen : goal.returns-clause-seen
returns-clause-seen c = sees_method (places c.args.table.now) _ c.is_declared-found.result c.args.«of» _ _ c.when.result c.when.ensures.value c.is_declared-found.ensures
