use Rattle.go_type.specs.Table.{places}
use Rattle.go_type.proofs.HitLemmas.{sees_field}
use Rattle.go_type.proofs.search.field_hit.Goals as goal

pub returns-clause-seen : goal.returns-clause-seen
returns-clause-seen c i = sees_field (places c.args.table.now) _ c.is_sought.result _ c.when.result c.when.ensures.value c.is_sought.ensures
