use Rattle.go_decls.proofs.BodyLemmas.{leaves_scopes}
use Rattle.go_decls.proofs.heads.laws.bodies.Goals as goal

pub returns : goal.returns
returns c = record { leave_scopes = leaves_scopes }
