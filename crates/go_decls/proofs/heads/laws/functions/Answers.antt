use Rattle.go_decls.proofs.FunctionLaws.{by_heads}
use Rattle.go_decls.proofs.heads.laws.functions.Goals as goal

pub returns : goal.returns
returns c = record { by_heads = by_heads }
