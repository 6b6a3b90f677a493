-- What a call gives, by the types of its results.
use Rattle.std.proofs.Common.{◌≡◌, refl}
use Rattle.std.specs.Prelude.{None}
use Rattle.go_type.specs.Tree.{Tys, no_tys, more_tys}
use Rattle.go_core.specs.CoreTree.{Expr}
use Rattle.go_typing.specs.Answer.{value}
use Rattle.go_typing.specs.Call.{call_value}
use Rattle.go_calls.specs.Function.{given_type}

pub call_gives : (rs : Tys) (c : Expr) → call_value rs c ≡ value c (given_type rs) None
call_gives no_tys c = refl
call_gives (more_tys t no_tys) c = refl
call_gives (more_tys t (more_tys u rs)) c = refl
