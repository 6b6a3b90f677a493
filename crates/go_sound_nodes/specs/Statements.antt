-- What a range takes, and what is in scope after a statement.
use Rattle.std.specs.Prelude.{Option, Some, None}
use Rattle.go_type.specs.Tree.{Ty}
use Rattle.go_type.specs.Underlying.{underlying}
use Rattle.go_core.specs.CoreTree.{Expr, Var, CoreProgram}
use Rattle.go_core.specs.SoundNode.{Around, with_var}
use Rattle.go_core.specs.Sound.{SoundExpr, Gives, IsRanged, InScope, IfThere, RangesKey, RangesValue, ReadsArray}

abbrev pub with_option : Option Var → Around → Around
with_option None a = a
with_option (Some v) a = with_var v a

pub record Ranges (p : CoreProgram) (a : Around) (from : Ty) (e : Expr) (key value : Option Var) : Type 0 where
  pub sound : SoundExpr p a e
  pub gives : Gives p e from
  pub ranged : IsRanged p (underlying p.names from)
  pub key_in_scope : InScope a.vars key
  pub value_in_scope : InScope a.vars value
  pub has_key : IfThere key (RangesKey (underlying p.names from))
  pub has_value : IfThere value (RangesValue p (underlying p.names from))
  pub reads : ReadsArray (underlying p.names from) value
