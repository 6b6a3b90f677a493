use Rattle.std.proofs.Common.{sym, subst, ◌∷◌, ◌++◌, []}
use Rattle.std.proofs.lemmas.Result.{on_ok_weaker}
use Rattle.go_items.specs.declared.items.item.Item.{Item}
use Rattle.go_items.specs.ItemView.{item_view}
use Rattle.go_typing.specs.Known.{unset}
use Rattle.go_operands.specs.EnvView.{env_of}
use Rattle.go_items.specs.Stands.{Stands}
use Rattle.go_items.proofs.binds.declare.add_types.Goals as goal

pub returns-in-Type : goal.returns-in-Type
returns-in-Type c = record {
  value =
      on_ok_weaker c.add_type.result
      (λ f k h. subst (λ (i : Item). Stands (record k { names = k.names ++ unset (item_view i ∷ []) }) (env_of c.add_type.new.env)) (sym c.in-Type.is) (f k h))
      c.add_type.ensures.value;
}
