use Rattle.std.proofs.Common.{sym, subst, refl, false}
use Rattle.go_items.specs.declared.items.item.Item.{Item}
use Rattle.go_items.specs.ItemView.{item_view}
use Rattle.go_operands.specs.EnvView.{env_of}
use Rattle.go_decls.specs.Before.{Before, Outcome}
use Rattle.go_decls.proofs.OutcomeLemmas.{lost}
use Rattle.go_decls.proofs.known.kinds.type_item.Goals as goal

pub returns-in_ok-is_typed-in-Constant : goal.returns-in_ok-is_typed-in-Constant
returns-in_ok-is_typed-in-Constant c = record {
  value = λ rs.
      subst (λ (i : Item). Before rs c.args.index (item_view i) c.args.numbers.now (env_of c.args.env.now) → Outcome c.in_ok-is_typed-in-Constant.is_typed rs c.args.index (item_view i) (env_of c.constant_named.new.env)) (sym c.in-Constant.is)
      (c.in_ok-is_typed-in-Constant.ensures.value rs);
}

pub returns-in_ok-is_typed-in-Type : goal.returns-in_ok-is_typed-in-Type
returns-in_ok-is_typed-in-Type c = record {
  value = λ rs.
      subst (λ (i : Item). Before rs c.args.index (item_view i) c.args.numbers.now (env_of c.args.env.now) → Outcome c.in_ok-is_typed-in-Type.is_typed rs c.args.index (item_view i) (env_of c.type_named.new.env)) (sym c.in-Type.is)
      (c.in_ok-is_typed-in-Type.ensures.value rs);
}

pub returns-in_ok-is_typed-in-Alias : goal.returns-in_ok-is_typed-in-Alias
returns-in_ok-is_typed-in-Alias c = record {
  value = λ rs.
      subst (λ (i : Item). Before rs c.args.index (item_view i) c.args.numbers.now (env_of c.args.env.now) → Outcome c.in_ok-is_typed-in-Alias.is_typed rs c.args.index (item_view i) (env_of c.alias_named.new.env)) (sym c.in-Alias.is)
      (c.in_ok-is_typed-in-Alias.ensures.value rs);
}

pub returns-in_ok-is_typed-in-Function : goal.returns-in_ok-is_typed-in-Function
returns-in_ok-is_typed-in-Function c = record {
  value = λ rs.
      subst (λ (i : Item). Before rs c.args.index (item_view i) c.args.numbers.now (env_of c.args.env.now) → Outcome c.in_ok-is_typed-in-Function.is_typed rs c.args.index (item_view i) (env_of c.function_named.new.env)) (sym c.in-Function.is)
      (c.in_ok-is_typed-in-Function.ensures.value rs);
}

pub returns-in-Variable : goal.returns-in-Variable
returns-in-Variable c = record {
  value = λ rs.
      let e = env_of c.args.env.now in
      subst (λ (i : Item). Before rs c.args.index (item_view i) c.args.numbers.now e → Outcome false rs c.args.index (item_view i) e) (sym c.in-Variable.is) (λ b. lost rs c.args.index _ c.args.numbers.now e e b refl refl);
}

pub returns-in-Init : goal.returns-in-Init
returns-in-Init c = record {
  value = λ rs.
      let e = env_of c.args.env.now in
      subst (λ (i : Item). Before rs c.args.index (item_view i) c.args.numbers.now e → Outcome false rs c.args.index (item_view i) e) (sym c.in-Init.is) (λ b. lost rs c.args.index _ c.args.numbers.now e e b refl refl);
}
