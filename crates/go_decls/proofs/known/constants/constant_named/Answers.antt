use Rattle.std.proofs.Common.{sym, subst, refl, false}
use Rattle.std.specs.Prelude.{Option}
use Rattle.std.specs.Borrow.{Bor}
use Rattle.go_items.specs.ItemView.{type_in, value_of, values_in}
use Rattle.go_typing.specs.Items.{constant_item}
use Rattle.go_operands.specs.EnvView.{env_of}
use Rattle.go_syntax.specs.declared.tree.Expr.{Expr}
use Rattle.go_decls.specs.Before.{Before, Outcome}
use Rattle.go_decls.proofs.OutcomeLemmas.{lost}
use Rattle.go_decls.proofs.known.constants.constant_named.Goals as goal

pub returns-in_ok-is_typed-in-Some : goal.returns-in_ok-is_typed-in-Some
returns-in_ok-is_typed-in-Some c = record {
  value = λ rs.
      subst (λ (v : Option (Bor Expr)). Before rs c.args.index (constant_item c.args.n.now c.args.number (type_in c.args.spec) (value_of v) (values_in c.args.spec)) c.args.numbers.now (env_of c.args.env.now)
      → Outcome c.in_ok-is_typed-in-Some.is_typed rs c.args.index (constant_item c.args.n.now c.args.number (type_in c.args.spec) (value_of v) (values_in c.args.spec)) (env_of c.value_named.new.env)) (sym c.in-Some.is)
      (c.in_ok-is_typed-in-Some.ensures.value rs);
}

pub returns-in-None : goal.returns-in-None
returns-in-None c = record {
  value = λ rs.
      let e = env_of c.args.env.now in
      subst (λ (v : Option (Bor Expr)). Before rs c.args.index (constant_item c.args.n.now c.args.number (type_in c.args.spec) (value_of v) (values_in c.args.spec)) c.args.numbers.now e
      → Outcome false rs c.args.index (constant_item c.args.n.now c.args.number (type_in c.args.spec) (value_of v) (values_in c.args.spec)) e) (sym c.in-None.is)
      (λ b. lost rs c.args.index _ c.args.numbers.now e e b refl refl);
}
