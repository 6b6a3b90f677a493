use Rattle.std.proofs.Common.{◌∙◌, ap, [], option_map}
use Rattle.std.specs.Prelude.{ℤ, pos}
use Rattle.go_const.specs.declared.constant.Const.TheVariants as form
use Rattle.go_type.specs.Table.{size}
use Rattle.go_typing.specs.Literal as go
use Rattle.go_typing.specs.Operand.{untyped_constant}
use Rattle.go_operands.specs.EnvView.{table_of}
use Rattle.go_expr.proofs.LiteralLemmas.{whole_fits, none_some}
use Rattle.go_expr.proofs.parts.leaf.int.Goals as goal

pub hear-requires-clause-answer : goal.hear-requires-clause-answer
hear-requires-clause-answer c = c.in-Some.ensures.within (size (table_of c.args.env.now))

pub unreachable-requires : goal.unreachable-requires
unreachable-requires c =
    none_some (untyped_constant (form.Int (pos (go.int_value c.args.text.now))))
    (c.in-None.ensures.view [] ∙ ap (option_map (λ (z : ℤ). untyped_constant (form.Int z))) (whole_fits (go.int_value c.args.text.now) c.requires.number))
