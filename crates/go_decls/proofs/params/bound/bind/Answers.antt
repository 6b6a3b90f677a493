use Rattle.std.proofs.Common.{◌≡◌, sym, ap, subst}
use Rattle.std.specs.Prelude.{Option, option_map}
use Rattle.go_items.specs.ParamView.{named_view}
use Rattle.go_items.specs.declared.items.param.Named.{Named}
use Rattle.go_typing.specs.Signature.{bound}
use Rattle.go_operands.specs.EnvView.{table_of}
use Rattle.go_walk.specs.WalkView.{walk_of}
use Rattle.go_decls.specs.Bound.{type_view}
use Rattle.go_decls.proofs.params.bound.bind.Goals as goal

pub returns-in_ok-bind_unnamed-in-None-clause-value : goal.returns-in_ok-bind_unnamed-in-None-clause-value
returns-in_ok-bind_unnamed-in-None-clause-value c = λ ts keeps.
    subst (λ (o : Option Named). walk_of ts c.bind_unnamed.new.walk ≡ bound (option_map named_view o) (type_view ts c.args.ty) (walk_of ts c.args.walk.now)) (sym c.in-None.is) (c.in_ok-bind_unnamed-in-None.ensures.value ts)

pub returns-in_ok-bind_unnamed-in-None-clause-table : goal.returns-in_ok-bind_unnamed-in-None-clause-table
returns-in_ok-bind_unnamed-in-None-clause-table c = ap table_of c.in_ok-bind_unnamed-in-None.ensures.env

pub returns-in_ok-bind_named-in-Some-clause-value : goal.returns-in_ok-bind_named-in-Some-clause-value
returns-in_ok-bind_named-in-Some-clause-value c = λ ts keeps.
    subst (λ (o : Option Named). walk_of ts c.bind_named.new.walk ≡ bound (option_map named_view o) (type_view ts c.args.ty) (walk_of ts c.args.walk.now)) (sym c.in-Some.is) (c.in_ok-bind_named-in-Some.ensures.value ts keeps)
