use Rattle.std.proofs.Common.{sym}
use Rattle.go_calls.specs.Words.{types_of, names_of}
use Rattle.go_expr.specs.Raw.{raw_view}
use Rattle.go_assign.specs.Settled.{valued_view}
use Rattle.go_assign.specs.SpecView.{spec_view}
use Rattle.go_body.specs.LocalVarsSpecs.{raw_value}
use Rattle.go_body.proofs.NameLemmas.{names_valued}
use Rattle.go_body.proofs.local_vars.valued.one_var.Goals as goal

pub one_valued-requires-clause-there : goal.one_valued-requires-clause-there
one_valued-requires-clause-there c = λ ts. sym (c.there-at.ensures.value ts)

pub returns-in-Ok-one_valued : goal.returns-in-Ok-one_valued
returns-in-Ok-one_valued c =
    let a = c.args.walk.now in
    let ts = types_of a.env in
    let s = spec_view ts c.args.s in
    record {
      names = names_valued s c.args.n.now c.there-at.result (valued_view ts c.in-Ok-settled.valued) (raw_value (names_of a.env) s (raw_view ts c.args.raw)) a c.one_valued.new.walk c.args.flaws.now.items c.redeclared.new.flaws.items c.one_valued.new.flaws.items c.args.out.now.items c.one_valued.new.out.items
          c.args.targets.now.items c.one_valued.new.targets.items c.args.values.now.items c.one_valued.new.values.items c.there-at.ensures.value c.in-Ok-settled.ensures.view c.in-Ok.ensures.value c.in-Ok-one_valued.ensures.told c.in-Ok-one_valued.ensures.values c.in-Ok-one_valued.ensures.puts;
    }
