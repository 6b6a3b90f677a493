use Rattle.std.proofs.Common.{List, subst}
use Rattle.go_type.specs.Levels.{trees_of}
use Rattle.go_type.specs.declared.types.TypeId.{TypeId}
use Rattle.go_calls.specs.Words.{types_of, names_of}
use Rattle.go_expr.specs.Raw.{raws_view}
use Rattle.go_assign.specs.Outcome.{Does}
use Rattle.go_assign.specs.SpecView.{spec_view}
use Rattle.go_body.specs.LocalVarsSpecs.{var_several}
use Rattle.go_body.proofs.VarLemmas.{by_some, by_none}
use Rattle.go_body.proofs.local_vars.specs.by_types.Goals as goal

pub returns-in_ok-several_vars-in-Some : goal.returns-in_ok-several_vars-in-Some
returns-in_ok-several_vars-in-Some c =
    let a = c.args.walk.now in
    let ts = types_of a.env in
    let s = spec_view ts c.args.s in
    let rs = raws_view ts c.args.raws in
    record {
      does = by_some (names_of a.env) c.args.at s c.args.names.now rs ts c.args.types c.in-Some.types a c.several_vars.new.walk c.args.flaws.now.items c.several_vars.new.flaws.items c.args.out.now.items c.several_vars.new.out.items c.in-Some.is c.requires.several
          (subst (λ (is : List TypeId). Does (var_several c.args.at s c.args.names.now rs (trees_of ts is)) a c.several_vars.new.walk c.args.flaws.now.items c.several_vars.new.flaws.items c.args.out.now.items c.several_vars.new.out.items) c.as_slice.ensures c.in_ok-several_vars-in-Some.ensures.does);
    }

pub returns-in_ok-every_var-in-None : goal.returns-in_ok-every_var-in-None
returns-in_ok-every_var-in-None c =
    let a = c.args.walk.now in
    let ts = types_of a.env in
    record {
      does = by_none (names_of a.env) c.args.at (spec_view ts c.args.s) c.args.names.now (raws_view ts c.args.raws) ts c.args.types a c.every_var.new.walk c.args.flaws.now.items c.every_var.new.flaws.items c.args.out.now.items c.every_var.new.out.items c.in-None.is c.requires.several c.in_ok-every_var-in-None.ensures.does;
    }
