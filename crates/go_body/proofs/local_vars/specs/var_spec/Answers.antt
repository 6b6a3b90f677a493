use Rattle.go_syntax.specs.declared.tree.ValueSpec.{out-ValueSpec}
use Rattle.go_calls.specs.Words.{types_of}
use Rattle.go_expr.specs.Raw.{raws_view}
use Rattle.go_body.proofs.GivenLemmas.{spec_given}
use Rattle.go_body.proofs.local_vars.specs.var_spec.Goals as goal

pub returns-in_ok-given_vars-in-Ok : goal.returns-in_ok-given_vars-in-Ok
returns-in_ok-given_vars-in-Ok c =
    let v = out-ValueSpec c.args.spec.now in
    record {
      does = spec_given c.args.at c.as_slice-names.result.now v.names.items v.ty c.as_slice-values.result.now v.values.items c.in_ok-s.s (raws_view (types_of c.raws_used.new.walk.env) c.in-Ok.raws) c.args.walk.now c.told_spec.new.walk c.use_type.new.walk c.raws_used.new.walk c.given_vars.new.walk
          c.args.flaws.now.items c.told_spec.new.flaws.items c.given_vars.new.flaws.items c.args.out.now.items c.given_vars.new.out.items c.as_slice-names.ensures.value c.as_slice-values.ensures.value c.in_ok-s.ensures.view c.in_ok-s.ensures.below c.in_ok-s.ensures.told c.in_ok-s.ensures.stays
          c.in_ok-use_type.ensures.moves c.use_type.ensures.env c.in-Ok.ensures.view c.in-Ok.ensures.passes c.in_ok-given_vars-in-Ok.ensures.does;
    }
