use Rattle.std.proofs.Common.{subst, List, map}
use Rattle.go_syntax.specs.Tree as t
use Rattle.go_syntax.specs.View.{type_spec_view, value_spec_view, joined}
use Rattle.go_syntax.specs.declared.tree.TypeSpec.{TypeSpec}
use Rattle.go_syntax.specs.declared.tree.ValueSpec.{ValueSpec}
use Rattle.go_typing.specs.Declare.{const_specs, type_specs}
use Rattle.go_assign.specs.Outcome.{Does}
use Rattle.go_body.proofs.DeclLemmas.{const_does, types_does, func_does}
use Rattle.go_body.proofs.local.decl.decl.Goals as goal

pub returns-in_ok-const_specs-in-Const : goal.returns-in_ok-const_specs-in-Const
returns-in_ok-const_specs-in-Const c =
    let d = c.args.d.now in
    let o = c.args.out.now.items in
    record {
      does = const_does d c.deref.result.now c.in-Const.specs c.args.walk.now c.const_specs.new.walk c.args.flaws.now.items c.const_specs.new.flaws.items o o c.deref.ensures c.in-Const.is
          (subst (λ (vs : List ValueSpec). Does (const_specs d.place 0 t.NoExpr t.NoExprs (joined (map value_spec_view vs) t.NoValues)) c.args.walk.now c.const_specs.new.walk c.args.flaws.now.items c.const_specs.new.flaws.items o o) c.as_slice.ensures.value (c.in_ok-const_specs-in-Const.ensures.does o));
    }

pub returns-in_ok-type_specs-in-TypeDecl : goal.returns-in_ok-type_specs-in-TypeDecl
returns-in_ok-type_specs-in-TypeDecl c =
    let d = c.args.d.now in
    let o = c.args.out.now.items in
    record {
      does = types_does d c.deref.result.now c.in-TypeDecl.specs c.args.walk.now c.type_specs.new.walk c.args.flaws.now.items c.type_specs.new.flaws.items o o c.deref.ensures c.in-TypeDecl.is
          (subst (λ (vs : List TypeSpec). Does (type_specs (joined (map type_spec_view vs) t.NoTypes)) c.args.walk.now c.type_specs.new.walk c.args.flaws.now.items c.type_specs.new.flaws.items o o) c.as_slice-in-TypeDecl.ensures.value (c.in_ok-type_specs-in-TypeDecl.ensures.does o));
    }

pub returns-in_ok-refused-in-Func : goal.returns-in_ok-refused-in-Func
returns-in_ok-refused-in-Func c =
    let o = c.args.out.now.items in
    record {
      does = func_does c.args.d.now c.deref.result.now c.in-Func.field-0 c.in-Func.field-1 c.in-Func.field-2 c.in-Func.field-3 c.args.walk.now c.args.walk.now c.args.flaws.now.items c.refused.new.flaws.items o o c.deref.ensures c.in-Func.is (c.in_ok-refused-in-Func.ensures.does o);
    }
