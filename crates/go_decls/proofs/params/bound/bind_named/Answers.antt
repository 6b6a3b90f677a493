use Rattle.std.proofs.Common.{◌≡◌, subst}
use Rattle.std.specs.Prelude.{Some}
use Rattle.go_typing.specs.Signature.{bound}
use Rattle.go_syntax.specs.declared.tree.Name.{Name}
use Rattle.go_walk.specs.WalkView.{walk_of}
use Rattle.go_decls.specs.Bound.{type_view}
use Rattle.go_decls.proofs.params.bound.bind_named.Goals as goal

pub returns-clause-value : goal.returns-clause-value
returns-clause-value c = λ ts keeps.
    subst (λ (m : Name). walk_of ts c.bind_name.new.walk ≡ bound (Some m) (type_view ts c.args.ty) (walk_of ts c.args.walk.now)) c.in_ok-n.ensures.value (c.in_ok-bind_name.ensures.value ts keeps)
