use Rattle.std.proofs.Common.{◌≡◌, sym, subst, None}
use Rattle.std.specs.Prelude.{Option}
use Rattle.go_type.specs.declared.types.TypeId.{TypeId}
use Rattle.go_typing.specs.Signature.{bound_name}
use Rattle.go_walk.specs.WalkView.{walk_of}
use Rattle.go_decls.specs.Bound.{type_view}
use Rattle.go_decls.proofs.params.bound.declare.Goals as goal

pub returns-in_ok-name-in-None-clause-value : goal.returns-in_ok-name-in-None-clause-value
returns-in_ok-name-in-None-clause-value c = λ ts keeps.
    subst (λ (o : Option TypeId). walk_of ts c.name.new.walk ≡ bound_name c.args.n.now (type_view ts o) None (walk_of ts c.args.walk.now)) (sym c.in-None.is) (c.in_ok-name-in-None.ensures.value ts)
