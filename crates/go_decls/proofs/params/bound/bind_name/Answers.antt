use Rattle.std.proofs.Common.{sym}
use Rattle.go_walk.specs.WalkView.{walk_of}
use Rattle.go_decls.specs.Bound.{type_view}
use Rattle.go_decls.proofs.BoundLemmas.{bound_there, bound_free}
use Rattle.go_decls.proofs.params.bound.bind_name.Goals as goal

pub declare-requires-clause-missing : goal.declare-requires-clause-missing
declare-requires-clause-missing c = λ ts. sym (c.in-None.ensures.value ts)

pub returns-in-Some-clause-value : goal.returns-in-Some-clause-value
returns-in-Some-clause-value c = λ ts keeps. bound_there c.args.n.now (type_view ts c.args.ty) _ (walk_of ts c.args.walk.now) (c.in-Some.ensures.value ts)

pub returns-in_ok-declare-in-None-clause-value : goal.returns-in_ok-declare-in-None-clause-value
returns-in_ok-declare-in-None-clause-value c = λ ts keeps. bound_free c.args.n.now (type_view ts c.args.ty) (walk_of ts c.args.walk.now) (walk_of ts c.declare.new.walk) (c.in-None.ensures.value ts) (c.in_ok-declare-in-None.ensures.value ts keeps)
