use Rattle.std.proofs.Common.{sym}
use Rattle.go_calls.specs.Words.{types_of}
use Rattle.go_assign.specs.Settled.{valued_view}
use Rattle.go_body.proofs.ConstLemmas.{one_does}
use Rattle.go_body.proofs.local_consts.names.told_constant.Goals as goal

pub declared_constant-requires-clause-there : goal.declared_constant-requires-clause-there
declared_constant-requires-clause-there c = λ ts. sym (c.there-at.ensures.value ts)

pub returns-in-Ok-declared_constant-clause-does : goal.returns-in-Ok-declared_constant-clause-does
returns-in-Ok-declared_constant-clause-does c =
    λ out.
    one_does c.args.n.now c.there-at.result (valued_view (types_of c.args.walk.now.env) c.args.valued) c.args.walk.now c.declared_constant.new.walk c.args.flaws.now.items c.redeclared.new.flaws.items c.move_flaws.new.flaws.items out c.there-at.ensures.value c.in-Ok.ensures.value c.in-Ok-move_flaws.ensures.told
    c.in-Ok-declared_constant.ensures.value c.in-Ok-declared_constant.ensures.depth c.in-Ok-declared_constant.ensures.table
