use Rattle.std.proofs.Common.{sym}
use Rattle.std.specs.Prelude.{option_map}
use Rattle.go_type.specs.Levels.{tree_of}
use Rattle.go_calls.specs.Words.{types_of}
use Rattle.go_body.proofs.NameLemmas.{zero_done}
use Rattle.go_body.proofs.local_vars.zero.one_zero.Goals as goal

pub declared-requires-clause-there : goal.declared-requires-clause-there
declared-requires-clause-there c = λ ts. sym (c.there-at.ensures.value ts)

pub returns-in-Ok-declared-clause-does : goal.returns-in-Ok-declared-clause-does
returns-in-Ok-declared-clause-does c =
    let a = c.args.walk.now in
    zero_done c.args.n.now c.there-at.result (option_map (tree_of (types_of a.env)) c.args.ty) a c.declared.new.walk c.args.flaws.now.items c.redeclared.new.flaws.items c.args.out.now.items c.declared.new.out.items c.there-at.ensures.value c.in-Ok.ensures.value c.in-Ok-declared.ensures.core c.in-Ok-declared.ensures.walk c.declared.ensures.table
