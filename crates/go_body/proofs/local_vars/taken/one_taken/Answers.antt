use Rattle.std.proofs.Common.{sym}
use Rattle.std.specs.Prelude.{option_map}
use Rattle.go_type.specs.Levels.{tree_of}
use Rattle.go_calls.specs.Words.{types_of}
use Rattle.go_assign.specs.SpecView.{spec_view}
use Rattle.go_body.proofs.NameLemmas.{names_taken}
use Rattle.go_body.proofs.local_vars.taken.one_taken.Goals as goal

pub put-requires-clause-there : goal.put-requires-clause-there
put-requires-clause-there c = λ ts. sym (c.there-at.ensures.value ts)

pub returns-in-Ok-put : goal.returns-in-Ok-put
returns-in-Ok-put c =
    let a = c.args.walk.now in
    let ts = types_of a.env in
    record {
      names = names_taken (spec_view ts c.args.s) c.args.n.now (tree_of ts c.args.t) (option_map (tree_of ts) c.one_type-ty.result) c.fits-well.result c.args.place c.there-at.result a c.put.new.walk c.args.flaws.now.items c.redeclared.new.flaws.items c.told_unless.new.flaws.items c.args.out.now.items c.put.new.out.items
          c.args.targets.now.items c.put.new.targets.items c.there-at.ensures.value c.in-Ok.ensures.value c.fits-well.ensures.value c.in-Ok-told_unless.ensures.told c.one_type-ty.ensures.value c.in-Ok-put.ensures.puts;
    }
