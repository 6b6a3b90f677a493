use Rattle.go_type.specs.Table.{places}
use Rattle.go_is_sound.proofs.FactLemmas.{no_row}
use Rattle.go_is_sound.proofs.facts.are_marked.Goals as goal

pub returns : goal.returns
returns c = record { is = λ h k e r. no_row (places c.args.p.now.types) c.args.is_method.now c.args.p.now.methods.items.items (c.all_marked.ensures.is h) k e r }
