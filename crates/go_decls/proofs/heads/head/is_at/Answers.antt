use Rattle.std.proofs.Common.{◌∙◌, sym, ap}
use Rattle.std.specs.Prelude.{Option}
use Rattle.gj_base.specs.declared.place.Place.{Place}
use Rattle.go_typing.specs.Functions.{is_at}
use Rattle.go_decls.proofs.heads.head.is_at.Goals as goal

pub returns-in-Some : goal.returns-in-Some
returns-in-Some c = record { value = c.same_place.ensures.value ∙ sym (ap (λ (o : Option Place). is_at o c.args.at) c.in-Some.is) }

pub returns-in-None : goal.returns-in-None
returns-in-None c = record { value = sym (ap (λ (o : Option Place). is_at o c.args.at) c.in-None.is) }
