use Rattle.std.proofs.Common.{◌≡◌, ◌∙◌, ap}
use Rattle.std.specs.Prelude.{length}
use Rattle.go_operands.specs.Held.{place_held}
use Rattle.go_operands.proofs.HeldLemmas.{last-get-at}
use Rattle.go_operands.proofs.scopes.blocks.Blocks.place.Goals as goal

pub returns : goal.returns
returns c =
    let count : c.len-last.result ≡ length c.args.self.now.scopes.items = c.len-last.ensures ∙ c.args.self.now.scopes.ok.0 in
    record { value = c.place.ensures.value ∙ ap (place_held c.args.name.now) (last-get-at c.args.self.now.scopes.items c.len-last.result c.index.result.now c.requires count c.index.ensures) }
