use Rattle.std.proofs.Common.{◌≡◌, ◌∙◌}
use Rattle.std.specs.Prelude.{length}
use Rattle.go_operands.specs.Held.{settle_held}
use Rattle.go_operands.proofs.HeldLemmas.{last-set-at}
use Rattle.go_operands.proofs.scopes.blocks.Blocks.settle.Goals as goal

pub returns : goal.returns
returns c =
    let count : c.len-last.result ≡ length c.args.self.now.scopes.items = c.len-last.ensures ∙ c.args.self.now.scopes.ok.0 in
    record {
      value = last-set-at (settle_held c.args.name.now c.args.what) c.args.self.now.scopes.items c.len-last.result c.settle.new.self
          c.index_mut.result.now c.requires count c.index_mut.ensures.value c.settle.ensures.value;
    }
