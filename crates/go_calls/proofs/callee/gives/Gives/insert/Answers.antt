use Rattle.std.proofs.Common.{◌∙◌, ℕ, ap, bytes_eq}
use Rattle.std.specs.Prelude.{Vec}
use Rattle.std.specs.Map.{lookup}
use Rattle.std.specs.declared.alloc.Global.{Global}
use Rattle.go_calls.proofs.GivesLemmas.{inserted_at}
use Rattle.go_calls.proofs.callee.gives.Gives.insert.Goals as goal

pub returns : goal.returns
returns c = record {
  value = λ y.
      ap (lookup (λ (k : Vec ℕ Global). bytes_eq y k.items)) c.in_ok-insert.ensures.entries
      ∙ inserted_at c.args.self.now.by_name.entries c.in_ok-key.key c.args.t c.args.name.now y (c.in_ok-key.ensures.items ∙ c.as_bytes.ensures);
}
