use Rattle.go_stmt.proofs.stmt.before.hidden_type.Goals as goal

pub returns : goal.returns
returns c = record {
  tree = c.add.ensures.tree;
  within = c.add.ensures.within;
  grows = record { env = c.add.ensures.env; kept = c.add.ensures.kept; counts = c.add.ensures.counts.0 };
}
