use Rattle.std.proofs.Common.{◌∙◌, sym}
use Rattle.go_decls.specs.SigView.{sig_found}
use Rattle.go_walk.specs.WalkView.{walk_outside}
use Rattle.go_decls.proofs.OwnLemmas.{far_here, far_main, far_other, far_away}
use Rattle.go_decls.proofs.heads.head.typed_far.Goals as goal

pub returns-then-main_takes : goal.returns-then-main_takes
returns-then-main_takes c = record {
  value = λ ts.
      far_main c.args.far (walk_outside c.args.env.now) c.args.at c.args.n.now (sig_found ts c.args.types.now) c.main_takes.result (sym c.is_at.ensures.value ∙ c.if-is_at.true) (sym c.is_own.ensures.value ∙ c.if-is_own.true)
      (c.main_takes.ensures.value ts) c.if-main_takes.true;
}

pub returns-then-is_own : goal.returns-then-is_own
returns-then-is_own c = record {
  value = λ ts.
      far_here c.args.far (walk_outside c.args.env.now) c.args.at c.args.n.now (sig_found ts c.args.types.now) c.main_takes.result (sym c.is_at.ensures.value ∙ c.if-is_at.true) (sym c.is_own.ensures.value ∙ c.if-is_own.true)
      (c.main_takes.ensures.value ts) c.if-main_takes.false;
}

pub returns-then-is_at : goal.returns-then-is_at
returns-then-is_at c = record {
  value = λ ts.
      far_other c.args.far (walk_outside c.args.env.now) c.args.at c.args.n.now (sig_found ts c.args.types.now) (sym c.is_at.ensures.value ∙ c.if-is_at.true) (sym c.is_own.ensures.value ∙ c.if-is_own.false);
}

pub returns : goal.returns
returns c = record { value = λ ts. far_away c.args.far (walk_outside c.args.env.now) c.args.at c.args.n.now (sig_found ts c.args.types.now) (sym c.is_at.ensures.value ∙ c.if-is_at.false) }
