use Rattle.std.proofs.Common.{◌∙◌, sym}
use Rattle.go_syntax.specs.View.{sig_view, block_view}
use Rattle.go_decls.proofs.HeadLemmas.{left_init, left_function}
use Rattle.go_decls.proofs.heads.heads.and_function.Goals as goal

pub returns-then-is_init : goal.returns-then-is_init
returns-then-is_init c = record {
  value = λ rest.
      left_init c.args.far c.args.env.now c.args.at c.args.n.now (sig_view c.args.sig.now) (block_view c.args.b.now) rest c.args.heads.now.items (sym c.is_init.ensures.value ∙ c.if-is_init.true);
}

pub returns : goal.returns
returns c = record {
  value = λ rest.
      left_function c.args.far c.args.env.now c.args.at c.args.n.now (sig_view c.args.sig.now) (block_view c.args.b.now) rest c.head_of.new.env c.args.heads.now.items c.push.new.self.items c.in_ok-one.one (sym c.is_init.ensures.value ∙ c.if-is_init.false)
      c.in_ok-push.ensures.items c.in_ok-one.ensures.view c.in_ok-one.ensures.ready c.in_ok-one.ensures.grows;
}
