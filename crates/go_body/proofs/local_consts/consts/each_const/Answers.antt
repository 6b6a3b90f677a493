use Rattle.std.proofs.Common.{arith, ◌∙◌, sym, subst, drop, []}
use Rattle.go_type.specs.Table.{size}
use Rattle.go_type.specs.declared.table.TypeTable.{TypeTable}
use Rattle.go_expr.specs.Raw.{RawsBelow}
use Rattle.go_assign.specs.SpecView.{SpecBelow}
use Rattle.go_body.proofs.StepLemmas.{each_step, each_stop, each_end}
use Rattle.go_body.proofs.local_consts.consts.each_const.Goals as goal

pub one_const-requires-clause-depth : goal.one_const-requires-clause-depth
one_const-requires-clause-depth c = let d = (c.loop-n.invariant.does []).depth in let r = c.requires.depth in omega (arith, d, r)

pub one_const-requires-clause-spec : goal.one_const-requires-clause-spec
one_const-requires-clause-spec c = subst (λ (t : TypeTable). SpecBelow (size t) c.args.s) (sym c.loop-n.invariant.table) c.requires.spec

pub loop-n-preserved : goal.loop-n-preserved
loop-n-preserved c =
    let x = c.in_ok-one_const-in-Some.ensures in
    record {
      does = λ out.
          each_step c.args.s c.args.names.now c.loop-n.n-index c.n-item.result c.in-Some.raw c.args.raws.now c.loop-n.raws c.next_raw.new.raws c.args.walk.now c.loop-n.walk c.one_const.new.walk c.args.flaws.now.items c.loop-n.flaws.items c.one_const.new.flaws.items out
          c.loop-n.invariant.table c.loop-n-test.true c.n-item.is c.in-Some.ensures.view (c.loop-n.invariant.does out) (x.does out);
      within = subst (λ (t : TypeTable). RawsBelow (size t) c.next_raw.new.raws) (sym x.table) c.next_raw.ensures.within;
      table = x.table ∙ c.loop-n.invariant.table;
    }

pub returns-in-None : goal.returns-in-None
returns-in-None c =
    record {
      does = λ out.
          each_stop c.args.s c.args.names.now (drop c.loop-n.n-index c.args.names.now) c.args.raws.now c.loop-n.raws c.args.walk.now c.loop-n.walk c.args.flaws.now.items c.loop-n.flaws.items out c.loop-n.invariant.table c.in-None.ensures.view (c.loop-n.invariant.does out);
    }

pub returns : goal.returns
returns c =
    record {
      does = λ out. each_end c.args.s c.args.names.now c.loop-n.n-index c.args.raws.now c.loop-n.raws c.args.walk.now c.loop-n.walk c.args.flaws.now.items c.loop-n.flaws.items out c.loop-n-test.false (c.loop-n.invariant.does out);
    }
