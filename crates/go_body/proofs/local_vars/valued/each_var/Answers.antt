use Rattle.std.proofs.Common.{arith, sym, subst, drop}
use Rattle.go_type.specs.Table.{size}
use Rattle.go_type.specs.declared.table.TypeTable.{TypeTable}
use Rattle.go_expr.specs.Raw.{RawsBelow}
use Rattle.go_assign.specs.SpecView.{SpecBelow}
use Rattle.go_body.proofs.NameLemmas.{each_step, each_stop, each_end}
use Rattle.go_body.proofs.local_vars.valued.each_var.Goals as goal

pub one_var-requires-clause-depth : goal.one_var-requires-clause-depth
one_var-requires-clause-depth c = let d = c.loop-n.invariant.defines.depth in let r = c.requires.depth in omega (arith, d, r)

pub one_var-requires-clause-spec : goal.one_var-requires-clause-spec
one_var-requires-clause-spec c = subst (λ (t : TypeTable). SpecBelow (size t) c.args.s) (sym c.loop-n.invariant.defines.table) c.requires.spec

pub loop-n-preserved : goal.loop-n-preserved
loop-n-preserved c =
    let x = c.in_ok-one_var-in-Some.ensures.names in
    record {
      defines = each_step c.args.s c.args.names.now c.loop-n.n-index c.n-item.result c.in-Some.raw c.args.raws.now c.loop-n.raws c.next_raw.new.raws c.args.walk.now c.loop-n.walk c.one_var.new.walk c.args.flaws.now.items c.loop-n.flaws.items c.one_var.new.flaws.items
          c.args.out.now.items c.loop-n.out.items c.one_var.new.out.items c.loop-n.targets.items c.one_var.new.targets.items c.loop-n.values.items c.one_var.new.values.items c.loop-n-test.true c.n-item.is c.in-Some.ensures.view c.loop-n.invariant.defines x;
      within = subst (λ (t : TypeTable). RawsBelow (size t) c.next_raw.new.raws) (sym x.table) c.next_raw.ensures.within;
    }

pub returns-in-None : goal.returns-in-None
returns-in-None c =
    record {
      defines = each_stop c.args.s c.args.names.now (drop c.loop-n.n-index c.args.names.now) c.args.raws.now c.loop-n.raws c.args.walk.now c.loop-n.walk c.args.flaws.now.items c.loop-n.flaws.items c.args.out.now.items c.loop-n.out.items c.loop-n.targets.items c.loop-n.values.items
          c.in-None.ensures.view c.loop-n.invariant.defines;
    }

pub returns : goal.returns
returns c =
    record {
      defines = each_end c.args.s c.args.names.now c.loop-n.n-index c.args.raws.now c.loop-n.raws c.args.walk.now c.loop-n.walk c.args.flaws.now.items c.loop-n.flaws.items c.args.out.now.items c.loop-n.out.items c.loop-n.targets.items c.loop-n.values.items
          c.loop-n-test.false c.loop-n.invariant.defines;
    }
