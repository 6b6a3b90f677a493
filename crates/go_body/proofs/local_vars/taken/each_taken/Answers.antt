use Rattle.std.proofs.Common.{arith, ◌<◌, sym, subst, length, get_or}
use Rattle.go_type.specs.Table.{size}
use Rattle.go_type.specs.declared.types.TypeId.{TypeId}
use Rattle.go_type.specs.declared.table.TypeTable.{TypeTable}
use Rattle.go_operands.specs.EnvView.{table_of}
use Rattle.go_assign.specs.SpecView.{SpecBelow}
use Rattle.go_body.proofs.LeftLemmas.{id_in}
use Rattle.go_body.proofs.NameLemmas.{takes_step, takes_end}
use Rattle.go_body.proofs.local_vars.taken.each_taken.Goals as goal

abbrev no_type : TypeId
no_type = record { 0 = 0 }

pub one_taken-requires-clause-depth : goal.one_taken-requires-clause-depth
one_taken-requires-clause-depth c = let d = c.loop-i.invariant.depth in let r = c.requires.depth in omega (arith, d, r)

pub one_taken-requires-clause-spec : goal.one_taken-requires-clause-spec
one_taken-requires-clause-spec c = subst (λ (t : TypeTable). SpecBelow (size t) c.args.s) (sym c.loop-i.invariant.table) c.requires.spec

pub one_taken-requires-clause-below : goal.one_taken-requires-clause-below
one_taken-requires-clause-below c =
    let inside : c.loop-i.i < length c.args.types.now = let l = c.loop-i-test.true in let r = c.requires.count in omega (arith, l, r) in
    subst (λ (t : TypeTable). (get_or c.args.types.now c.loop-i.i no_type).0 < size t) (sym c.loop-i.invariant.table) (id_in (size (table_of c.args.walk.now.env)) c.args.types.now c.loop-i.i no_type c.requires.types inside)

pub loop-i-preserved : goal.loop-i-preserved
loop-i-preserved c =
    takes_step c.args.place c.args.s c.args.names.now c.args.types.now c.loop-i.i c.index-names-i.result no_type c.args.walk.now c.loop-i.walk c.one_taken.new.walk c.args.flaws.now.items c.loop-i.flaws.items c.one_taken.new.flaws.items c.args.out.now.items c.loop-i.out.items
    c.one_taken.new.out.items c.loop-i.targets.items c.one_taken.new.targets.items c.loop-i-test.true (let l = c.loop-i-test.true in let r = c.requires.count in omega (arith, l, r)) c.index-names-i.is c.loop-i.invariant c.in_ok-one_taken.ensures.names

pub returns : goal.returns
returns c =
    record {
      defines = takes_end c.args.place c.args.s c.args.names.now c.args.types.now _ c.loop-i.i c.args.walk.now c.loop-i.walk c.args.flaws.now.items c.loop-i.flaws.items c.args.out.now.items c.loop-i.out.items c.loop-i.targets.items c.loop-i-test.false c.loop-i.invariant;
    }
