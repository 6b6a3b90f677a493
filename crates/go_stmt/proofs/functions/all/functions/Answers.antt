use Rattle.std.proofs.Common.{◌∙◌, sym, ap, subst, List}
use Rattle.std.proofs.lemmas.List.{reverse-reverse}
use Rattle.std.specs.Prelude.{[], reverse}
use Rattle.go_decls.specs.HeadView.{AreReady}
use Rattle.go_decls.specs.declared.heads.head.Head.{Head}
use Rattle.go_operands.specs.EnvView.{table_of}
use Rattle.go_walk.specs.WalkView.{walk_outside}
use Rattle.go_stmt.specs.Done.{FunctionsLeft}
use Rattle.go_stmt.proofs.DoneLemmas.{functions_last, keeps_past}
use Rattle.go_stmt.proofs.LoopLemmas.{turned_ready}
use Rattle.go_stmt.proofs.functions.all.functions.Goals as goal

pub all_functions-requires-clause-ready : goal.all_functions-requires-clause-ready
all_functions-requires-clause-ready c =
    let w = walk_outside c.args.walk.now.env in
    subst (AreReady (table_of c.args.walk.now.env) w) (sym c.reverse.ensures.items) (turned_ready (table_of c.args.walk.now.env) w c.args.heads.items c.requires.ready)

pub returns-in-Ok : goal.returns-in-Ok
returns-in-Ok c =
    let w = walk_outside c.args.walk.now.env in
    let all = c.args.heads.items in
    let first = c.args.walk.now in
    let last = c.all_functions.new.walk in
    let before = c.args.flaws.now.items in
    let now = c.all_functions.new.flaws.items in
    let done = c.all_functions.new.done.items in
    let left : FunctionsLeft w first [] all last before now done =
    subst (λ (hs : List Head). FunctionsLeft w first [] hs last before now done) (ap reverse c.reverse.ensures.items ∙ reverse-reverse all) c.in-Ok.ensures.left
    in
    record {
      funcs = λ ts q. (functions_last w first all last before now done ts q left).funcs;
      told = λ ts q. (functions_last w first all last before now done ts q left).told;
      between = λ ts q. (functions_last w first all last before now done ts q left).between;
      scopes = left.scopes;
      back = λ ts q. keeps_past (table_of first.env) (table_of last.env) ts left.kept left.counts q;
      counts = left.counts;
    }
