use Rattle.std.proofs.Common.{map}
use Rattle.go_core.specs.CoreView.{expr_view, stmt_view, target_view}
use Rattle.go_operands.specs.AnswerView.{flaw_view}
use Rattle.go_calls.specs.Words.{types_of, names_of}
use Rattle.go_walk.specs.WalkView.{walk_of}
use Rattle.go_expr.specs.Raw.{raw_view}
use Rattle.go_assign.specs.Settled.{valued_view, alone}
use Rattle.go_define.proofs.DefineLemmas.{core_same, target_same, value_same, told_same, moves_same}
use Rattle.go_define.proofs.define.one.define_new.Goals as goal

pub returns-in-Ok-define_valued-clause-core : goal.returns-in-Ok-define_valued-clause-core
returns-in-Ok-define_valued-clause-core c =
    let e = c.args.walk.now.env in
    λ ts k. core_same c.args.n.now (walk_of ts c.args.walk.now) (map (stmt_view ts) c.args.out.now.items) (map (stmt_view ts) c.define_valued.new.out.items) (valued_view (types_of e) c.in-Ok.valued) (alone (names_of e) (raw_view (types_of e) c.args.raw)) c.in-Ok.ensures.view (c.in-Ok-define_valued.ensures.core ts k)

pub returns-in-Ok-define_valued-clause-targets : goal.returns-in-Ok-define_valued-clause-targets
returns-in-Ok-define_valued-clause-targets c =
    let e = c.args.walk.now.env in
    λ ts k. target_same c.args.n.now (walk_of ts c.args.walk.now) (map (target_view ts) c.args.targets.now.items) (map (target_view ts) c.define_valued.new.targets.items) (valued_view (types_of e) c.in-Ok.valued) (alone (names_of e) (raw_view (types_of e) c.args.raw)) c.in-Ok.ensures.view (c.in-Ok-define_valued.ensures.targets ts k)

pub returns-in-Ok-define_valued-clause-values : goal.returns-in-Ok-define_valued-clause-values
returns-in-Ok-define_valued-clause-values c =
    let e = c.args.walk.now.env in
    λ ts k. value_same (map (expr_view ts) c.args.cores.now.items) (map (expr_view ts) c.define_valued.new.cores.items) (valued_view (types_of e) c.in-Ok.valued) (alone (names_of e) (raw_view (types_of e) c.args.raw)) c.in-Ok.ensures.view (c.in-Ok-define_valued.ensures.values ts k)

pub returns-in-Ok-define_valued-clause-told : goal.returns-in-Ok-define_valued-clause-told
returns-in-Ok-define_valued-clause-told c =
    let e = c.args.walk.now.env in
    told_same (map flaw_view c.args.flaws.now.items) (map flaw_view c.define_valued.new.flaws.items) (valued_view (types_of e) c.in-Ok.valued) (alone (names_of e) (raw_view (types_of e) c.args.raw)) c.in-Ok.ensures.view c.in-Ok-define_valued.ensures.told

pub returns-in-Ok-define_valued-clause-walk : goal.returns-in-Ok-define_valued-clause-walk
returns-in-Ok-define_valued-clause-walk c =
    let e = c.args.walk.now.env in
    moves_same c.args.n.now c.args.walk.now c.define_valued.new.walk (valued_view (types_of e) c.in-Ok.valued) (alone (names_of e) (raw_view (types_of e) c.args.raw)) c.in-Ok.ensures.view c.in-Ok-define_valued.ensures.walk
