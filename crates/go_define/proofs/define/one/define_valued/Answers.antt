use Rattle.std.proofs.Common.{◌∙◌, ap, map, Option}
use Rattle.std.specs.Prelude.{option_map}
use Rattle.go_type.specs.Tree.{Ty}
use Rattle.go_type.specs.Levels.{tree_of}
use Rattle.go_core.specs.CoreView.{stmt_view, target_view}
use Rattle.go_operands.specs.AnswerView.{answer_view}
use Rattle.go_calls.specs.Words.{types_of}
use Rattle.go_typing.specs.Expressions.{type_of}
use Rattle.go_walk.specs.WalkView.{walk_of}
use Rattle.go_define.specs.FreshView.{new_spot}
use Rattle.go_define.specs.Defining.{spot_target}
use Rattle.go_define.proofs.DefineLemmas.{stmts_at, target_at, moves_at}
use Rattle.go_define.proofs.define.one.define_valued.Goals as goal

pub returns-in-Ok-and_target-clause-core : goal.returns-in-Ok-and_target-clause-core
returns-in-Ok-and_target-clause-core c =
    let vs = types_of c.args.walk.now.env in
    λ ts k. stmts_at c.args.n.now (walk_of ts c.args.walk.now) (map (stmt_view ts) c.args.out.now.items) (map (stmt_view ts) c.declare.new.out.items) (option_map (tree_of vs) c.type_of-ty.result) (type_of (answer_view vs c.args.valued.answer)) c.type_of-ty.ensures.value (c.in-Ok-declare.ensures.core ts k)

pub returns-in-Ok-and_target-clause-targets : goal.returns-in-Ok-and_target-clause-targets
returns-in-Ok-and_target-clause-targets c = λ ts k.
    target_at ts c.args.targets.now.items c.and_target.new.items.items c.in-Ok-declare.target _ c.in-Ok-and_target.ensures.items
    (c.in-Ok-declare.ensures.target ts k ∙ ap (λ (o : Option Ty). spot_target (walk_of ts c.args.walk.now) (new_spot c.args.n.now) o) c.type_of-ty.ensures.value)

pub returns-in-Ok-and_target-clause-walk : goal.returns-in-Ok-and_target-clause-walk
returns-in-Ok-and_target-clause-walk c =
    let vs = types_of c.args.walk.now.env in
    moves_at c.args.n.now c.args.walk.now c.declare.new.walk (option_map (tree_of vs) c.type_of-ty.result) (type_of (answer_view vs c.args.valued.answer)) c.type_of-ty.ensures.value c.in-Ok-declare.ensures.walk
