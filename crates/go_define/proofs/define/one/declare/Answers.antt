use Rattle.std.proofs.Common.{sym, map}
use Rattle.std.specs.Prelude.{option_map}
use Rattle.go_type.specs.Levels.{tree_of}
use Rattle.go_core.specs.CoreView.{stmt_view, target_view}
use Rattle.go_calls.specs.Words.{types_of}
use Rattle.go_walk.specs.WalkView.{walk_of}
use Rattle.go_define.proofs.DefineLemmas.{stmts_by, target_by, moves_by}
use Rattle.go_define.proofs.define.one.declare.Goals as goal

pub declared-requires-clause-there : goal.declared-requires-clause-there
declared-requires-clause-there c = λ ts. sym (c.there-at.ensures.value ts)

pub returns-in-Ok-clause-core : goal.returns-in-Ok-clause-core
returns-in-Ok-clause-core c = λ ts k. stmts_by c.args.n.now (option_map (tree_of (types_of c.args.walk.now.env)) c.args.ty) c.there-at.result (walk_of ts c.args.walk.now) (map (stmt_view ts) c.args.out.now.items) (map (stmt_view ts) c.declared.new.out.items) (c.there-at.ensures.value ts) (c.in-Ok.ensures.core ts k)

pub returns-in-Ok-clause-target : goal.returns-in-Ok-clause-target
returns-in-Ok-clause-target c = λ ts k. target_by c.args.n.now (option_map (tree_of (types_of c.args.walk.now.env)) c.args.ty) c.there-at.result (walk_of ts c.args.walk.now) (target_view ts c.in-Ok.target) (c.there-at.ensures.value ts) (c.in-Ok.ensures.target ts k)

pub returns-in-Ok-clause-walk : goal.returns-in-Ok-clause-walk
returns-in-Ok-clause-walk c = moves_by c.args.n.now (option_map (tree_of (types_of c.args.walk.now.env)) c.args.ty) c.there-at.result c.args.walk.now c.declared.new.walk c.there-at.ensures.value c.in-Ok.ensures.walk
