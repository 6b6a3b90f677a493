use Rattle.std.proofs.Common.{◌≡◌, ◌∙◌, sym, ap, List, [], ◌∷◌, ◌++◌, map, Option}
use Rattle.go_type.specs.Tree.{Ty}
use Rattle.go_core.specs.CoreTree.{Target}
use Rattle.go_core.specs.CoreView.{target_view}
use Rattle.go_calls.specs.Words.{types_of, names_of}
use Rattle.go_typing.specs.Walk as go
use Rattle.go_typing.specs.Expressions.{type_of}
use Rattle.go_walk.specs.WalkView.{walk_of}
use Rattle.go_expr.specs.Raw.{raw_view}
use Rattle.go_define.specs.declared.define.fresh.Fresh as code
use Rattle.go_define.specs.declared.define.fresh.Fresh.TheVariants as fresh
use Rattle.go_define.specs.FreshView.{fresh_view}
use Rattle.go_define.specs.Defining.{spot_target, spot_valued}
use Rattle.go_define.proofs.define.one.define_one.Goals as goal

-- by which name it is
spot_at : (vs : List Ty) (w : go.Walk) (o : Option Ty) (f g : code.Fresh) (before after : List Target) → f ≡ g → after ≡ before ++ spot_target w (fresh_view vs g) o ∷ [] → after ≡ before ++ spot_target w (fresh_view vs f) o ∷ []
spot_at vs w o f g before after p h = h ∙ ap (λ (x : code.Fresh). before ++ spot_target w (fresh_view vs x) o ∷ []) (sym p)

pub returns-in-Ok-define_blank-clause-targets : goal.returns-in-Ok-define_blank-clause-targets
returns-in-Ok-define_blank-clause-targets c =
    let e = c.args.walk.now.env in
    λ ts k. spot_at (types_of e) (walk_of ts c.args.walk.now) (type_of (spot_valued (names_of e) (fresh_view (types_of e) c.args.fresh) (raw_view (types_of e) c.args.raw)).answer) c.args.fresh fresh.Blank (map (target_view ts) c.args.targets.now.items) (map (target_view ts) c.define_blank.new.targets.items) c.in-Blank.is (c.in-Ok-define_blank.ensures.targets ts)

pub returns-in-Ok-define_blank-2-clause-targets : goal.returns-in-Ok-define_blank-2-clause-targets
returns-in-Ok-define_blank-2-clause-targets c =
    let e = c.args.walk.now.env in
    λ ts k. spot_at (types_of e) (walk_of ts c.args.walk.now) (type_of (spot_valued (names_of e) (fresh_view (types_of e) c.args.fresh) (raw_view (types_of e) c.args.raw)).answer) c.args.fresh fresh.Other (map (target_view ts) c.args.targets.now.items) (map (target_view ts) c.define_blank-in-Other.new.targets.items) c.in-Other.is (c.in-Ok-define_blank-2.ensures.targets ts)
