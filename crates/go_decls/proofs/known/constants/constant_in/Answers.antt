use Rattle.go_items.specs.ItemView.{type_in}
use Rattle.go_syntax.specs.View.{expr_view}
use Rattle.go_calls.specs.Words.{types_of}
use Rattle.go_operands.specs.View.{decl_of}
use Rattle.go_walk.specs.WalkView.{walk_outside}
use Rattle.go_assign.specs.SpecView.{spec_view}
use Rattle.go_assign.proofs.GrowLemmas.{grows_on, same_walk}
use Rattle.go_decls.proofs.KnownConstantLemmas.{constant_is}
use Rattle.go_decls.proofs.known.constants.constant_in.Goals as goal

pub returns : goal.returns
returns c =
    let a = c.args.env.now in
    let b = c.type_of_spec.new.env in
    let d = c.constant_value.new.env in
    record {
      what =
          constant_is (walk_outside a) (walk_outside b) (type_in c.args.spec) (expr_view c.args.y.now) (spec_view (types_of b) c.in_ok-found.found.ty) (decl_of (types_of d) c.in_ok-constant.constant.what)
          (same_walk a b c.in_ok-found.ensures.grows) c.in_ok-found.ensures.ty c.in_ok-constant.ensures.what;
      within = c.in_ok-constant.ensures.within;
      grows = grows_on a b d c.in_ok-found.ensures.grows c.in_ok-constant.ensures.grows;
    }
