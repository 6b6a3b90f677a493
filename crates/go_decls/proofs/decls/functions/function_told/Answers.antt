use Rattle.std.proofs.Common.{◌∙◌, sym, map}
use Rattle.std.specs.Prelude.{option_map}
use Rattle.go_operands.specs.AnswerView.{flaw_view}
use Rattle.go_calls.specs.Words.{types_of}
use Rattle.go_assign.proofs.GrowLemmas.{grows_not}
use Rattle.go_decls.specs.SigView.{sig_found}
use Rattle.go_syntax.specs.View.{sig_view}
use Rattle.go_walk.specs.WalkView.{walk_outside}
use Rattle.go_decls.proofs.FunctionLemmas.{init_function, other_function}
use Rattle.go_decls.proofs.decls.functions.function_told.Goals as goal

pub returns-then-is_init : goal.returns-then-is_init
returns-then-is_init c = record {
  told =
      init_function c.args.at c.args.n.now (sig_view c.args.sig.now) (walk_outside c.args.env.now) (map flaw_view c.args.flaws.now.items) (map flaw_view c.and_flaw.new.flaws.items) (sym c.is_init.ensures.value ∙ c.if-is_init.true)
      c.in_ok-and_flaw.ensures.value;
  grows = grows_not c.args.env.now;
}

pub returns : goal.returns
returns c =
    let ts = types_of c.sig_types.new.env in
    record {
      told =
          other_function c.args.at c.args.n.now (sig_view c.args.sig.now) (walk_outside c.args.env.now) (option_map (sig_found ts) c.in_ok-types.types) (map flaw_view c.args.flaws.now.items) (map flaw_view c.sig_types.new.flaws.items)
          (map flaw_view c.main_told.new.flaws.items) (sym c.is_init.ensures.value ∙ c.if-is_init.false) c.in_ok-types.ensures.told c.in_ok-types.ensures.types (c.in_ok-main_told.ensures.told ts);
      grows = c.in_ok-types.ensures.grows;
    }
