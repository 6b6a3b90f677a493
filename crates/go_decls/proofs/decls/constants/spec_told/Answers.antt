use Rattle.std.proofs.Common.{◌∙◌, ap, List, ◌++◌, map}
use Rattle.go_operands.specs.AnswerView.{flaw_view}
use Rattle.go_items.specs.ItemView.{type_in, values_in}
use Rattle.go_typing.specs.Told.{spec_told}
use Rattle.go_typing.specs.Walk.{Walk}
use Rattle.go_decls.proofs.DeclLemmas.{counted_walk, counted_grows}
use Rattle.go_decls.proofs.decls.constants.spec_told.Goals as goal

pub returns : goal.returns
returns c =
    let a = c.args.env.now in
    let b = c.count.new.self in
    record {
      told =
          c.in_ok-spec_in.ensures.told
          ∙ ap (λ (w : Walk). map flaw_view c.args.flaws.now.items ++ spec_told c.args.at w c.args.names.now (type_in c.args.source) (values_in c.args.source)) (counted_walk a b c.args.number c.requires.none c.count.ensures.value);
      grows =
          counted_grows a b c.spec_in.new.env c.count-2.new.self c.args.number c.requires.none c.count.ensures.value c.count.ensures.rest.0 c.in_ok-spec_in.ensures.grows c.count-2.ensures.value c.count-2.ensures.rest.0;
    }
