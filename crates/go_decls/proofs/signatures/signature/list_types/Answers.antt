use Rattle.std.proofs.Common.{◌≡◌, ◌∙◌, sym, ap, subst, List, map}
use Rattle.std.specs.Prelude.{Option, Vec, option_map}
use Rattle.std.specs.declared.alloc.Global.{Global}
use Rattle.go_operands.specs.AnswerView.{flaw_view}
use Rattle.go_calls.specs.Words.{types_of}
use Rattle.go_items.specs.ParamView.{grouped_view}
use Rattle.go_decls.specs.Bound.{type_view, TypesBelow}
use Rattle.go_operands.specs.EnvView.{table_of}
use Rattle.go_type.specs.Levels.{trees_of}
use Rattle.go_type.specs.Table.{size}
use Rattle.go_type.specs.declared.types.TypeId.{TypeId}
use Rattle.go_walk.specs.WalkView.{walk_outside}
use Rattle.go_decls.specs.SigView.{all_of}
use Rattle.go_decls.proofs.SigLemmas.{list_types, list_told}
use Rattle.go_decls.proofs.signatures.signature.list_types.Goals as goal

pub returns : goal.returns
returns c =
    let ts = types_of c.types_of.new.env in
    let w = walk_outside c.args.env.now in
    let ps = map grouped_view c.args.params.now in
    let us = map (type_view ts) c.in_ok-each.each.items in
    let o = option_map (λ (v : Vec TypeId Global). trees_of ts v.items) c.in_ok-all.all in
    let value : o ≡ all_of us = c.in_ok-all.ensures.value ts ∙ ap (λ (xs : List (Option TypeId)). all_of (map (type_view ts) xs)) c.as_slice.ensures.value in
    record {
      told =
          list_told w c.args.at ps (map flaw_view c.args.flaws.now.items) (map flaw_view c.types_of.new.flaws.items) (map flaw_view c.mixed_told.new.flaws.items) us o c.in_ok-each.ensures.types value c.in_ok-each.ensures.told
          (c.in_ok-mixed_told.ensures.told ts);
      types = list_types w ps us o c.in_ok-each.ensures.types value;
      within =
          c.in_ok-all.ensures.within (size (table_of c.types_of.new.env)) (subst (TypesBelow (size (table_of c.types_of.new.env))) (sym c.as_slice.ensures.value) c.in_ok-each.ensures.within);
      grows = c.in_ok-each.ensures.grows;
    }
