use Rattle.std.proofs.Common.{refl, []}
use Rattle.std.specs.Prelude.{option_map}
use Rattle.go_syntax.specs.View.{expr_view, maybe_expr}
use Rattle.go_body.proofs.LeafLemmas.{tagged_does}
use Rattle.go_body.proofs.leaf.tagged.begin_tag.Goals as goal

pub tag_type-of-requires : goal.tag_type-of-requires
tag_type-of-requires c = record { below = (c.in-Ok.ensures.tag []).below }

pub returns-in-Ok-stored_tag : goal.returns-in-Ok-stored_tag
returns-in-Ok-stored_tag c = record {
  tagged = tagged_does (maybe_expr (option_map expr_view c.args.x.now)) c.args.walk.now c.tag_of.new.walk c.fresh.new.walk c.args.flaws.now.items c.tag_of.new.flaws.items c.args.out.now.items c.stored_tag.new.out.items c.in-Ok.tag c.tag_type-of.result (record { id = c.in-Ok-fresh.id; ty = c.in-Ok.tag.ty })
      c.in-Ok.ensures.tag c.in-Ok.ensures.told c.in-Ok.ensures.passes c.tag_type-of.ensures.value c.tag_type-of.ensures.below c.in-Ok-fresh.ensures.id c.in-Ok-fresh.ensures.value c.in-Ok-fresh.ensures.env refl c.in-Ok-stored_tag.ensures.core;
}
