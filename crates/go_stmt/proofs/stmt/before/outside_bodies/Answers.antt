use Rattle.std.proofs.Common.{ap, map, subst, ◌++◌, ◌∙◌}
use Rattle.std.specs.Prelude.{Option}
use Rattle.gj_base.specs.declared.place.Place.{Place}
use Rattle.go_operands.specs.AnswerView.{flaw_view}
use Rattle.go_decls.specs.HeadView.{AreReady}
use Rattle.go_decls.specs.Heads.{heads_from}
use Rattle.go_items.specs.ItemView.{decls_of}
use Rattle.go_typing.specs.Checked.{known_in, first_too_far}
use Rattle.go_typing.specs.Told.{decls_told}
use Rattle.go_operands.specs.EnvView.{table_of}
use Rattle.go_typing.specs.Walk.{Walk}
use Rattle.go_syntax.specs.View.{file_view}
use Rattle.go_walk.specs.WalkView.{walk_outside}
use Rattle.go_stmt.proofs.CheckLemmas.{grown, grows_on, is_outside}
use Rattle.go_stmt.proofs.stmt.before.outside_bodies.Goals as goal

pub decls_told-requires : goal.decls_told-requires
decls_told-requires c = record { none = c.requires.stands.iota }

pub returns : goal.returns
returns c =
    let ds = decls_of (map file_view c.args.files.now) in
    let k = known_in ds in
    let a = c.args.env.now in
    let b = c.decls_told.new.env in
    let d = c.heads.new.env in
    let old = map flaw_view c.args.flaws.now.items in
    let first = c.in_ok-decls_told.ensures.grows in
    let then_ = c.in_ok-all.ensures.grows in
    let outside_b = is_outside k b (grown k a b first c.requires.stands) in
    record {
      stands = grown k a d (grows_on a b d first then_) c.requires.stands;
      told = c.in_ok-decls_told.ensures.told ∙ ap (λ (w : Walk). old ++ decls_told w ds) (is_outside k a c.requires.stands);
      view = λ ts keeps.
          c.in_ok-all.ensures.view ts keeps ∙ ap (λ (o : Option Place). heads_from o (walk_outside b) ds) c.first_too_far-far.ensures.value ∙ ap (λ (w : Walk). heads_from (first_too_far ds) w ds) outside_b;
      ready = subst (λ (w : Walk). AreReady (table_of d) w c.in_ok-all.all.items) outside_b c.in_ok-all.ensures.ready;
      grows = grows_on a b d first then_;
    }
