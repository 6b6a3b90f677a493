use Rattle.std.proofs.Common.{◌∙◌, ap, sym, refl, ◌||◌, rules}
use Rattle.std.specs.Ordering.{int_eq}
use Rattle.std.proofs.lemmas.Int.{to_z-of_z}
use Rattle.std.specs.Int.{w128}
use mir.Val.{SFits}
use Rattle.indexmap.specs.IndexSet.{insert_key}
use Rattle.go_const.specs.declared.constant.Const.{Const}
use Rattle.go_typing.specs.Statements.{same_constant}
use Rattle.go_walk.specs.CasesHas.{has_const}
use Rattle.go_walk.proofs.CasesHasLemmas.{rune_in, number_in, text_in}
use Rattle.go_walk.proofs.cases.seen.ConstSet.insert.Goals as goal

pub returns-in_ok-insert-in-Int : goal.returns-in_ok-insert-in-Int
returns-in_ok-insert-in-Int c =
    let fits : SFits w128 c.in-Int.n = search rules in
    record {
      value = λ q.
          number_in q c.in-Int.n c.args.self.now (record c.args.self.now { numbers = c.insert.new.self }) refl refl
          (c.in_ok-insert-in-Int.ensures.keys ∙ ap (insert_key int_eq c.args.self.now.numbers.keys) (to_z-of_z w128 c.in-Int.n fits)) refl
          ∙ ap (λ (k : Const). same_constant q k || has_const q c.args.self.now) (sym c.in-Int.is);
    }

pub returns-in-Rune : goal.returns-in-Rune
returns-in-Rune c = record { value = λ q. rune_in q c.in-Rune.field-0 c.args.self.now ∙ ap (λ (k : Const). same_constant q k || has_const q c.args.self.now) (sym c.in-Rune.is) }

pub returns-in_ok-insert-in-Text : goal.returns-in_ok-insert-in-Text
returns-in_ok-insert-in-Text c = record {
  value = λ q.
      text_in q c.in-Text.text c.args.self.now (record c.args.self.now { texts = c.insert-in-Text.new.self }) refl refl refl c.in_ok-insert-in-Text.ensures.keys
      ∙ ap (λ (k : Const). same_constant q k || has_const q c.args.self.now) (sym c.in-Text.is);
}
