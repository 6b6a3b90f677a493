-- Nodes from the parts that came last.
use Rattle.std.proofs.Common.{◌≡◌, ◌∙◌, refl, ap, List, [], ◌∷◌, ◌++◌, true, false, map}
use Rattle.gj_base.specs.declared.place.Place.{Place}
use Rattle.go_type.specs.Tree.{Ty}
use Rattle.go_typing.specs.Answer.{Answer, value, pending, type_, package_, built_in, blank, does, wrong, untyped_part, Part, own, is_known}
use Rattle.go_typing.specs.Typing.{paren_row}
use Rattle.go_operands.specs.declared.answers.answer.Flaw as code
use Rattle.go_operands.specs.AnswerView.{flaw_view}
use Rattle.go_operands.specs.declared.operands.part.Part as code_part
use Rattle.go_operands.specs.Parts.{part, part_view}
use Rattle.go_expr.specs.Stacked.{Hears, Takes, DoesOne}

-- ---- parentheses

pub paren_known : (a : Answer) → is_known a ≡ true → a ≡ paren_row a
paren_known (value c t v) h = refl
paren_known (pending p b) h = refl
paren_known (type_ t) h = refl
paren_known (package_ path) h = refl
paren_known (built_in b) h = refl
paren_known blank h = refl
paren_known (does s) h = refl
paren_known (wrong f fs) h = absurd (cc)
paren_known untyped_part h = refl

pub paren_unknown : (a : Answer) → is_known a ≡ false → untyped_part ≡ paren_row a
paren_unknown (value c t v) h = absurd (cc)
paren_unknown (pending p b) h = absurd (cc)
paren_unknown (type_ t) h = absurd (cc)
paren_unknown (package_ path) h = absurd (cc)
paren_unknown (built_in b) h = absurd (cc)
paren_unknown blank h = absurd (cc)
paren_unknown (does s) h = absurd (cc)
paren_unknown (wrong f fs) h = refl
paren_unknown untyped_part h = refl

-- ---- nodes

module _ (ts : List Ty) (at : Place) where
  pub did_one : (row : Part → Answer) (x : code_part.Part) (a : Answer) (old mid new : List code_part.Part) (before after : List code.Flaw)
      → Takes ts x old mid → a ≡ row (part_view ts x) → Hears ts at a mid new before after → DoesOne ts at row old new before after
  did_one row x a old mid new before after t e h =
      record {
        parts = λ rest y p.
            let s = t.split rest y p in
            h.parts ∙ ap (λ (zs : List Part). zs ++ part at a ∷ []) s.0 ∙ ap (λ (b : Answer). rest ++ part at b ∷ []) (e ∙ ap row s.1);
        flaws = λ rest y p. let s = t.split rest y p in h.flaws ∙ ap (λ (b : Answer). map flaw_view before ++ own b) (e ∙ ap row s.1);
      }
