-- A plain package: nothing is told, and its program prints its texts.
use Rattle.std.proofs.Common.{◌≡◌, ℕ, List, [], ◌∷◌, ◌++◌, ◌==◌, true, false, refl, sym, ap, subst, ◌∙◌}
use Rattle.std.specs.Prelude.{Some, None, codes}
use Rattle.gj_base.specs.declared.place.Place.{Place}
use Rattle.go_syntax.specs.Tree as t
use Rattle.go_syntax.specs.declared.tree.Name.{Name}
use Rattle.go_type.specs.Tree.{no_tys}
use Rattle.go_typing.specs.Answer.{Flaw}
use Rattle.go_typing.specs.Walk.{Around, Did, body, unused}
use Rattle.go_typing.specs.Labels.{labels_in_all, branches_in_all, label_flaws}
use Rattle.go_typing.specs.Statements.{stmts, where_whole, flaw_places}
use Rattle.go_typing.specs.Checked.{told, or_generated, program_of}
use Rattle.gj_plain.specs.Plain.{Main, is_bare, texts_of, main_in}
use Rattle.js_prints.specs.Lines.{print_lines}
use Rattle.js_prints.specs.Prints.{all_print, only_prints}
use Rattle.go_core.specs.CoreTree.{Stmts}
use Rattle.go_lines.specs.Lines.{PrintsLines}
use Rattle.go_lines.proofs.Forms.{a_main}
use Rattle.go_lines.proofs.Printed.{inner, line_stmts, bodies, prints}

-- the package whose one declaration is this `main`
abbrev package_of : Place → Place → t.Sig → Place → t.Stmts → Place → List t.Decl
package_of at name s opens ss closes = t.FuncDecl at (record { place = name; text = codes "main" }) s (t.BlockOf opens ss closes) ∷ []

-- what is around the statements of a function without results that has these labels and branches
abbrev around : List Name → List (List ℕ) → Around
around ls bs = record { results = Some no_tys; named_results = false; targets = []; label = None; wrong_labels = flaw_places (label_flaws [] ls bs); too_far = None }

-- what is told, by what comes of the statements, and their labels; of a whole without results nothing is told
abbrev told_with : Did → List Name → List (List ℕ) → List Flaw
told_with d ls bs =
    or_generated 1 ((d.flaws ++ label_flaws [] ls bs ++ unused d.walk.declared d.walk.used ++ where_whole (d.walk.lost == 0) (d.flaws ++ label_flaws [] ls bs ++ unused d.walk.declared d.walk.used) []) ++ [])

record IsRight (ds : List t.Decl) (texts : List (List ℕ)) : Type 0 where
  nothing : told ds ≡ []
  lines : PrintsLines (program_of ds) texts
  alone : only_prints (program_of ds) ≡ true

module _ (at name : Place) (opens closes : Place) (ss : t.Stmts) (texts : List (List ℕ)) (h : texts_of ss ≡ Some texts) where
  -- what comes of the statements
  abbrev d : Did
  d = stmts ss (around (labels_in_all ss) (branches_in_all ss)) (inner name [])

  by_did : (s : t.Sig) → told (package_of at name s opens ss closes) ≡ told_with d (labels_in_all ss) (branches_in_all ss) → PrintsLines (program_of (package_of at name s opens ss closes)) texts
      → only_prints (program_of (package_of at name s opens ss closes)) ≡ true → IsRight (package_of at name s opens ss closes) texts
  by_did s e l o =
      let r = prints ss texts (around (labels_in_all ss) (branches_in_all ss)) name [] h in
      record {
        nothing = e
            ∙ ap (λ (c : Did). told_with c (labels_in_all ss) (branches_in_all ss)) r.did
            ∙ ap (λ (ls : List Name). told_with (record { core = line_stmts texts; flaws = []; walk = inner name r.uses }) ls (branches_in_all ss)) r.labels
            ∙ ap (λ (bs : List (List ℕ)). told_with (record { core = line_stmts texts; flaws = []; walk = inner name r.uses }) [] bs) r.branches;
        lines = l;
        alone = o;
      }

  the_body : body d.core ≡ print_lines texts
  the_body = let r = prints ss texts (around (labels_in_all ss) (branches_in_all ss)) name [] h in ap (λ (c : Did). body c.core) r.did ∙ bodies texts

  printing : all_print (body d.core) ≡ true
  printing = let r = prints ss texts (around (labels_in_all ss) (branches_in_all ss)) name [] h in ap all_print the_body ∙ r.alone

  with_none : (p : Place) → IsRight (package_of at name (t.SigOf p t.NoParams t.NoResults) opens ss closes) texts
  with_none p = by_did (t.SigOf p t.NoParams t.NoResults) refl (record { function = _; found = refl; no_results = refl; captures_none = refl; lines = the_body }) printing

  with_list : (p q : Place) → IsRight (package_of at name (t.SigOf p t.NoParams (t.ManyResults q t.NoParams)) opens ss closes) texts
  with_list p q = by_did (t.SigOf p t.NoParams (t.ManyResults q t.NoParams)) refl (record { function = _; found = refl; no_results = refl; captures_none = refl; lines = the_body }) printing

  by_signature : (s : t.Sig) → is_bare s ≡ true → IsRight (package_of at name s opens ss closes) texts
  by_signature (t.SigOf p t.NoParams t.NoResults) b = with_none p
  by_signature (t.SigOf p t.NoParams (t.OneResult ty)) b = absurd (cc)
  by_signature (t.SigOf p t.NoParams (t.ManyResults q t.NoParams)) b = with_list p q
  by_signature (t.SigOf p t.NoParams (t.ManyResults q (t.MoreParams a n spread ty ps))) b = absurd (cc)
  by_signature (t.SigOf p (t.MoreParams a n spread ty ps) rs) b = absurd (cc)

whole : (ds : List t.Decl) (main : Main) → main_in ds ≡ Some main → IsRight ds main.texts
whole ds main h =
    let m = a_main ds main h in
    subst (λ (es : List t.Decl). IsRight es main.texts) (sym m.is) (by_signature m.at m.name m.opens m.closes m.stmts main.texts m.texts m.signature m.bare)

pub plain_is_right : (ds : List t.Decl) (main : Main) → main_in ds ≡ Some main → told ds ≡ []
plain_is_right ds main h = (whole ds main h).nothing

pub plain_prints : (ds : List t.Decl) (main : Main) → main_in ds ≡ Some main → PrintsLines (program_of ds) main.texts
plain_prints ds main h = (whole ds main h).lines

pub plain_only_prints : (ds : List t.Decl) (main : Main) → main_in ds ≡ Some main → only_prints (program_of ds) ≡ true
plain_only_prints ds main h = (whole ds main h).alone
