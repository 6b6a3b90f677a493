use Rattle.std.proofs.Common.{arith, ◌≤◌, ◌+◌, ◌-◌, ap, ◌∙◌, sym, length, take, drop, Some, length-drop}
use Rattle.std.proofs.lemmas.List.{take_all}
use Rattle.std.proofs.lemmas.Slice.Eq.{bytes_eq-Decides}
use Rattle.gj_base.proofs.FolderLemmas.{under_at, not_under, lies}
use Rattle.gj_base.proofs.file_tree.rest_under.Goals as goal
use Rattle.gj_base.proofs.file_tree.rest_under.Goals.{else-end-path-via-then-end-path+then-path-end-eq47+else-eq, else-end-path-via-then-end-path+else-path-end-eq47, else-end-path-via-else-end-path}

pub returns-then-eq : goal.returns-then-eq
returns-then-eq c =
    let folder = c.args.folder.now in
    let path = c.args.path.now in
    let begins = (bytes_eq-Decides (take (length folder) path) folder).0 (sym c.if-eq.ensures) in
    let fits : length (drop (length folder + 1) path) ≤ length path - (length folder + 1) = omega (arith, length-drop (length folder + 1) path) in
    ap (λ text. Some text) (take_all (length path - (length folder + 1)) (drop (length folder + 1) path) fits)
    ∙ sym (under_at folder path c.if-end-path.true c.if-path-end-eq47.true begins)

pub returns-else-end-path : goal.returns-else-end-path
returns-else-end-path c =
    let folder = c.args.folder.now in
    let path = c.args.path.now in
    sym (not_under folder path (λ rest is.
    let under = lies folder path rest is in
    elim c.else-end-path.branch [
      | else-end-path-via-then-end-path+then-path-end-eq47+else-eq w ↦
          let begins = (bytes_eq-Decides (take (length folder) path) folder).1 under.begins in
          let differs = w.if-eq.ensures in cc
      | else-end-path-via-then-end-path+else-path-end-eq47 w ↦ w.if-path-end-eq47.false under.at_end
      | else-end-path-via-else-end-path w ↦ let inside = under.inside in omega arith
    ]))
