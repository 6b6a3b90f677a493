use Rattle.std.proofs.Common.{◌≡◌, ◌++◌, ◌∷◌, [], ◌+◌, List, Bool, sym, subst, rules}
use Rattle.go_is_sound.specs.Facts.{RowsKnown}
use Rattle.go_is_sound.proofs.FactLemmas.{no_rows_yet, rows_more}
use Rattle.go_is_sound.proofs.facts.rows_of.Goals as goal

pub types-init : goal.types-init
types-init c = (λ own. subst (λ (bs : List Bool). RowsKnown c.args.p.now bs 0) (sym c.new-found.ensures.items) (no_rows_yet c.args.p.now), λ d. d)

pub types-preserved : goal.types-preserved
types-preserved c =
    let p = c.args.p.now in
    let i = c.types.i in
    let b = c.in_ok-has_rows.has_rows in
    let e : c.push.new.self.items ≡ c.types.found.items ++ b ∷ [] = search rules in (
      λ own. subst (λ (bs : List Bool). RowsKnown p bs (i + 1)) (sym e) (rows_more p c.types.found.items i b (c.types.invariant.0 own) (c.in_ok-has_rows.ensures.known own)),
      λ d. c.in_ok-has_rows.ensures.declared (c.types.invariant.1 d),
    )

pub returns-in_err-has_rows-clause-declared : goal.returns-in_err-has_rows-clause-declared
returns-in_err-has_rows-clause-declared c = λ d. c.in_err-has_rows.ensures.declared (c.types.invariant.1 d)

pub returns-in_err-push-clause-declared : goal.returns-in_err-push-clause-declared
returns-in_err-push-clause-declared c = λ d. c.in_ok-has_rows.ensures.declared (c.types.invariant.1 d)
