-- The parts of an expression stand for it.
use Rattle.std.proofs.Common.{refl, List}
use Rattle.js_tree.specs.Script as tree
use Rattle.js_tree.specs.Script.{Expr, Exprs, no_exprs, expr}
use Rattle.js_code.specs.Places.{Table, place_of}
use Rattle.js_code.specs.Parts.{Part, number, string, boolean, null, name, unary, binary, both, either, choice, call, index, length_of, pop, char_code_at, substring, array, dictionary, decimal_of, from_char_code, no_more, more, one, several, as_expr, as_exprs, last}
use Rattle.js_code.specs.ExprParts.{with_expr, with_exprs}
use Rattle.js_code.specs.PartClauses.{Adds}
use Rattle.js_code.specs.PartLaws.{leaf, of_one, of_two, of_three}

mutual
  pub adds_expr : (t : Table) (ps : List Part) (e : Expr) → Adds t ps (with_expr t ps e) (one e)
  adds_expr t ps (tree.number at n) = leaf t ps (number at n) (one (tree.number at n)) refl tt refl
  adds_expr t ps (tree.string at s) = leaf t ps (string at s) (one (tree.string at s)) refl tt refl
  adds_expr t ps (tree.boolean at b) = leaf t ps (boolean at b) (one (tree.boolean at b)) refl tt refl
  adds_expr t ps (tree.null at) = leaf t ps (null at) (one (tree.null at)) refl tt refl
  adds_expr t ps (tree.name at x) = leaf t ps (name at x (place_of t x)) (one (tree.name at x)) refl refl refl
  adds_expr t ps (tree.dictionary at) = leaf t ps (dictionary at) (one (tree.dictionary at)) refl tt refl
  adds_expr t ps (tree.unary at op e) =
      let a = with_expr t ps e in
      of_one t ps a (one e) (unary at op (last a)) (λ x. one (tree.unary at op (as_expr x))) (adds_expr t ps e) refl tt refl
  adds_expr t ps (tree.length_of at e) =
      let a = with_expr t ps e in
      of_one t ps a (one e) (length_of at (last a)) (λ x. one (tree.length_of at (as_expr x))) (adds_expr t ps e) refl tt refl
  adds_expr t ps (tree.pop at e) =
      let a = with_expr t ps e in
      of_one t ps a (one e) (pop at (last a)) (λ x. one (tree.pop at (as_expr x))) (adds_expr t ps e) refl tt refl
  adds_expr t ps (tree.decimal_of at e) =
      let a = with_expr t ps e in
      of_one t ps a (one e) (decimal_of at (last a)) (λ x. one (tree.decimal_of at (as_expr x))) (adds_expr t ps e) refl tt refl
  adds_expr t ps (tree.from_char_code at e) =
      let a = with_expr t ps e in
      of_one t ps a (one e) (from_char_code at (last a)) (λ x. one (tree.from_char_code at (as_expr x))) (adds_expr t ps e) refl tt refl
  adds_expr t ps (tree.array at es) =
      let a = with_exprs t ps es in
      of_one t ps a (several es) (array at (last a)) (λ x. one (tree.array at (as_exprs x))) (adds_exprs t ps es) refl tt refl
  adds_expr t ps (tree.binary at op d e) =
      let a = with_expr t ps d in
      let b = with_expr t a e in
      of_two t ps a b (one d) (one e) (binary at op (last a) (last b)) (λ x y. one (tree.binary at op (as_expr x) (as_expr y))) (adds_expr t ps d) (adds_expr t a e) refl tt refl
  adds_expr t ps (tree.both at d e) =
      let a = with_expr t ps d in
      let b = with_expr t a e in
      of_two t ps a b (one d) (one e) (both at (last a) (last b)) (λ x y. one (tree.both at (as_expr x) (as_expr y))) (adds_expr t ps d) (adds_expr t a e) refl tt refl
  adds_expr t ps (tree.either at d e) =
      let a = with_expr t ps d in
      let b = with_expr t a e in
      of_two t ps a b (one d) (one e) (either at (last a) (last b)) (λ x y. one (tree.either at (as_expr x) (as_expr y))) (adds_expr t ps d) (adds_expr t a e) refl tt refl
  adds_expr t ps (tree.index at d e) =
      let a = with_expr t ps d in
      let b = with_expr t a e in
      of_two t ps a b (one d) (one e) (index at (last a) (last b)) (λ x y. one (tree.index at (as_expr x) (as_expr y))) (adds_expr t ps d) (adds_expr t a e) refl tt refl
  adds_expr t ps (tree.char_code_at at d e) =
      let a = with_expr t ps d in
      let b = with_expr t a e in
      of_two t ps a b (one d) (one e) (char_code_at at (last a) (last b)) (λ x y. one (tree.char_code_at at (as_expr x) (as_expr y))) (adds_expr t ps d) (adds_expr t a e) refl tt refl
  adds_expr t ps (tree.call at f es) =
      let a = with_expr t ps f in
      let b = with_exprs t a es in
      of_two t ps a b (one f) (several es) (call at (last a) (last b)) (λ x y. one (tree.call at (as_expr x) (as_exprs y))) (adds_expr t ps f) (adds_exprs t a es) refl tt refl
  adds_expr t ps (tree.choice at d e f) =
      let a = with_expr t ps d in
      let b = with_expr t a e in
      let c = with_expr t b f in
      of_three t ps a b c (one d) (one e) (one f) (choice at (last a) (last b) (last c)) (λ x y z. one (tree.choice at (as_expr x) (as_expr y) (as_expr z)))
      (adds_expr t ps d) (adds_expr t a e) (adds_expr t b f) refl tt refl
  adds_expr t ps (tree.substring at d e f) =
      let a = with_expr t ps d in
      let b = with_expr t a e in
      let c = with_expr t b f in
      of_three t ps a b c (one d) (one e) (one f) (substring at (last a) (last b) (last c)) (λ x y z. one (tree.substring at (as_expr x) (as_expr y) (as_expr z)))
      (adds_expr t ps d) (adds_expr t a e) (adds_expr t b f) refl tt refl

  pub adds_exprs : (t : Table) (ps : List Part) (es : Exprs) → Adds t ps (with_exprs t ps es) (several es)
  adds_exprs t ps no_exprs = leaf t ps no_more (several no_exprs) refl tt refl
  adds_exprs t ps (expr e es) =
      let b = with_exprs t ps es in
      let a = with_expr t b e in
      of_two t ps b a (several es) (one e) (more (last a) (last b)) (λ y x. several (expr (as_expr x) (as_exprs y))) (adds_exprs t ps es) (adds_expr t b e) refl tt refl
