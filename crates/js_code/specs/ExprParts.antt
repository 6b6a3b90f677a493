-- Own: the parts of an expression, of which the last one stands for it.
use Rattle.std.specs.Prelude.{List}
use Rattle.js_tree.specs.Script as tree
use Rattle.js_tree.specs.Script.{Expr, Exprs, no_exprs, expr}
use Rattle.js_code.specs.Places.{Table, place_of}
use Rattle.js_code.specs.Parts.{Part, number, string, boolean, null, name, unary, binary, both, either, choice, call, index, length_of, pop, char_code_at, substring, array, dictionary, decimal_of, from_char_code, no_more, more, last, with_part}

abbrev mutual
  -- parts, and after them those of an expression
  pub with_expr : Table → List Part → Expr → List Part
  with_expr t ps (tree.number at n) = with_part ps (number at n)
  with_expr t ps (tree.string at s) = with_part ps (string at s)
  with_expr t ps (tree.boolean at b) = with_part ps (boolean at b)
  with_expr t ps (tree.null at) = with_part ps (null at)
  with_expr t ps (tree.name at x) = with_part ps (name at x (place_of t x))
  with_expr t ps (tree.unary at op e) = let a = with_expr t ps e in with_part a (unary at op (last a))
  with_expr t ps (tree.binary at op x y) =
      let a = with_expr t ps x in let b = with_expr t a y in with_part b (binary at op (last a) (last b))
  with_expr t ps (tree.both at x y) =
      let a = with_expr t ps x in let b = with_expr t a y in with_part b (both at (last a) (last b))
  with_expr t ps (tree.either at x y) =
      let a = with_expr t ps x in let b = with_expr t a y in with_part b (either at (last a) (last b))
  with_expr t ps (tree.choice at x y z) =
      let a = with_expr t ps x in let b = with_expr t a y in let c = with_expr t b z in with_part c (choice at (last a) (last b) (last c))
  with_expr t ps (tree.call at f es) =
      let a = with_expr t ps f in let b = with_exprs t a es in with_part b (call at (last a) (last b))
  with_expr t ps (tree.index at x y) =
      let a = with_expr t ps x in let b = with_expr t a y in with_part b (index at (last a) (last b))
  with_expr t ps (tree.length_of at e) = let a = with_expr t ps e in with_part a (length_of at (last a))
  with_expr t ps (tree.pop at e) = let a = with_expr t ps e in with_part a (pop at (last a))
  with_expr t ps (tree.char_code_at at x y) =
      let a = with_expr t ps x in let b = with_expr t a y in with_part b (char_code_at at (last a) (last b))
  with_expr t ps (tree.substring at x y z) =
      let a = with_expr t ps x in let b = with_expr t a y in let c = with_expr t b z in with_part c (substring at (last a) (last b) (last c))
  with_expr t ps (tree.array at es) = let a = with_exprs t ps es in with_part a (array at (last a))
  with_expr t ps (tree.dictionary at) = with_part ps (dictionary at)
  with_expr t ps (tree.decimal_of at e) = let a = with_expr t ps e in with_part a (decimal_of at (last a))
  with_expr t ps (tree.from_char_code at e) = let a = with_expr t ps e in with_part a (from_char_code at (last a))

  -- those of expressions in order, from the last one on
  pub with_exprs : Table → List Part → Exprs → List Part
  with_exprs t ps no_exprs = with_part ps no_more
  with_exprs t ps (expr e es) =
      let b = with_exprs t ps es in let a = with_expr t b e in with_part a (more (last a) (last b))

-- those of two expressions, from the left
abbrev pub with_two : Table → List Part → Expr → Expr → List Part
with_two t ps a b = with_expr t (with_expr t ps a) b

-- those of three
abbrev pub with_three : Table → List Part → Expr → Expr → Expr → List Part
with_three t ps a b c = with_expr t (with_two t ps a b) c
