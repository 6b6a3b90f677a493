-- How many functions stand in lists of declarations.
use Rattle.std.proofs.Common.{arith, ◌≡◌, ◌+◌, List, [], ◌∷◌, ◌++◌}
use Rattle.go_syntax.specs.Tree as tree
use Rattle.go_typing.specs.Checked.{count_functions}

pub count_more : (d : tree.Decl) (ds : List tree.Decl) → count_functions (d ∷ ds) ≡ count_functions (d ∷ []) + count_functions ds
count_more (tree.ConstDecl at vs) ds = omega arith
count_more (tree.TypeDecl at ts) ds = omega arith
count_more (tree.VarDecl at vs) ds = omega arith
count_more (tree.FuncDecl at n s b) ds = omega arith
count_more (tree.MethodDecl at p rs n s b) ds = omega arith

pub count_both : (ds es : List tree.Decl) → count_functions (ds ++ es) ≡ count_functions ds + count_functions es
count_both [] es = omega arith
count_both (d ∷ ds) es = omega (arith, count_more d (ds ++ es), count_more d ds, count_both ds es)
