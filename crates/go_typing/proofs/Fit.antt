-- The core of a typed node gives what the node is typed as.
use Rattle.std.proofs.Common.{◌≡◌, ℕ, List, [], ◌∷◌, ◌++◌, ◌&&◌, refl, sym, subst, IsTrue, Bool, true, false, Option, Some, None, if◌then◌else◌}
use Rattle.gj_base.specs.declared.place.Place.{Place}
use Rattle.gj_base.specs.declared.kind.Op.{Op}
use Rattle.gj_base.specs.declared.kind.Op.TheVariants as operator
use Rattle.go_const.specs.declared.constant.Const.{Const}
use Rattle.go_syntax.specs.Tree.{Expr, NameExpr, IntExpr, RuneExpr, StrExpr, ParenExpr, UnaryExpr, BinaryExpr, IndexExpr, SliceExpr, CallExpr, Exprs, NoExprs, MoreExprs}
use Rattle.go_syntax.specs.declared.tree.Prefix.{Prefix}
use Rattle.go_syntax.specs.declared.tree.Prefix.TheVariants as «prefix»
use Rattle.go_type.specs.Tree as ty
use Rattle.go_type.specs.Tree.{Ty, Tys}
use Rattle.go_type.specs.Named.{NamedTy}
use Rattle.go_typing.specs.Env.{Builtin, Complex, Imag, Real, Decl, variable, global, constant, type_name, function, imported, nil_value, refused, unknown, Bind, lookup, is_blank}
use Rattle.go_typing.specs.Env as env
use Rattle.go_typing.specs.Answer.{Answer, value, pending, type_, package_, built_in, blank, does, wrong, untyped_part, is_known, Part}
use Rattle.go_typing.specs.Operand.{Operand, single}
use Rattle.go_typing.specs.Wanted.{operands_of, operand_in}
use Rattle.go_typing.specs.Binary.{OpClass, Arithmetic, Comparison, Logical, binary_row}
use Rattle.go_typing.specs.Index.{is_known_bound, bound_no_value, edge_of}
use Rattle.go_typing.specs.Typing.{Callee, a_function, a_built_in, by_value, callee_of, declared_callee, declared_row, built_in_name, place_of, typing, bound_part, parts, paren_row, prefix_row, operator_row, call_row}
use Rattle.go_typing.specs.TypesFit.{is_constant_type, all_single, value_types, FitsDecl, FitsScopes, TypesFit}
use Rattle.go_typing.proofs.RightWords.{IsRight, right, OperandFits, right_operand, right_if, right_known, right_value, right_bad, unary_operand_right, shift_single_right}
use Rattle.go_typing.proofs.RightRows.{AllFit, AllRight, on_singles_right, index_right, slice_right, function_right, built_in_right, called_right}

constant_types : (t : Ty) (k : Const) → IsTrue (is_constant_type t) → value_types t (Some k) ≡ t ∷ []
constant_types (ty.untyped b) k h = refl
constant_types (ty.tuple ts) k h = let e : false ≡ true = h in cc
constant_types _ k h = refl

module _ (ns : List NamedTy) where
  built_in_name_right : (at : Place) (b : Builtin) → IsRight ns (built_in_name at b)
  built_in_name_right at Complex = right_bad ns _ _
  built_in_name_right at Imag = right_bad ns _ _
  built_in_name_right at Real = right_bad ns _ _
  built_in_name_right at _ = right ns _ tt

  abbrev DeclaresFit : Option Decl → Type 0
  DeclaresFit o = (d : Decl) → o ≡ Some d → FitsDecl d

  declared_right : (at : Place) (x : List ℕ) (o : Option Decl) → DeclaresFit o → IsRight ns (declared_row at x o)
  declared_right at x None f = right ns _ tt
  declared_right at x (Some (variable id t)) f = right_value ns _ t (f (variable id t) refl) refl
  declared_right at x (Some (global number t)) f = right_value ns _ t (f (global number t) refl) refl
  declared_right at x (Some (constant k t)) f = right ns _ (sym (constant_types t k (f (constant k t) refl)))
  declared_right at x (Some (type_name t)) f = right ns _ (f (type_name t) refl)
  declared_right at x (Some (function id ps rs v)) f = right_bad ns _ _
  declared_right at x (Some (imported path)) f = right ns _ tt
  declared_right at x (Some (env.built_in b)) f = built_in_name_right at b
  declared_right at x (Some nil_value) f = right ns _ refl
  declared_right at x (Some (refused code)) f = right_bad ns _ _
  declared_right at x (Some unknown) f = right ns _ tt

  paren_right : (a : Answer) → IsRight ns a → IsRight ns (paren_row a)
  paren_right (wrong f fs) h = right ns _ tt
  paren_right (value c t v) h = h
  paren_right (pending p b) h = h
  paren_right (type_ t) h = h
  paren_right (package_ p) h = h
  paren_right (built_in b) h = h
  paren_right blank h = h
  paren_right (does s) h = h
  paren_right untyped_part h = h

  prefix_right : (at : Place) (op : Prefix) (x : Part) → IsRight ns x.answer → IsRight ns (prefix_row ns at op x)
  prefix_right at «prefix».Plus x h = right_known ns (is_known x.answer) _ (unary_operand_right ns at operator.Plus x.place (single x.answer) (right_operand ns x.answer h))
  prefix_right at «prefix».Neg x h = right_known ns (is_known x.answer) _ (unary_operand_right ns at operator.Neg x.place (single x.answer) (right_operand ns x.answer h))
  prefix_right at «prefix».Not x h = right_known ns (is_known x.answer) _ (unary_operand_right ns at operator.Not x.place (single x.answer) (right_operand ns x.answer h))
  prefix_right at «prefix».Compl x h = right_known ns (is_known x.answer) _ (unary_operand_right ns at operator.Compl x.place (single x.answer) (right_operand ns x.answer h))
  prefix_right at _ x h = right_bad ns _ _

  binary_right : (class : OpClass) (at : Place) (op : Op) (x y : Part) → IsRight ns x.answer → IsRight ns y.answer → IsRight ns (binary_row ns class at op x y)
  binary_right class at op x y h k =
      right_known ns (is_known x.answer && is_known y.answer) _
      (on_singles_right ns class at op x.place (single x.answer) y.place (single y.answer) (right_operand ns x.answer h) (right_operand ns y.answer k))

  operator_right : (at : Place) (op : Op) (x y : Part) → IsRight ns x.answer → IsRight ns y.answer → IsRight ns (operator_row ns at op x y)
  operator_right at operator.Shl x y h k = right_known ns (is_known x.answer && is_known y.answer) _ (shift_single_right ns at operator.Shl x.place (single x.answer) y.place (single y.answer) (right_operand ns x.answer h))
  operator_right at operator.Shr x y h k = right_known ns (is_known x.answer && is_known y.answer) _ (shift_single_right ns at operator.Shr x.place (single x.answer) y.place (single y.answer) (right_operand ns x.answer h))
  operator_right at operator.Eq x y h k = binary_right Comparison at operator.Eq x y h k
  operator_right at operator.Ne x y h k = binary_right Comparison at operator.Ne x y h k
  operator_right at operator.Lt x y h k = binary_right Comparison at operator.Lt x y h k
  operator_right at operator.Le x y h k = binary_right Comparison at operator.Le x y h k
  operator_right at operator.Gt x y h k = binary_right Comparison at operator.Gt x y h k
  operator_right at operator.Ge x y h k = binary_right Comparison at operator.Ge x y h k
  operator_right at operator.AndThen x y h k = binary_right Logical at operator.AndThen x y h k
  operator_right at operator.OrElse x y h k = binary_right Logical at operator.OrElse x y h k
  operator_right at op x y h k = binary_right Arithmetic at op x y h k

  -- what is called, as it is declared
  abbrev CalleeFits : Callee → Type 0
  CalleeFits (a_function id ps rs v) = IsTrue (all_single rs)
  CalleeFits _ = Unit {0}

  declared_callee_fits : (o : Option Decl) → DeclaresFit o → CalleeFits (declared_callee o)
  declared_callee_fits (Some (function id ps rs v)) f = f (function id ps rs v) refl
  declared_callee_fits (Some (env.built_in b)) f = tt
  declared_callee_fits _ f = tt

  callee_if : (b : Bool) (c : Callee) → CalleeFits c → CalleeFits (if b then by_value else c)
  callee_if true c h = tt
  callee_if false c h = h

  callee_fits : (ss : List (List Bind)) → FitsScopes ss → (f : Expr) → CalleeFits (callee_of ss f)
  callee_fits ss fit (NameExpr at x) = callee_if (is_blank x) (declared_callee (lookup x ss)) (declared_callee_fits (lookup x ss) (fit x))
  callee_fits ss fit (ParenExpr at x) = callee_fits ss fit x
  callee_fits ss fit _ = tt

  call_right : (at : Place) (c : Callee) (f : Part) (spread : Bool) (xs : List Part) → CalleeFits c → IsRight ns f.answer → AllRight ns xs → IsRight ns (call_row ns at c f spread xs)
  call_right at (a_function id ps rs v) f spread xs h k l = function_right ns at id ps rs v spread xs h
  call_right at (a_built_in b) f spread xs h k l = built_in_right ns at b spread xs
  call_right at by_value f spread xs h k l = called_right ns at f.place f.answer spread xs k l

  -- one operand more
  more_fit : (p : Place) (x : Option Operand) (xs : List (Place × Operand)) → OperandFits ns x → AllFit ns xs → AllFit ns (operand_in p x ++ xs)
  more_fit p None xs h k = k
  more_fit p (Some x) xs h k = (h, k)

module _ (ns : List NamedTy) (ss : List (List Bind)) (fit : FitsScopes ss) where
  mutual
    fits : (e : Expr) → IsRight ns (typing ns ss e)
    fits (NameExpr at x) = right_if ns (is_blank x) blank (declared_row at x (lookup x ss)) (right ns _ tt) (declared_right ns at x (lookup x ss) (fit x))
    fits (IntExpr at x) = right ns _ refl
    fits (RuneExpr at x) = right ns _ refl
    fits (StrExpr at x) = right ns _ refl
    fits (ParenExpr at x) = paren_right ns (typing ns ss x) (fits x)
    fits (UnaryExpr at op x) = prefix_right ns at op (record { place = place_of x; answer = typing ns ss x }) (fits x)
    fits (BinaryExpr at x op y) = operator_right ns at op (record { place = place_of x; answer = typing ns ss x }) (record { place = place_of y; answer = typing ns ss y }) (fits x) (fits y)
    fits (IndexExpr at x i) = right_known ns (is_known (typing ns ss x) && is_known (typing ns ss i)) _ (index_right ns at (place_of x) (single (typing ns ss x)) (place_of i) (single (typing ns ss i)))
    fits (SliceExpr at x a b c) =
        right_known ns (is_known (typing ns ss x) && is_known_bound (bound_part ns ss a) && is_known_bound (bound_part ns ss b) && is_known_bound (bound_part ns ss c)) _
        (slice_right ns at (place_of x) (single (typing ns ss x)) (bound_no_value (bound_part ns ss a) ++ bound_no_value (bound_part ns ss b) ++ bound_no_value (bound_part ns ss c))
        (edge_of ns (bound_part ns ss a)) (edge_of ns (bound_part ns ss b)) (edge_of ns (bound_part ns ss c)) (right_operand ns (typing ns ss x) (fits x)))
    fits (CallExpr at f xs spread) =
        call_right ns at (callee_of ss f) (record { place = place_of f; answer = typing ns ss f }) spread (parts ns ss xs) (callee_fits ns ss fit f) (fits f) (record { all = all_fit xs })
    fits _ = right_bad ns _ _

    all_fit : (es : Exprs) → AllFit ns (operands_of (parts ns ss es))
    all_fit NoExprs = tt
    all_fit (MoreExprs x xs) = more_fit ns (place_of x) (single (typing ns ss x)) (operands_of (parts ns ss xs)) (right_operand ns (typing ns ss x) (fits x)) (all_fit xs)

pub types_fit : TypesFit
types_fit ns ss fit e c t v h = let r : IsRight ns (value c t v) = subst (IsRight ns) h (fits ns ss fit e) in r.fits
