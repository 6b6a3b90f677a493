-- Where each name in scope is typed, a node is typed or a fault is told of it.
use Rattle.std.proofs.Common.{◌≡◌, ◌⊎◌, inl, inr, ℕ, List, [], ◌∷◌, ◌++◌, ◌&&◌, refl, sym, subst, ap, ◌∙◌, Bool, true, false, Option, Some, None, if◌then◌else◌}
use Rattle.gj_base.specs.declared.place.Place.{Place}
use Rattle.gj_base.specs.declared.kind.Op.{Op}
use Rattle.gj_base.specs.declared.kind.Op.TheVariants as operator
use Rattle.go_syntax.specs.Tree.{Expr, NameExpr, IntExpr, RuneExpr, StrExpr, ParenExpr, UnaryExpr, BinaryExpr, IndexExpr, SliceExpr, CallExpr, MaybeExpr, NoExpr, AnExpr, Exprs, NoExprs, MoreExprs}
use Rattle.go_syntax.specs.declared.tree.Prefix.{Prefix}
use Rattle.go_syntax.specs.declared.tree.Prefix.TheVariants as «prefix»
use Rattle.go_type.specs.Tree.{Tys}
use Rattle.go_type.specs.Named.{NamedTy}
use Rattle.go_type.specs.Underlying.{underlying}
use Rattle.go_typing.specs.Env.{Builtin, Complex, Imag, Real, Decl, variable, global, constant, type_name, function, imported, nil_value, refused, unknown, Bind, lookup, is_blank}
use Rattle.go_typing.specs.Env as env
use Rattle.go_typing.specs.Answer.{Flaw, Answer, value, pending, type_, package_, built_in, blank, does, wrong, untyped_part, bad, is_known, all_known, where_known, own, Part}
use Rattle.go_typing.specs.Operand.{single}
use Rattle.go_typing.specs.Binary.{OpClass, Arithmetic, Comparison, Logical, on_singles}
use Rattle.go_typing.specs.Index.{is_known_bound, bound_no_value, edge_of}
use Rattle.go_typing.specs.Call.{is_built, given, function_row, built_in_row, called_row, called_known, spread_given, built_in_call}
use Rattle.go_typing.specs.Typing.{Callee, a_function, a_built_in, by_value, callee_of, declared_row, built_in_name, place_of, typing, flaws, bound_flaws, all_flaws, bound_part, parts, paren_row, prefix_row, operator_row, call_row, is_built_prefix, where_true, call_flaws}
use Rattle.go_typing.specs.Faulty.{IsIn}
use Rattle.go_sound.specs.Lost.{NothingUnknown, NothingIsLost}
use Rattle.go_sound.proofs.Decided.{IsDecided, decided, decided_if, decided_bad, unary_decided, shift_decided, singles_decided, index_decided, slice_decided, conversion_decided, function_given_decided, spread_decided, built_in_call_decided, called_value_decided, pending_called}

abbrev pub Told : List Flaw → Type 0
Told fs = (f : Flaw) × IsIn f fs

pub in_left : (f : Flaw) (xs ys : List Flaw) → IsIn f xs → IsIn f (xs ++ ys)
in_left f [] ys h = absurd h
in_left f (x ∷ xs) ys (inl e) = inl e
in_left f (x ∷ xs) ys (inr h) = inr (in_left f xs ys h)

pub in_right : (f : Flaw) (xs ys : List Flaw) → IsIn f ys → IsIn f (xs ++ ys)
in_right f [] ys h = h
in_right f (x ∷ xs) ys h = inr (in_right f xs ys h)

pub told_left : (xs ys : List Flaw) → Told xs → Told (xs ++ ys)
told_left xs ys h = (h.0, in_left h.0 xs ys h.1)

pub told_right : (xs ys : List Flaw) → Told ys → Told (xs ++ ys)
told_right xs ys h = (h.0, in_right h.0 xs ys h.1)

-- these are typed, or something is told of them
abbrev pub Either : Bool → List Flaw → Type 0
Either b fs = (b ≡ true) ⊎ Told fs

pub both_either : (b c : Bool) (xs ys : List Flaw) → Either b xs → Either c ys → Either (b && c) (xs ++ ys)
both_either b c xs ys (inr h) k = inr (told_left xs ys h)
both_either b c xs ys (inl h) (inr k) = inr (told_right xs ys k)
both_either b c xs ys (inl h) (inl k) = inl (ap (λ (d : Bool). d && c) h ∙ k)

-- how && groups in a slice's row: from the left
pub four : (a b c d : Bool) (xs ys zs ws : List Flaw) → Either a xs → Either b ys → Either c zs → Either d ws → Either (a && b && c && d) (xs ++ (ys ++ (zs ++ ws)))
four a b c d xs ys zs ws (inr h) i j k = inr (told_left xs _ h)
four a b c d xs ys zs ws (inl h) (inr i) j k = inr (told_right xs _ (told_left ys _ i))
four a b c d xs ys zs ws (inl h) (inl i) (inr j) k = inr (told_right xs _ (told_right ys _ (told_left zs ws j)))
four a b c d xs ys zs ws (inl h) (inl i) (inl j) (inr k) = inr (told_right xs _ (told_right ys _ (told_right zs ws k)))
four a b c d xs ys zs ws (inl h) (inl i) (inl j) (inl k) =
    inl (ap (λ (e : Bool). e && b && c && d) h ∙ ap (λ (e : Bool). true && e && c && d) i ∙ ap (λ (e : Bool). true && true && e && d) j ∙ ap (λ (e : Bool). true && true && true && e) k)

pub outcome : (a : Answer) → IsDecided a → Either (is_known a) (own a)
outcome (wrong f fs) h = inr (f, inl refl)
outcome untyped_part h = absurd h.is_decided
outcome (value c t v) h = inl refl
outcome (pending p b) h = inl refl
outcome (type_ t) h = inl refl
outcome (package_ p) h = inl refl
outcome (built_in b) h = inl refl
outcome blank h = inl refl
outcome (does s) h = inl refl

after_parts : (ps : List Flaw) (a : Answer) → Either (is_known a) (own a) → Either (is_known a) (ps ++ own a)
after_parts ps a (inl h) = inl h
after_parts ps a (inr h) = inr (told_right ps (own a) h)

-- a row that wants its parts typed
pub by_parts : (b : Bool) (a : Answer) (ps : List Flaw) → Either b ps → IsDecided a → Either (is_known (where_known b a)) (ps ++ own (where_known b a))
by_parts b a ps (inr h) d = inr (told_left ps (own (where_known b a)) h)
by_parts b a ps (inl h) d =
    subst (λ (c : Bool). Either (is_known (where_known c a)) (ps ++ own (where_known c a))) (sym h) (after_parts ps a (outcome a d))

built_in_name_decided : (at : Place) (b : Builtin) → IsDecided (built_in_name at b)
built_in_name_decided at Complex = decided_bad _ _
built_in_name_decided at Imag = decided_bad _ _
built_in_name_decided at Real = decided_bad _ _
built_in_name_decided at _ = decided _ tt

pub declared_decided : (at : Place) (x : List ℕ) (o : Option Decl) → (o ≡ Some unknown → ⊥) → IsDecided (declared_row at x o)
declared_decided at x None h = decided _ tt
declared_decided at x (Some (variable id t)) h = decided _ tt
declared_decided at x (Some (global number t)) h = decided _ tt
declared_decided at x (Some (constant k t)) h = decided _ tt
declared_decided at x (Some (type_name t)) h = decided _ tt
declared_decided at x (Some (function id ps rs v)) h = decided_bad _ _
declared_decided at x (Some (imported path)) h = decided _ tt
declared_decided at x (Some (env.built_in b)) h = built_in_name_decided at b
declared_decided at x (Some nil_value) h = decided _ tt
declared_decided at x (Some (refused code)) h = decided_bad _ _
declared_decided at x (Some unknown) h = absurd (h refl)

pub paren_known : (a : Answer) → is_known a ≡ true → is_known (paren_row a) ≡ true
paren_known (wrong f fs) h = let e : false ≡ true = h in cc
paren_known untyped_part h = let e : false ≡ true = h in cc
paren_known (value c t v) h = refl
paren_known (pending p b) h = refl
paren_known (type_ t) h = refl
paren_known (package_ p) h = refl
paren_known (built_in b) h = refl
paren_known blank h = refl
paren_known (does s) h = refl

pub paren_either : (a : Answer) (fs : List Flaw) → Either (is_known a) fs → Either (is_known (paren_row a)) fs
paren_either a fs (inl h) = inl (paren_known a h)
paren_either a fs (inr h) = inr h

module _ (ns : List NamedTy) where
  pub prefix_either : (at : Place) (op : Prefix) (x : Part) (fs : List Flaw) → Either (is_known x.answer) fs → Either (is_known (prefix_row ns at op x)) (where_true (is_built_prefix op) fs ++ own (prefix_row ns at op x))
  prefix_either at «prefix».Plus x fs h = by_parts (is_known x.answer) _ fs h (unary_decided ns at operator.Plus x.place (single x.answer))
  prefix_either at «prefix».Neg x fs h = by_parts (is_known x.answer) _ fs h (unary_decided ns at operator.Neg x.place (single x.answer))
  prefix_either at «prefix».Not x fs h = by_parts (is_known x.answer) _ fs h (unary_decided ns at operator.Not x.place (single x.answer))
  prefix_either at «prefix».Compl x fs h = by_parts (is_known x.answer) _ fs h (unary_decided ns at operator.Compl x.place (single x.answer))
  prefix_either at «prefix».Star x fs h = inr (_, inl refl)
  prefix_either at «prefix».Address x fs h = inr (_, inl refl)
  prefix_either at «prefix».Receive x fs h = inr (_, inl refl)

  class_either : (class : OpClass) (at : Place) (op : Op) (x y : Part) (fs : List Flaw) → Either (is_known x.answer && is_known y.answer) fs
      → Either (is_known (where_known (is_known x.answer && is_known y.answer) (on_singles ns class at op x.place (single x.answer) y.place (single y.answer))))
      (fs ++ own (where_known (is_known x.answer && is_known y.answer) (on_singles ns class at op x.place (single x.answer) y.place (single y.answer))))
  class_either class at op x y fs h = by_parts (is_known x.answer && is_known y.answer) _ fs h (singles_decided ns class at op x.place (single x.answer) y.place (single y.answer))

  pub operator_either : (at : Place) (op : Op) (x y : Part) (fs : List Flaw) → Either (is_known x.answer && is_known y.answer) fs → Either (is_known (operator_row ns at op x y)) (fs ++ own (operator_row ns at op x y))
  operator_either at operator.Shl x y fs h = by_parts (is_known x.answer && is_known y.answer) _ fs h (shift_decided ns at operator.Shl x.place (single x.answer) y.place (single y.answer))
  operator_either at operator.Shr x y fs h = by_parts (is_known x.answer && is_known y.answer) _ fs h (shift_decided ns at operator.Shr x.place (single x.answer) y.place (single y.answer))
  operator_either at operator.Eq x y fs h = class_either Comparison at operator.Eq x y fs h
  operator_either at operator.Ne x y fs h = class_either Comparison at operator.Ne x y fs h
  operator_either at operator.Lt x y fs h = class_either Comparison at operator.Lt x y fs h
  operator_either at operator.Le x y fs h = class_either Comparison at operator.Le x y fs h
  operator_either at operator.Gt x y fs h = class_either Comparison at operator.Gt x y fs h
  operator_either at operator.Ge x y fs h = class_either Comparison at operator.Ge x y fs h
  operator_either at operator.AndThen x y fs h = class_either Logical at operator.AndThen x y fs h
  operator_either at operator.OrElse x y fs h = class_either Logical at operator.OrElse x y fs h
  operator_either at op x y fs h = class_either Arithmetic at op x y fs h

  pub function_either : (at : Place) (id : ℕ) (ps rs : Tys) (v spread : Bool) (xs : List Part) (fs : List Flaw) → Either (all_known xs) fs
      → Either (is_known (function_row ns at id ps rs v spread xs)) (fs ++ own (function_row ns at id ps rs v spread xs))
  function_either at id ps rs true spread xs fs h = by_parts (all_known xs) (bad at 0) fs h (decided_bad at 0)
  function_either at id ps rs false true xs fs h = by_parts (all_known xs) _ fs h (spread_decided ns at (given xs))
  function_either at id ps rs false false xs fs h = by_parts (all_known xs) _ fs h (function_given_decided ns at id ps rs (given xs))

  pub built_in_either : (at : Place) (b : Builtin) (spread : Bool) (xs : List Part) (fs : List Flaw) → Either (all_known xs) fs
      → Either (is_known (built_in_row ns at b spread xs)) (where_true (is_built b) fs ++ own (built_in_row ns at b spread xs))
  built_in_either at b spread xs fs h = by_test (is_built b) _ (decided_if spread (spread_given ns at (given xs)) (built_in_call ns at b (given xs)) (spread_decided ns at (given xs)) (built_in_call_decided ns at b (given xs)))
    where
      by_test : (c : Bool) (a : Answer) → IsDecided a → Either (is_known (if c then where_known (all_known xs) a else bad at 0)) (where_true c fs ++ own (if c then where_known (all_known xs) a else bad at 0))
      by_test true a d = by_parts (all_known xs) a fs h d
      by_test false a d = inr (_, inl refl)

  -- what is called is typed, and so are the arguments
  called_decided : (at q : Place) (a : Answer) (spread : Bool) (xs : List Part) → is_known a ≡ true → all_known xs ≡ true → IsDecided (called_known ns at q a spread xs)
  called_decided at q a spread xs h k = by_case a h
    where
      with_all : (b : Answer) → IsDecided b → IsDecided (where_known (all_known xs) b)
      with_all b d = subst (λ (c : Bool). IsDecided (where_known c b)) (sym k) d

      by_case : (b : Answer) → is_known b ≡ true → IsDecided (called_known ns at q b spread xs)
      by_case (value c t v) e = with_all _ (called_value_decided ns at q (underlying ns t))
      by_case (pending x b) e = with_all _ (pending_called ns q x b)
      by_case (type_ t) e = with_all _ (conversion_decided ns at t spread xs)
      by_case (wrong f fs) e = let g : false ≡ true = e in cc
      by_case untyped_part e = let g : false ≡ true = e in cc
      by_case (package_ path) e = with_all (bad q 52) (decided_bad q 52)
      by_case (built_in b) e = with_all (bad q 52) (decided_bad q 52)
      by_case blank e = with_all (bad q 52) (decided_bad q 52)
      by_case (does st) e = with_all (bad q 52) (decided_bad q 52)

  pub value_either : (at : Place) (f : Part) (spread : Bool) (xs : List Part) (gs fs : List Flaw) → Either (is_known f.answer) gs → Either (all_known xs) fs
      → Either (is_known (called_row ns at f spread xs)) ((gs ++ fs) ++ own (called_row ns at f spread xs))
  value_either at f spread xs gs fs (inr h) k = inr (told_left (gs ++ fs) _ (told_left gs fs h))
  value_either at f spread xs gs fs (inl h) (inr k) = inr (told_left (gs ++ fs) _ (told_right gs fs k))
  value_either at f spread xs gs fs (inl h) (inl k) = after_parts (gs ++ fs) (called_row ns at f spread xs) (outcome _ (called_decided at f.place f.answer spread xs h k))

  call_either : (at : Place) (c : Callee) (f : Part) (spread : Bool) (xs : List Part) (gs fs : List Flaw) → Either (is_known f.answer) gs → Either (all_known xs) fs
      → Either (is_known (call_row ns at c f spread xs)) (call_flaws c gs fs ++ own (call_row ns at c f spread xs))
  call_either at (a_function id ps rs v) f spread xs gs fs h k = function_either at id ps rs v spread xs fs k
  call_either at (a_built_in b) f spread xs gs fs h k = built_in_either at b spread xs fs k
  call_either at by_value f spread xs gs fs h k = value_either at f spread xs gs fs h k

  module _ (ss : List (List Bind)) (all : NothingUnknown ss) where
    abbrev part : Expr → Part
    part x = record { place = place_of x; answer = typing ns ss x }

    mutual
      pub nodes : (e : Expr) → Either (is_known (typing ns ss e)) (flaws ns ss e)
      nodes (NameExpr at x) = outcome (typing ns ss (NameExpr at x)) (decided_if (is_blank x) blank (declared_row at x (lookup x ss)) (decided _ tt) (declared_decided at x (lookup x ss) (all x)))
      nodes (IntExpr at x) = inl refl
      nodes (RuneExpr at x) = inl refl
      nodes (StrExpr at x) = inl refl
      nodes (ParenExpr at x) = paren_either (typing ns ss x) (flaws ns ss x) (nodes x)
      nodes (UnaryExpr at op x) = prefix_either at op (part x) (flaws ns ss x) (nodes x)
      nodes (BinaryExpr at x op y) = operator_either at op (part x) (part y) (flaws ns ss x ++ flaws ns ss y) (both_either (is_known (typing ns ss x)) (is_known (typing ns ss y)) (flaws ns ss x) (flaws ns ss y) (nodes x) (nodes y))
      nodes (IndexExpr at x y) =
          by_parts (is_known (typing ns ss x) && is_known (typing ns ss y)) _ (flaws ns ss x ++ flaws ns ss y) (both_either (is_known (typing ns ss x)) (is_known (typing ns ss y)) (flaws ns ss x) (flaws ns ss y) (nodes x) (nodes y))
          (index_decided ns at (place_of x) (single (typing ns ss x)) (place_of y) (single (typing ns ss y)))
      nodes (SliceExpr at x l h m) =
          by_parts (is_known (typing ns ss x) && is_known_bound (bound_part ns ss l) && is_known_bound (bound_part ns ss h) && is_known_bound (bound_part ns ss m)) _
          (flaws ns ss x ++ (bound_flaws ns ss l ++ (bound_flaws ns ss h ++ bound_flaws ns ss m)))
          (four (is_known (typing ns ss x)) (is_known_bound (bound_part ns ss l)) (is_known_bound (bound_part ns ss h)) (is_known_bound (bound_part ns ss m)) (flaws ns ss x) (bound_flaws ns ss l) (bound_flaws ns ss h) (bound_flaws ns ss m)
          (nodes x) (bounds l) (bounds h) (bounds m))
          (slice_decided ns at (place_of x) (single (typing ns ss x)) (bound_no_value (bound_part ns ss l) ++ bound_no_value (bound_part ns ss h) ++ bound_no_value (bound_part ns ss m))
          (edge_of ns (bound_part ns ss l)) (edge_of ns (bound_part ns ss h)) (edge_of ns (bound_part ns ss m)))
      nodes (CallExpr at f xs spread) = call_either at (callee_of ss f) (part f) spread (parts ns ss xs) (flaws ns ss f) (all_flaws ns ss xs) (nodes f) (all_nodes xs)
      nodes _ = inr (_, inl refl)

      bounds : (b : MaybeExpr) → Either (is_known_bound (bound_part ns ss b)) (bound_flaws ns ss b)
      bounds NoExpr = inl refl
      bounds (AnExpr x) = nodes x

      all_nodes : (es : Exprs) → Either (all_known (parts ns ss es)) (all_flaws ns ss es)
      all_nodes NoExprs = inl refl
      all_nodes (MoreExprs x xs) = both_either (is_known (typing ns ss x)) (all_known (parts ns ss xs)) (flaws ns ss x) (all_flaws ns ss xs) (nodes x) (all_nodes xs)

pub nothing_is_lost : NothingIsLost
nothing_is_lost ns ss all e = nodes ns ss all e
