-- With two lists of named types that agree on the types in scope each node is typed as the same.
use Rattle.std.proofs.Common.{◌≡◌, ℕ, List, ◌∷◌, ◌++◌, ◌&&◌, refl, subst, ap, ◌∙◌, Bool, true, false, Option, Some, None, if◌then◌else◌}
use Rattle.gj_base.specs.declared.place.Place.{Place}
use Rattle.gj_base.specs.declared.kind.Op.{Op}
use Rattle.gj_base.specs.declared.kind.Op.TheVariants as operator
use Rattle.go_syntax.specs.Tree.{Expr, NameExpr, IntExpr, RuneExpr, StrExpr, ParenExpr, UnaryExpr, BinaryExpr, IndexExpr, SliceExpr, CallExpr, MaybeExpr, NoExpr, AnExpr, Exprs, NoExprs, MoreExprs}
use Rattle.go_syntax.specs.declared.tree.Prefix.{Prefix}
use Rattle.go_syntax.specs.declared.tree.Prefix.TheVariants as «prefix»
use Rattle.go_type.specs.Tree as ty
use Rattle.go_type.specs.Tree.{Ty, Tys}
use Rattle.go_type.specs.Named.{NamedTy}
use Rattle.go_type.specs.Underlying.{underlying}
use Rattle.go_typing.specs.Env.{Builtin, Complex, Imag, Real, Decl, variable, global, constant, type_name, function, imported, nil_value, refused, unknown, Bind, lookup, is_blank}
use Rattle.go_typing.specs.Env as env
use Rattle.go_typing.specs.Answer.{Answer, value, pending, type_, package_, built_in, blank, does, wrong, untyped_part, is_known, Part}
use Rattle.go_typing.specs.Operand.{single}
use Rattle.go_typing.specs.Binary.{OpClass, Arithmetic, Comparison, Logical, binary_row}
use Rattle.go_typing.specs.Index.{is_known_bound, bound_no_value, edge_of, index_row, slice_row}
use Rattle.go_typing.specs.Typing.{Callee, a_function, a_built_in, by_value, callee_of, declared_callee, declared_row, built_in_name, place_of, typing, bound_part, parts, paren_row, prefix_row, operator_row, call_row}
use Rattle.go_sound.proofs.Agree.{Agrees, AllAgree, AnswerAgrees, Alike, alike, alike_bad, alike_if, alike_known, single_agrees}
use Rattle.go_sound.proofs.AgreeRows.{unary_alike, shift_alike, singles_alike}
use Rattle.go_sound.proofs.AgreeCalls.{BoundAgrees, PartsAgree, index_alike, slice_alike, edge_same, function_alike, built_in_alike, called_alike}

module _ (P : ℕ → Type 0) where
  -- the types of a declaration are among those
  abbrev pub DeclAgrees : Decl → Type 0
  DeclAgrees (variable id t) = Agrees P t
  DeclAgrees (global number t) = Agrees P t
  DeclAgrees (constant k t) = Agrees P t
  DeclAgrees (type_name t) = Agrees P t
  DeclAgrees (function id ps rs variadic) = AllAgree P ps × AllAgree P rs
  DeclAgrees d = Unit {0}

  abbrev pub OptionAgrees : Option Decl → Type 0
  OptionAgrees None = Unit {0}
  OptionAgrees (Some d) = DeclAgrees d

  -- so are the types in scope
  abbrev pub ScopesAgree : List (List Bind) → Type 0
  ScopesAgree ss = (x : List ℕ) → OptionAgrees (lookup x ss)

module _ (ns ms : List NamedTy) (P : ℕ → Type 0) (s : (id : ℕ) → P id → underlying ns (ty.named id) ≡ underlying ms (ty.named id)) where
  built_in_name_alike : (at : Place) (b : Builtin) → Alike ns ms P s (built_in_name at b) (built_in_name at b)
  built_in_name_alike at Complex = alike_bad ns ms P s _ _
  built_in_name_alike at Imag = alike_bad ns ms P s _ _
  built_in_name_alike at Real = alike_bad ns ms P s _ _
  built_in_name_alike at _ = alike ns ms P s _ tt

  declared_alike : (at : Place) (x : List ℕ) (o : Option Decl) → OptionAgrees P o → Alike ns ms P s (declared_row at x o) (declared_row at x o)
  declared_alike at x None h = alike ns ms P s _ tt
  declared_alike at x (Some (variable id t)) h = alike ns ms P s _ h
  declared_alike at x (Some (global number t)) h = alike ns ms P s _ h
  declared_alike at x (Some (constant k t)) h = alike ns ms P s _ h
  declared_alike at x (Some (type_name t)) h = alike ns ms P s _ h
  declared_alike at x (Some (function id ps rs v)) h = alike_bad ns ms P s _ _
  declared_alike at x (Some (imported path)) h = alike ns ms P s _ tt
  declared_alike at x (Some (env.built_in b)) h = built_in_name_alike at b
  declared_alike at x (Some nil_value) h = alike ns ms P s _ tt
  declared_alike at x (Some (refused code)) h = alike_bad ns ms P s _ _
  declared_alike at x (Some unknown) h = alike ns ms P s _ tt

  paren_agrees : (a : Answer) → AnswerAgrees P a → AnswerAgrees P (paren_row a)
  paren_agrees (wrong f fs) h = tt
  paren_agrees (value c t v) h = h
  paren_agrees (pending p b) h = h
  paren_agrees (type_ t) h = h
  paren_agrees (package_ p) h = h
  paren_agrees (built_in b) h = h
  paren_agrees blank h = h
  paren_agrees (does st) h = h
  paren_agrees untyped_part h = h

  paren_alike : (a b : Answer) → Alike ns ms P s a b → Alike ns ms P s (paren_row a) (paren_row b)
  paren_alike a b h = record { same = ap paren_row h.same; agrees = paren_agrees a h.agrees }

  abbrev part_at : Place → Answer → Part
  part_at p a = record { place = p; answer = a }

  prefix_alike : (at : Place) (op : Prefix) (x : Part) → AnswerAgrees P x.answer → Alike ns ms P s (prefix_row ns at op x) (prefix_row ms at op x)
  prefix_alike at «prefix».Plus x h = alike_known ns ms P s (is_known x.answer) _ _ (unary_alike ns ms P s at operator.Plus x.place (single x.answer) (single_agrees ns ms P s x.answer h))
  prefix_alike at «prefix».Neg x h = alike_known ns ms P s (is_known x.answer) _ _ (unary_alike ns ms P s at operator.Neg x.place (single x.answer) (single_agrees ns ms P s x.answer h))
  prefix_alike at «prefix».Not x h = alike_known ns ms P s (is_known x.answer) _ _ (unary_alike ns ms P s at operator.Not x.place (single x.answer) (single_agrees ns ms P s x.answer h))
  prefix_alike at «prefix».Compl x h = alike_known ns ms P s (is_known x.answer) _ _ (unary_alike ns ms P s at operator.Compl x.place (single x.answer) (single_agrees ns ms P s x.answer h))
  prefix_alike at _ x h = alike_bad ns ms P s _ _

  binary_alike : (class : OpClass) (at : Place) (op : Op) (x y : Part) → AnswerAgrees P x.answer → AnswerAgrees P y.answer → Alike ns ms P s (binary_row ns class at op x y) (binary_row ms class at op x y)
  binary_alike class at op x y h k =
      alike_known ns ms P s (is_known x.answer && is_known y.answer) _ _
      (singles_alike ns ms P s class at op x.place (single x.answer) y.place (single y.answer) (single_agrees ns ms P s x.answer h) (single_agrees ns ms P s y.answer k))

  shifts_alike : (at : Place) (op : Op) (x y : Part) → AnswerAgrees P x.answer → AnswerAgrees P y.answer
      → Alike ns ms P s (operator_row ns at operator.Shl x y) (operator_row ms at operator.Shl x y)
  shifts_alike at op x y h k = alike_known ns ms P s (is_known x.answer && is_known y.answer) _ _ (shift_alike ns ms P s at operator.Shl x.place (single x.answer) y.place (single y.answer) (single_agrees ns ms P s x.answer h) (single_agrees ns ms P s y.answer k))

  pub operator_alike : (at : Place) (op : Op) (x y : Part) → AnswerAgrees P x.answer → AnswerAgrees P y.answer → Alike ns ms P s (operator_row ns at op x y) (operator_row ms at op x y)
  operator_alike at operator.Shl x y h k = shifts_alike at operator.Shl x y h k
  operator_alike at operator.Shr x y h k = alike_known ns ms P s (is_known x.answer && is_known y.answer) _ _ (shift_alike ns ms P s at operator.Shr x.place (single x.answer) y.place (single y.answer) (single_agrees ns ms P s x.answer h) (single_agrees ns ms P s y.answer k))
  operator_alike at operator.Eq x y h k = binary_alike Comparison at operator.Eq x y h k
  operator_alike at operator.Ne x y h k = binary_alike Comparison at operator.Ne x y h k
  operator_alike at operator.Lt x y h k = binary_alike Comparison at operator.Lt x y h k
  operator_alike at operator.Le x y h k = binary_alike Comparison at operator.Le x y h k
  operator_alike at operator.Gt x y h k = binary_alike Comparison at operator.Gt x y h k
  operator_alike at operator.Ge x y h k = binary_alike Comparison at operator.Ge x y h k
  operator_alike at operator.AndThen x y h k = binary_alike Logical at operator.AndThen x y h k
  operator_alike at operator.OrElse x y h k = binary_alike Logical at operator.OrElse x y h k
  operator_alike at op x y h k = binary_alike Arithmetic at op x y h k

  -- a row of two parts, each alike
  two_alike : (row other : Part → Part → Answer) (p q : Place) (a b c d : Answer) → Alike ns ms P s a b → Alike ns ms P s c d
      → Alike ns ms P s (row (part_at p a) (part_at q c)) (other (part_at p a) (part_at q c)) → Alike ns ms P s (row (part_at p a) (part_at q c)) (other (part_at p b) (part_at q d))
  two_alike row other p q a b c d h k r =
      subst (λ (z : Answer). Alike ns ms P s (row (part_at p a) (part_at q c)) (other (part_at p b) (part_at q z))) k.same
      (subst (λ (z : Answer). Alike ns ms P s (row (part_at p a) (part_at q c)) (other (part_at p z) (part_at q c))) h.same r)

  one_alike : (row other : Part → Answer) (p : Place) (a b : Answer) → Alike ns ms P s a b → Alike ns ms P s (row (part_at p a)) (other (part_at p a)) → Alike ns ms P s (row (part_at p a)) (other (part_at p b))
  one_alike row other p a b h r = subst (λ (z : Answer). Alike ns ms P s (row (part_at p a)) (other (part_at p z))) h.same r

  index_row_alike : (at : Place) (x y : Part) → AnswerAgrees P x.answer → AnswerAgrees P y.answer → Alike ns ms P s (index_row ns at x y) (index_row ms at x y)
  index_row_alike at x y h k =
      alike_known ns ms P s (is_known x.answer && is_known y.answer) _ _ (index_alike ns ms P s at x.place (single x.answer) y.place (single y.answer) (single_agrees ns ms P s x.answer h) (single_agrees ns ms P s y.answer k))

  slice_row_alike : (at : Place) (x : Part) (a b c : Option Part) → AnswerAgrees P x.answer → BoundAgrees ns ms P s a → BoundAgrees ns ms P s b → BoundAgrees ns ms P s c → Alike ns ms P s (slice_row ns at x a b c) (slice_row ms at x a b c)
  slice_row_alike at x a b c h k l m =
      alike_known ns ms P s (is_known x.answer && is_known_bound a && is_known_bound b && is_known_bound c) _ _
      (slice_alike ns ms P s at x.place (single x.answer) (bound_no_value a ++ bound_no_value b ++ bound_no_value c) (edge_of ns a) (edge_of ms a) (edge_of ns b) (edge_of ms b) (edge_of ns c) (edge_of ms c)
      (single_agrees ns ms P s x.answer h) (edge_same ns ms P s a k) (edge_same ns ms P s b l) (edge_same ns ms P s c m))

  abbrev CalleeAgrees : Callee → Type 0
  CalleeAgrees (a_function id ps rs v) = AllAgree P ps × AllAgree P rs
  CalleeAgrees _ = Unit {0}

  declared_callee_agrees : (o : Option Decl) → OptionAgrees P o → CalleeAgrees (declared_callee o)
  declared_callee_agrees (Some (function id ps rs v)) h = h
  declared_callee_agrees (Some (env.built_in b)) h = tt
  declared_callee_agrees _ h = tt

  callee_if : (b : Bool) (c : Callee) → CalleeAgrees c → CalleeAgrees (if b then by_value else c)
  callee_if true c h = tt
  callee_if false c h = h

  callee_agrees : (ss : List (List Bind)) → ScopesAgree P ss → (f : Expr) → CalleeAgrees (callee_of ss f)
  callee_agrees ss h (NameExpr at x) = callee_if (is_blank x) (declared_callee (lookup x ss)) (declared_callee_agrees (lookup x ss) (h x))
  callee_agrees ss h (ParenExpr at x) = callee_agrees ss h x
  callee_agrees ss h _ = tt

  call_row_alike : (at : Place) (c : Callee) (f : Part) (spread : Bool) (xs : List Part) → CalleeAgrees c → AnswerAgrees P f.answer → PartsAgree ns ms P s xs
      → Alike ns ms P s (call_row ns at c f spread xs) (call_row ms at c f spread xs)
  call_row_alike at (a_function id ps rs v) f spread xs h k l = function_alike ns ms P s at id ps rs v spread xs h.0 h.1 l
  call_row_alike at (a_built_in b) f spread xs h k l = built_in_alike ns ms P s at b spread xs l
  call_row_alike at by_value f spread xs h k l = called_alike ns ms P s at f.place f.answer spread xs k l

  record PartsAlike (xs ys : List Part) : Type 0 where
    pub same : xs ≡ ys
    pub agree : PartsAgree ns ms P s xs

  record BoundAlike (x y : Option Part) : Type 0 where
    pub same : x ≡ y
    pub agrees : BoundAgrees ns ms P s x

  slices_alike : (at p : Place) (a b : Answer) (l l2 h h2 m m2 : Option Part) → Alike ns ms P s a b → BoundAlike l l2 → BoundAlike h h2 → BoundAlike m m2
      → Alike ns ms P s (slice_row ns at (part_at p a) l h m) (slice_row ms at (part_at p b) l2 h2 m2)
  slices_alike at p a b l l2 h h2 m m2 e f g k =
      subst (λ (z : Option Part). Alike ns ms P s (slice_row ns at (part_at p a) l h m) (slice_row ms at (part_at p b) l2 h2 z)) k.same
      (subst (λ (z : Option Part). Alike ns ms P s (slice_row ns at (part_at p a) l h m) (slice_row ms at (part_at p b) l2 z m)) g.same
      (subst (λ (z : Option Part). Alike ns ms P s (slice_row ns at (part_at p a) l h m) (slice_row ms at (part_at p b) z h m)) f.same
      (subst (λ (z : Answer). Alike ns ms P s (slice_row ns at (part_at p a) l h m) (slice_row ms at (part_at p z) l h m)) e.same
      (slice_row_alike at (part_at p a) l h m e.agrees f.agrees g.agrees k.agrees))))

  calls_alike : (at p : Place) (c : Callee) (a b : Answer) (spread : Bool) (xs ys : List Part) → CalleeAgrees c → Alike ns ms P s a b → PartsAlike xs ys
      → Alike ns ms P s (call_row ns at c (part_at p a) spread xs) (call_row ms at c (part_at p b) spread ys)
  calls_alike at p c a b spread xs ys h e f =
      subst (λ (z : List Part). Alike ns ms P s (call_row ns at c (part_at p a) spread xs) (call_row ms at c (part_at p b) spread z)) f.same
      (subst (λ (z : Answer). Alike ns ms P s (call_row ns at c (part_at p a) spread xs) (call_row ms at c (part_at p z) spread xs)) e.same
      (call_row_alike at c (part_at p a) spread xs h e.agrees f.agree))

  module _ (ss : List (List Bind)) (scopes : ScopesAgree P ss) where
    mutual
      pub typing_alike : (e : Expr) → Alike ns ms P s (typing ns ss e) (typing ms ss e)
      typing_alike (NameExpr at x) = alike_if ns ms P s (is_blank x) blank (declared_row at x (lookup x ss)) blank (declared_row at x (lookup x ss)) (alike ns ms P s _ tt) (declared_alike at x (lookup x ss) (scopes x))
      typing_alike (IntExpr at x) = alike ns ms P s _ tt
      typing_alike (RuneExpr at x) = alike ns ms P s _ tt
      typing_alike (StrExpr at x) = alike ns ms P s _ tt
      typing_alike (ParenExpr at x) = paren_alike (typing ns ss x) (typing ms ss x) (typing_alike x)
      typing_alike (UnaryExpr at op x) =
          let h = typing_alike x in one_alike (prefix_row ns at op) (prefix_row ms at op) (place_of x) (typing ns ss x) (typing ms ss x) h (prefix_alike at op (part_at (place_of x) (typing ns ss x)) h.agrees)
      typing_alike (BinaryExpr at x op y) =
          let h = typing_alike x in
          let k = typing_alike y in
          two_alike (operator_row ns at op) (operator_row ms at op) (place_of x) (place_of y) (typing ns ss x) (typing ms ss x) (typing ns ss y) (typing ms ss y) h k
          (operator_alike at op (part_at (place_of x) (typing ns ss x)) (part_at (place_of y) (typing ns ss y)) h.agrees k.agrees)
      typing_alike (IndexExpr at x y) =
          let h = typing_alike x in
          let k = typing_alike y in
          two_alike (index_row ns at) (index_row ms at) (place_of x) (place_of y) (typing ns ss x) (typing ms ss x) (typing ns ss y) (typing ms ss y) h k
          (index_row_alike at (part_at (place_of x) (typing ns ss x)) (part_at (place_of y) (typing ns ss y)) h.agrees k.agrees)
      typing_alike (SliceExpr at x a b c) =
          slices_alike at (place_of x) (typing ns ss x) (typing ms ss x) (bound_part ns ss a) (bound_part ms ss a) (bound_part ns ss b) (bound_part ms ss b) (bound_part ns ss c) (bound_part ms ss c)
          (typing_alike x) (bound_alike a) (bound_alike b) (bound_alike c)
      typing_alike (CallExpr at f xs spread) =
          calls_alike at (place_of f) (callee_of ss f) (typing ns ss f) (typing ms ss f) spread (parts ns ss xs) (parts ms ss xs) (callee_agrees ss scopes f) (typing_alike f) (parts_alike xs)
      typing_alike _ = alike_bad ns ms P s _ _

      bound_alike : (b : MaybeExpr) → BoundAlike (bound_part ns ss b) (bound_part ms ss b)
      bound_alike NoExpr = record { same = refl; agrees = tt }
      bound_alike (AnExpr x) = let h = typing_alike x in record { same = ap (λ (a : Answer). Some (part_at (place_of x) a)) h.same; agrees = h.agrees }

      parts_alike : (es : Exprs) → PartsAlike (parts ns ss es) (parts ms ss es)
      parts_alike NoExprs = record { same = refl; agree = tt }
      parts_alike (MoreExprs x xs) =
          let h = typing_alike x in
          let k = parts_alike xs in
          record {
            same = ap (λ (a : Answer). part_at (place_of x) a ∷ parts ns ss xs) h.same ∙ ap (λ (ps : List Part). part_at (place_of x) (typing ms ss x) ∷ ps) k.same;
            agree = (h.agrees, k.agree);
          }
