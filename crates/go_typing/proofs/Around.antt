-- A node with a part that isn't typed isn't typed.
use Rattle.std.proofs.Common.{◌≡◌, ◌⊎◌, inl, inr, ℕ, List, ◌&&◌, refl, subst, ap, ◌∙◌, IsTrue, Bool, true, false, if◌then◌else◌}
use Rattle.gj_base.specs.declared.place.Place.{Place}
use Rattle.gj_base.specs.declared.kind.Op.{Op}
use Rattle.gj_base.specs.declared.kind.Op.TheVariants as operator
use Rattle.go_syntax.specs.Tree.{Expr, ParenExpr, UnaryExpr, BinaryExpr, IndexExpr, SliceExpr, CallExpr, MaybeExpr, NoExpr, AnExpr, Exprs, NoExprs, MoreExprs}
use Rattle.go_syntax.specs.declared.tree.Prefix.{Prefix}
use Rattle.go_syntax.specs.declared.tree.Prefix.TheVariants as «prefix»
use Rattle.go_type.specs.Tree.{Tys}
use Rattle.go_type.specs.Named.{NamedTy}
use Rattle.go_typing.specs.Env.{Bind, Builtin}
use Rattle.go_typing.specs.Answer.{Answer, value, pending, type_, package_, built_in, blank, does, wrong, untyped_part, is_known, all_known, where_known, Part}
use Rattle.go_typing.specs.Index.{is_known_bound}
use Rattle.go_typing.specs.Call.{is_built, function_row, built_in_row, called_row}
use Rattle.go_typing.specs.Typing.{Callee, a_function, a_built_in, by_value, callee_of, place_of, typing, bound_part, parts, paren_row, prefix_row, operator_row, call_row, is_built_prefix}
use Rattle.go_typing.specs.Faulty.{InCall, IsBound, IsOneOf, NoneAround}

pub where_false : (b : Bool) (a : Answer) → b ≡ false → where_known b a ≡ untyped_part
where_false b a h = ap (λ (c : Bool). where_known c a) h

pub first_false : (b c : Bool) → b ≡ false → (b && c) ≡ false
first_false b c h = ap (λ (d : Bool). d && c) h

pub second_false : (b c : Bool) → c ≡ false → (b && c) ≡ false
second_false true c h = h
second_false false c h = refl

paren_false : (a : Answer) → is_known a ≡ false → paren_row a ≡ untyped_part
paren_false (wrong f fs) h = refl
paren_false untyped_part h = refl
paren_false (value c t v) h = let e : true ≡ false = h in cc
paren_false (pending p b) h = let e : true ≡ false = h in cc
paren_false (type_ t) h = let e : true ≡ false = h in cc
paren_false (package_ p) h = let e : true ≡ false = h in cc
paren_false (built_in b) h = let e : true ≡ false = h in cc
paren_false blank h = let e : true ≡ false = h in cc
paren_false (does s) h = let e : true ≡ false = h in cc

prefix_false : (ns : List NamedTy) (at : Place) (op : Prefix) (x : Part) → IsTrue (is_built_prefix op) → is_known x.answer ≡ false → prefix_row ns at op x ≡ untyped_part
prefix_false ns at «prefix».Plus x b h = where_false (is_known x.answer) _ h
prefix_false ns at «prefix».Neg x b h = where_false (is_known x.answer) _ h
prefix_false ns at «prefix».Not x b h = where_false (is_known x.answer) _ h
prefix_false ns at «prefix».Compl x b h = where_false (is_known x.answer) _ h
prefix_false ns at «prefix».Star x b h = let e : false ≡ true = b in cc
prefix_false ns at «prefix».Address x b h = let e : false ≡ true = b in cc
prefix_false ns at «prefix».Receive x b h = let e : false ≡ true = b in cc

pub operator_false : (ns : List NamedTy) (at : Place) (op : Op) (x y : Part) → (is_known x.answer && is_known y.answer) ≡ false → operator_row ns at op x y ≡ untyped_part
operator_false ns at operator.Add x y h = where_false (is_known x.answer && is_known y.answer) _ h
operator_false ns at operator.Sub x y h = where_false (is_known x.answer && is_known y.answer) _ h
operator_false ns at operator.Mul x y h = where_false (is_known x.answer && is_known y.answer) _ h
operator_false ns at operator.Div x y h = where_false (is_known x.answer && is_known y.answer) _ h
operator_false ns at operator.Rem x y h = where_false (is_known x.answer && is_known y.answer) _ h
operator_false ns at operator.And x y h = where_false (is_known x.answer && is_known y.answer) _ h
operator_false ns at operator.Or x y h = where_false (is_known x.answer && is_known y.answer) _ h
operator_false ns at operator.Xor x y h = where_false (is_known x.answer && is_known y.answer) _ h
operator_false ns at operator.AndNot x y h = where_false (is_known x.answer && is_known y.answer) _ h
operator_false ns at operator.Shl x y h = where_false (is_known x.answer && is_known y.answer) _ h
operator_false ns at operator.Shr x y h = where_false (is_known x.answer && is_known y.answer) _ h
operator_false ns at operator.Eq x y h = where_false (is_known x.answer && is_known y.answer) _ h
operator_false ns at operator.Ne x y h = where_false (is_known x.answer && is_known y.answer) _ h
operator_false ns at operator.Lt x y h = where_false (is_known x.answer && is_known y.answer) _ h
operator_false ns at operator.Le x y h = where_false (is_known x.answer && is_known y.answer) _ h
operator_false ns at operator.Gt x y h = where_false (is_known x.answer && is_known y.answer) _ h
operator_false ns at operator.Ge x y h = where_false (is_known x.answer && is_known y.answer) _ h
operator_false ns at operator.AndThen x y h = where_false (is_known x.answer && is_known y.answer) _ h
operator_false ns at operator.OrElse x y h = where_false (is_known x.answer && is_known y.answer) _ h
operator_false ns at operator.Plus x y h = where_false (is_known x.answer && is_known y.answer) _ h
operator_false ns at operator.Neg x y h = where_false (is_known x.answer && is_known y.answer) _ h
operator_false ns at operator.Not x y h = where_false (is_known x.answer && is_known y.answer) _ h
operator_false ns at operator.Compl x y h = where_false (is_known x.answer && is_known y.answer) _ h
operator_false ns at (operator.To k) x y h = where_false (is_known x.answer && is_known y.answer) _ h

pub function_false : (ns : List NamedTy) (at : Place) (id : ℕ) (ps rs : Tys) (v s : Bool) (xs : List Part) → all_known xs ≡ false → function_row ns at id ps rs v s xs ≡ untyped_part
function_false ns at id ps rs true s xs h = where_false (all_known xs) _ h
function_false ns at id ps rs false true xs h = where_false (all_known xs) _ h
function_false ns at id ps rs false false xs h = where_false (all_known xs) _ h

choice_true : (b : Bool) (x y : Answer) → IsTrue b → (if b then x else y) ≡ x
choice_true true x y h = refl
choice_true false x y h = let e : false ≡ true = h in cc

built_in_false : (ns : List NamedTy) (at : Place) (b : Builtin) (s : Bool) (xs : List Part) → IsTrue (is_built b) → all_known xs ≡ false → built_in_row ns at b s xs ≡ untyped_part
built_in_false ns at b s xs k h = choice_true (is_built b) _ _ k ∙ where_false (all_known xs) _ h

-- what is called isn't typed, or an argument isn't
pub called_false : (ns : List NamedTy) (at : Place) (f : Part) (s : Bool) (xs : List Part) → is_known f.answer ≡ false → called_row ns at f s xs ≡ untyped_part
called_false ns at f s xs h = known_false f.answer h
  where
    known_false : (a : Answer) → is_known a ≡ false → called_row ns at (record { place = f.place; answer = a }) s xs ≡ untyped_part
    known_false (wrong g gs) h = refl
    known_false untyped_part h = refl
    known_false (value c t v) h = let e : true ≡ false = h in cc
    known_false (pending p b) h = let e : true ≡ false = h in cc
    known_false (type_ t) h = let e : true ≡ false = h in cc
    known_false (package_ p) h = let e : true ≡ false = h in cc
    known_false (built_in b) h = let e : true ≡ false = h in cc
    known_false blank h = let e : true ≡ false = h in cc
    known_false (does s) h = let e : true ≡ false = h in cc

pub called_all_false : (ns : List NamedTy) (at : Place) (f : Part) (s : Bool) (xs : List Part) → all_known xs ≡ false → called_row ns at f s xs ≡ untyped_part
called_all_false ns at f s xs h = known_false f.answer
  where
    known_false : (a : Answer) → called_row ns at (record { place = f.place; answer = a }) s xs ≡ untyped_part
    known_false (wrong g gs) = refl
    known_false untyped_part = refl
    known_false (value c t v) = where_false (all_known xs) _ h
    known_false (pending p b) = where_false (all_known xs) _ h
    known_false (type_ t) = where_false (all_known xs) _ h
    known_false (package_ p) = where_false (all_known xs) _ h
    known_false (built_in b) = where_false (all_known xs) _ h
    known_false blank = where_false (all_known xs) _ h
    known_false (does s) = where_false (all_known xs) _ h

module _ (ns : List NamedTy) (ss : List (List Bind)) (m : Expr) (h : is_known (typing ns ss m) ≡ false) where
  same_false : (x : Expr) → m ≡ x → is_known (typing ns ss x) ≡ false
  same_false x e = subst (λ (y : Expr). is_known (typing ns ss y) ≡ false) e h

  one_false : (xs : Exprs) → IsOneOf ss m xs → all_known (parts ns ss xs) ≡ false
  one_false NoExprs i = absurd i
  one_false (MoreExprs x xs) (inl e) = first_false (is_known (typing ns ss x)) _ (same_false x e)
  one_false (MoreExprs x xs) (inr i) = second_false (is_known (typing ns ss x)) _ (one_false xs i)

  bound_false : (b : MaybeExpr) → IsBound ss m b → is_known_bound (bound_part ns ss b) ≡ false
  bound_false NoExpr i = absurd i
  bound_false (AnExpr x) i = same_false x i

  call_false : (at : Place) (c : Callee) (f : Expr) (s : Bool) (xs : Exprs) → InCall c (m ≡ f) (IsOneOf ss m xs)
      → call_row ns at c (record { place = place_of f; answer = typing ns ss f }) s (parts ns ss xs) ≡ untyped_part
  call_false at (a_function id ps rs v) f s xs i = function_false ns at id ps rs v s (parts ns ss xs) (one_false xs i)
  call_false at (a_built_in b) f s xs i = built_in_false ns at b s (parts ns ss xs) i.0 (one_false xs i.1)
  call_false at by_value f s xs (inl e) = called_false ns at (record { place = place_of f; answer = typing ns ss f }) s (parts ns ss xs) (same_false f e)
  call_false at by_value f s xs (inr i) = called_all_false ns at (record { place = place_of f; answer = typing ns ss f }) s (parts ns ss xs) (one_false xs i)

pub none_around : NoneAround
none_around ns ss m (ParenExpr at x) i h = paren_false (typing ns ss x) (same_false ns ss m h x i)
none_around ns ss m (UnaryExpr at op x) i h = prefix_false ns at op (record { place = place_of x; answer = typing ns ss x }) i.0 (same_false ns ss m h x i.1)
none_around ns ss m (BinaryExpr at x op y) (inl e) h = operator_false ns at op _ _ (first_false (is_known (typing ns ss x)) _ (same_false ns ss m h x e))
none_around ns ss m (BinaryExpr at x op y) (inr e) h = operator_false ns at op _ _ (second_false (is_known (typing ns ss x)) _ (same_false ns ss m h y e))
none_around ns ss m (IndexExpr at x y) (inl e) h = where_false _ _ (first_false (is_known (typing ns ss x)) _ (same_false ns ss m h x e))
none_around ns ss m (IndexExpr at x y) (inr e) h = where_false _ _ (second_false (is_known (typing ns ss x)) _ (same_false ns ss m h y e))
none_around ns ss m (SliceExpr at x a b c) i h = where_false (is_known (typing ns ss x) && is_known_bound (bound_part ns ss a) && is_known_bound (bound_part ns ss b) && is_known_bound (bound_part ns ss c)) _ (all_false i)
  where
    all_false : (m ≡ x) ⊎ (IsBound ss m a ⊎ (IsBound ss m b ⊎ IsBound ss m c)) → (is_known (typing ns ss x) && is_known_bound (bound_part ns ss a) && is_known_bound (bound_part ns ss b) && is_known_bound (bound_part ns ss c)) ≡ false
    all_false (inl e) = first_false _ _ (first_false _ _ (first_false (is_known (typing ns ss x)) _ (same_false ns ss m h x e)))
    all_false (inr (inl e)) = first_false _ _ (first_false _ _ (second_false (is_known (typing ns ss x)) (is_known_bound (bound_part ns ss a)) (bound_false ns ss m h a e)))
    all_false (inr (inr (inl e))) = first_false _ _ (second_false (is_known (typing ns ss x) && is_known_bound (bound_part ns ss a)) (is_known_bound (bound_part ns ss b)) (bound_false ns ss m h b e))
    all_false (inr (inr (inr e))) = second_false (is_known (typing ns ss x) && is_known_bound (bound_part ns ss a) && is_known_bound (bound_part ns ss b)) (is_known_bound (bound_part ns ss c)) (bound_false ns ss m h c e)
none_around ns ss m (CallExpr at f xs spread) i h = call_false ns ss m h at (callee_of ss f) f spread xs i
none_around ns ss m _ i h = absurd i
