-- What the walk does at each form.
use Rattle.std.proofs.Common.{◌≡◌, ℕ, ◌∙◌, refl, sym, ap, subst, List, [], ◌∷◌, ◌++◌, append_assoc, drop, map, Bool, true, false, Option, Some, None, is_some}
use Rattle.std.proofs.lemmas.List.{append-nil}
use Rattle.std.specs.Prelude.{option_map}
use Rattle.gj_base.specs.declared.place.Place.{Place}
use Rattle.gj_base.specs.declared.kind.Op.{Op}
use Rattle.gj_base.specs.declared.kind.Op.TheVariants as operator
use Rattle.go_syntax.specs.declared.tree.Expr as tree
use Rattle.go_syntax.specs.declared.tree.Prefix.{Prefix}
use Rattle.go_syntax.specs.declared.tree.Prefix.TheVariants as «prefix»
use Rattle.go_syntax.specs.Tree.{Expr, ParenExpr, UnaryExpr, BinaryExpr, IndexExpr, SliceExpr, CallExpr, Exprs}
use Rattle.go_syntax.specs.View.{expr_view, exprs_of, maybe_expr}
use Rattle.go_type.specs.Tree.{Ty, Tys}
use Rattle.go_type.specs.Named.{NamedTy}
use Rattle.go_typing.specs.Env.{Bind, Builtin}
use Rattle.go_typing.specs.Answer.{Flaw, Answer, value, pending, type_, package_, built_in, blank, does, wrong, untyped_part, Part, bad, own}
use Rattle.go_typing.specs.Unary.{unary_row}
use Rattle.go_typing.specs.Index.{index_row, slice_row}
use Rattle.go_typing.specs.Call.{is_built, function_row, built_in_row, called_row}
use Rattle.go_typing.specs.Typing as go
use Rattle.go_typing.specs.Typing.{Callee, a_function, a_built_in, by_value, callee_of, call_row, call_flaws, paren_row, prefix_row, operator_row, is_built_prefix, where_true, place_of, typing, bound_part, bound_flaws, all_flaws}
use Rattle.go_operands.specs.declared.answers.answer.Flaw as code
use Rattle.go_operands.specs.AnswerView.{flaw_view}
use Rattle.go_operands.specs.declared.operands.part.Part as code_part
use Rattle.go_operands.specs.Parts.{part}
use Rattle.go_calls.specs.CallView.{parts_view}
use Rattle.go_expr.specs.Stacked.{Hears, DoesOne, DoesTwo, DoesSlice, one_part, waiting}
use Rattle.go_expr.specs.Walked.{Walks, WalksBound, op_of}

-- ---- operators before operands

pub built_row : (ns : List NamedTy) (at : Place) (p : Prefix) (op : Op) (x : Part) → op_of p ≡ Some op → prefix_row ns at p x ≡ unary_row ns at op x
built_row ns at «prefix».Plus op x h = let e : operator.Plus ≡ op = cc in ap (λ (o : Op). unary_row ns at o x) e
built_row ns at «prefix».Neg op x h = let e : operator.Neg ≡ op = cc in ap (λ (o : Op). unary_row ns at o x) e
built_row ns at «prefix».Not op x h = let e : operator.Not ≡ op = cc in ap (λ (o : Op). unary_row ns at o x) e
built_row ns at «prefix».Compl op x h = let e : operator.Compl ≡ op = cc in ap (λ (o : Op). unary_row ns at o x) e
built_row ns at «prefix».Star op x h = absurd (cc)
built_row ns at «prefix».Address op x h = absurd (cc)
built_row ns at «prefix».Receive op x h = absurd (cc)

pub unbuilt_row : (ns : List NamedTy) (at : Place) (p : Prefix) (x : Part) → op_of p ≡ None → prefix_row ns at p x ≡ bad at 0
unbuilt_row ns at «prefix».Plus x h = absurd (cc)
unbuilt_row ns at «prefix».Neg x h = absurd (cc)
unbuilt_row ns at «prefix».Not x h = absurd (cc)
unbuilt_row ns at «prefix».Compl x h = absurd (cc)
unbuilt_row ns at «prefix».Star x h = refl
unbuilt_row ns at «prefix».Address x h = refl
unbuilt_row ns at «prefix».Receive x h = refl

built_prefix : (p : Prefix) (op : Op) → op_of p ≡ Some op → is_built_prefix p ≡ true
built_prefix «prefix».Plus op h = refl
built_prefix «prefix».Neg op h = refl
built_prefix «prefix».Not op h = refl
built_prefix «prefix».Compl op h = refl
built_prefix «prefix».Star op h = absurd (cc)
built_prefix «prefix».Address op h = absurd (cc)
built_prefix «prefix».Receive op h = absurd (cc)

unbuilt_prefix : (p : Prefix) → op_of p ≡ None → is_built_prefix p ≡ false
unbuilt_prefix «prefix».Plus h = absurd (cc)
unbuilt_prefix «prefix».Neg h = absurd (cc)
unbuilt_prefix «prefix».Not h = absurd (cc)
unbuilt_prefix «prefix».Compl h = absurd (cc)
unbuilt_prefix «prefix».Star h = refl
unbuilt_prefix «prefix».Address h = refl
unbuilt_prefix «prefix».Receive h = refl

-- parentheses have no fault of their own
no_paren : (a : Answer) → own (paren_row a) ≡ []
no_paren (value c t v) = refl
no_paren (pending p b) = refl
no_paren (type_ t) = refl
no_paren (package_ p) = refl
no_paren (built_in b) = refl
no_paren blank = refl
no_paren (does s) = refl
no_paren (wrong f fs) = refl
no_paren untyped_part = refl

-- ---- the walk

module _ (ts : List Ty) (ns : List NamedTy) (ss : List (List Bind)) where
  abbrev flaws : Expr → List Flaw
  flaws e = go.flaws ns ss e

  abbrev as_part : Expr → Part
  as_part e = part (place_of e) (typing ns ss e)

  abbrev told : List code.Flaw → List Flaw
  told fs = map flaw_view fs

  -- a node whose parts have told these faults
  made : (v : Expr) (at : Place) (a : Answer) (fs : List Flaw) (old new : List code_part.Part) (before mid after : List code.Flaw)
      → place_of v ≡ at → typing ns ss v ≡ a → flaws v ≡ fs ++ own a → told mid ≡ told before ++ fs → Hears ts at a old new mid after → Walks ts ns ss v old new before after
  made v at a fs old new before mid after p t f m h =
      record {
        parts = h.parts ∙ ap (λ (b : Answer). parts_view ts old ++ part at b ∷ []) (sym t) ∙ ap (λ (q : Place). parts_view ts old ++ part q (typing ns ss v) ∷ []) (sym p);
        flaws = h.flaws ∙ ap (λ (gs : List Flaw). gs ++ own a) m ∙ append_assoc (told before) fs (own a) ∙ ap (λ (gs : List Flaw). told before ++ gs) (sym f);
      }

  -- without parts
  pub leaf : (v w : Expr) (at : Place) (a : Answer) (old new : List code_part.Part) (before after : List code.Flaw)
      → v ≡ w → place_of w ≡ at → typing ns ss w ≡ a → flaws w ≡ own a → Hears ts at a old new before after → Walks ts ns ss v old new before after
  leaf v w at a old new before after e p t f h =
      subst (λ (u : Expr). Walks ts ns ss u old new before after) (sym e) (made w at a [] old new before before after p t f (sym (append-nil (told before))) h)

  hears_one : (at : Place) (row : Part → Answer) (x : Part) (old mid new : List code_part.Part) (before after : List code.Flaw)
      → parts_view ts mid ≡ parts_view ts old ++ x ∷ [] → DoesOne ts at row mid new before after → Hears ts at (row x) old new before after
  hears_one at row x old mid new before after e d = record { parts = d.parts (parts_view ts old) x e; flaws = d.flaws (parts_view ts old) x e }

  hears_two : (at : Place) (row : Part → Part → Answer) (x y : Part) (old mid low new : List code_part.Part) (before after : List code.Flaw)
      → parts_view ts mid ≡ parts_view ts old ++ x ∷ [] → parts_view ts low ≡ parts_view ts mid ++ y ∷ [] → DoesTwo ts at row low new before after → Hears ts at (row x y) old new before after
  hears_two at row x y old mid low new before after e f d =
      let both : parts_view ts low ≡ (parts_view ts old ++ x ∷ []) ++ y ∷ [] = f ∙ ap (λ (zs : List Part). zs ++ y ∷ []) e in
      record { parts = d.parts (parts_view ts old) x y both; flaws = d.flaws (parts_view ts old) x y both }

  pub paren : (v : Expr) (at : Place) (x : Expr) (p0 p1 p2 : List code_part.Part) (f0 f1 f2 : List code.Flaw)
      → v ≡ ParenExpr at x → Walks ts ns ss x p0 p1 f0 f1 → DoesOne ts at (λ y. paren_row y.answer) p1 p2 f1 f2 → Walks ts ns ss v p0 p2 f0 f2
  paren v at x p0 p1 p2 f0 f1 f2 e w d =
      subst (λ (u : Expr). Walks ts ns ss u p0 p2 f0 f2) (sym e)
      (made (ParenExpr at x) at (paren_row (typing ns ss x)) (flaws x) p0 p2 f0 f1 f2 refl refl
      (sym (append-nil (flaws x)) ∙ ap (λ (fs : List Flaw). flaws x ++ fs) (sym (no_paren (typing ns ss x))))
      w.flaws (hears_one at (λ (y : Part). paren_row y.answer) (as_part x) p0 p1 p2 f1 f2 w.parts d))

  pub unary : (v : Expr) (at : Place) (p : Prefix) (op : Op) (x : Expr) (p0 p1 p2 : List code_part.Part) (f0 f1 f2 : List code.Flaw)
      → v ≡ UnaryExpr at p x → op_of p ≡ Some op → Walks ts ns ss x p0 p1 f0 f1 → DoesOne ts at (unary_row ns at op) p1 p2 f1 f2 → Walks ts ns ss v p0 p2 f0 f2
  unary v at p op x p0 p1 p2 f0 f1 f2 e o w d =
      let row : typing ns ss (UnaryExpr at p x) ≡ unary_row ns at op (as_part x) = built_row ns at p op (as_part x) o in
      subst (λ (u : Expr). Walks ts ns ss u p0 p2 f0 f2) (sym e)
      (made (UnaryExpr at p x) at (unary_row ns at op (as_part x)) (flaws x) p0 p2 f0 f1 f2 refl row
      (ap (λ (b : Bool). where_true b (flaws x) ++ own (typing ns ss (UnaryExpr at p x))) (built_prefix p op o) ∙ ap (λ (a : Answer). flaws x ++ own a) row)
      w.flaws (hears_one at (unary_row ns at op) (as_part x) p0 p1 p2 f1 f2 w.parts d))

  pub unary_unbuilt : (v : Expr) (at : Place) (p : Prefix) (x : Expr) (p0 p1 : List code_part.Part) (f0 f1 : List code.Flaw)
      → v ≡ UnaryExpr at p x → op_of p ≡ None → Hears ts at (bad at 0) p0 p1 f0 f1 → Walks ts ns ss v p0 p1 f0 f1
  unary_unbuilt v at p x p0 p1 f0 f1 e o h =
      let row : typing ns ss (UnaryExpr at p x) ≡ bad at 0 = unbuilt_row ns at p (as_part x) o in
      leaf v (UnaryExpr at p x) at (bad at 0) p0 p1 f0 f1 e refl row
      (ap (λ (b : Bool). where_true b (flaws x) ++ own (typing ns ss (UnaryExpr at p x))) (unbuilt_prefix p o) ∙ ap own row) h

  two_told : (x y : List Flaw) (f0 f1 f2 : List code.Flaw) → told f1 ≡ told f0 ++ x → told f2 ≡ told f1 ++ y → told f2 ≡ told f0 ++ (x ++ y)
  two_told x y f0 f1 f2 p q = q ∙ ap (λ (fs : List Flaw). fs ++ y) p ∙ append_assoc (told f0) x y

  pub binary : (v : Expr) (at : Place) (x : Expr) (op : Op) (y : Expr) (p0 p1 p2 p3 : List code_part.Part) (f0 f1 f2 f3 : List code.Flaw)
      → v ≡ BinaryExpr at x op y → Walks ts ns ss x p0 p1 f0 f1 → Walks ts ns ss y p1 p2 f1 f2 → DoesTwo ts at (operator_row ns at op) p2 p3 f2 f3 → Walks ts ns ss v p0 p3 f0 f3
  binary v at x op y p0 p1 p2 p3 f0 f1 f2 f3 e w u d =
      subst (λ (t : Expr). Walks ts ns ss t p0 p3 f0 f3) (sym e)
      (made (BinaryExpr at x op y) at (operator_row ns at op (as_part x) (as_part y)) (flaws x ++ flaws y) p0 p3 f0 f2 f3 refl refl refl
      (two_told (flaws x) (flaws y) f0 f1 f2 w.flaws u.flaws)
      (hears_two at (operator_row ns at op) (as_part x) (as_part y) p0 p1 p2 p3 f2 f3 w.parts u.parts d))

  pub index : (v : Expr) (at : Place) (x i : Expr) (p0 p1 p2 p3 : List code_part.Part) (f0 f1 f2 f3 : List code.Flaw)
      → v ≡ IndexExpr at x i → Walks ts ns ss x p0 p1 f0 f1 → Walks ts ns ss i p1 p2 f1 f2 → DoesTwo ts at (index_row ns at) p2 p3 f2 f3 → Walks ts ns ss v p0 p3 f0 f3
  index v at x i p0 p1 p2 p3 f0 f1 f2 f3 e w u d =
      subst (λ (t : Expr). Walks ts ns ss t p0 p3 f0 f3) (sym e)
      (made (IndexExpr at x i) at (index_row ns at (as_part x) (as_part i)) (flaws x ++ flaws i) p0 p3 f0 f2 f3 refl refl refl
      (two_told (flaws x) (flaws i) f0 f1 f2 w.flaws u.flaws)
      (hears_two at (index_row ns at) (as_part x) (as_part i) p0 p1 p2 p3 f2 f3 w.parts u.parts d))

  -- ---- slices

  is_bound : (o : Option tree.Expr) → is_some (bound_part ns ss (maybe_expr (option_map expr_view o))) ≡ is_some o
  is_bound None = refl
  is_bound (Some x) = refl

  pub slice : (v : Expr) (at : Place) (x : Expr) (low high most : Option tree.Expr) (l h m : Bool) (p0 p1 p2 p3 p4 p5 : List code_part.Part) (f0 f1 f2 f3 f4 f5 : List code.Flaw)
      → v ≡ SliceExpr at x (maybe_expr (option_map expr_view low)) (maybe_expr (option_map expr_view high)) (maybe_expr (option_map expr_view most))
      → l ≡ is_some low → h ≡ is_some high → m ≡ is_some most
      → Walks ts ns ss x p0 p1 f0 f1 → WalksBound ts ns ss (maybe_expr (option_map expr_view low)) p1 p2 f1 f2
      → WalksBound ts ns ss (maybe_expr (option_map expr_view high)) p2 p3 f2 f3 → WalksBound ts ns ss (maybe_expr (option_map expr_view most)) p3 p4 f3 f4
      → DoesSlice ts at (slice_row ns at) l h m p4 p5 f4 f5 → Walks ts ns ss v p0 p5 f0 f5
  slice v at x low high most l h m p0 p1 p2 p3 p4 p5 f0 f1 f2 f3 f4 f5 e il ih im w wl wh wm d =
      let all : parts_view ts p4 ≡ waiting (parts_view ts p0) (as_part x) (bound_part ns ss (maybe_expr (option_map expr_view low))) (bound_part ns ss (maybe_expr (option_map expr_view high))) (bound_part ns ss (maybe_expr (option_map expr_view most))) =
      wm.parts ∙ ap (λ (zs : List Part). zs ++ one_part (bound_part ns ss (maybe_expr (option_map expr_view most))))
      (wh.parts ∙ ap (λ (zs : List Part). zs ++ one_part (bound_part ns ss (maybe_expr (option_map expr_view high)))) (wl.parts ∙ ap (λ (zs : List Part). zs ++ one_part (bound_part ns ss (maybe_expr (option_map expr_view low)))) w.parts)) in
      let sl : is_some (bound_part ns ss (maybe_expr (option_map expr_view low))) ≡ l = is_bound low ∙ sym il in
      let sh : is_some (bound_part ns ss (maybe_expr (option_map expr_view high))) ≡ h = is_bound high ∙ sym ih in
      let sm : is_some (bound_part ns ss (maybe_expr (option_map expr_view most))) ≡ m = is_bound most ∙ sym im in
      subst (λ (t : Expr). Walks ts ns ss t p0 p5 f0 f5) (sym e)
      (made (SliceExpr at x (maybe_expr (option_map expr_view low)) (maybe_expr (option_map expr_view high)) (maybe_expr (option_map expr_view most))) at (slice_row ns at (as_part x) (bound_part ns ss (maybe_expr (option_map expr_view low))) (bound_part ns ss (maybe_expr (option_map expr_view high))) (bound_part ns ss (maybe_expr (option_map expr_view most))))
      (flaws x ++ (bound_flaws ns ss (maybe_expr (option_map expr_view low)) ++ (bound_flaws ns ss (maybe_expr (option_map expr_view high)) ++ bound_flaws ns ss (maybe_expr (option_map expr_view most))))) p0 p5 f0 f4 f5 refl refl refl
      (two_told (flaws x) (bound_flaws ns ss (maybe_expr (option_map expr_view low)) ++ (bound_flaws ns ss (maybe_expr (option_map expr_view high)) ++ bound_flaws ns ss (maybe_expr (option_map expr_view most)))) f0 f1 f4 w.flaws
      (two_told (bound_flaws ns ss (maybe_expr (option_map expr_view low))) (bound_flaws ns ss (maybe_expr (option_map expr_view high)) ++ bound_flaws ns ss (maybe_expr (option_map expr_view most))) f1 f2 f4 wl.flaws
      (two_told (bound_flaws ns ss (maybe_expr (option_map expr_view high))) (bound_flaws ns ss (maybe_expr (option_map expr_view most))) f2 f3 f4 wh.flaws wm.flaws)))
      (record {
        parts = d.parts (parts_view ts p0) (as_part x) (bound_part ns ss (maybe_expr (option_map expr_view low))) (bound_part ns ss (maybe_expr (option_map expr_view high))) (bound_part ns ss (maybe_expr (option_map expr_view most))) sl sh sm all;
        flaws = d.flaws (parts_view ts p0) (as_part x) (bound_part ns ss (maybe_expr (option_map expr_view low))) (bound_part ns ss (maybe_expr (option_map expr_view high))) (bound_part ns ss (maybe_expr (option_map expr_view most))) sl sh sm all;
      }))

  -- ---- calls

  pub function_call : (v : Expr) (at : Place) (f : Expr) (xs : Exprs) (spread : Bool) (id : ℕ) (ps rs : Tys) (more : Bool) (gs : List Part) (p0 p1 : List code_part.Part) (f0 f1 f2 : List code.Flaw)
      → v ≡ CallExpr at f xs spread → a_function id ps rs more ≡ callee_of ss f → gs ≡ go.parts ns ss xs → told f1 ≡ told f0 ++ all_flaws ns ss xs
      → Hears ts at (function_row ns at id ps rs more spread gs) p0 p1 f1 f2 → Walks ts ns ss v p0 p1 f0 f2
  function_call v at f xs spread id ps rs more gs p0 p1 f0 f1 f2 e c g t h =
      let row : typing ns ss (CallExpr at f xs spread) ≡ function_row ns at id ps rs more spread gs =
      ap (λ (k : Callee). call_row ns at k (as_part f) spread (go.parts ns ss xs)) (sym c) ∙ ap (function_row ns at id ps rs more spread) (sym g) in
      subst (λ (u : Expr). Walks ts ns ss u p0 p1 f0 f2) (sym e)
      (made (CallExpr at f xs spread) at (function_row ns at id ps rs more spread gs) (all_flaws ns ss xs) p0 p1 f0 f1 f2 refl row
      (ap (λ (k : Callee). call_flaws k (flaws f) (all_flaws ns ss xs) ++ own (typing ns ss (CallExpr at f xs spread))) (sym c) ∙ ap (λ (a : Answer). all_flaws ns ss xs ++ own a) row) t h)

  pub built_in_call : (v : Expr) (at : Place) (f : Expr) (xs : Exprs) (spread : Bool) (b : Builtin) (gs : List Part) (p0 p1 : List code_part.Part) (f0 f1 f2 : List code.Flaw)
      → v ≡ CallExpr at f xs spread → a_built_in b ≡ callee_of ss f → is_built b ≡ true → gs ≡ go.parts ns ss xs → told f1 ≡ told f0 ++ all_flaws ns ss xs
      → Hears ts at (built_in_row ns at b spread gs) p0 p1 f1 f2 → Walks ts ns ss v p0 p1 f0 f2
  built_in_call v at f xs spread b gs p0 p1 f0 f1 f2 e c i g t h =
      let row : typing ns ss (CallExpr at f xs spread) ≡ built_in_row ns at b spread gs =
      ap (λ (k : Callee). call_row ns at k (as_part f) spread (go.parts ns ss xs)) (sym c) ∙ ap (built_in_row ns at b spread) (sym g) in
      subst (λ (u : Expr). Walks ts ns ss u p0 p1 f0 f2) (sym e)
      (made (CallExpr at f xs spread) at (built_in_row ns at b spread gs) (all_flaws ns ss xs) p0 p1 f0 f1 f2 refl row
      (ap (λ (k : Callee). call_flaws k (flaws f) (all_flaws ns ss xs) ++ own (typing ns ss (CallExpr at f xs spread))) (sym c)
      ∙ ap (λ (u : Bool). where_true u (all_flaws ns ss xs) ++ own (typing ns ss (CallExpr at f xs spread))) i ∙ ap (λ (a : Answer). all_flaws ns ss xs ++ own a) row) t h)

  unbuilt_call : (at : Place) (b : Builtin) (spread : Bool) (xs : List Part) → is_built b ≡ false → built_in_row ns at b spread xs ≡ bad at 0
  unbuilt_call at b spread xs i = rw i refl

  pub built_in_unbuilt : (v : Expr) (at : Place) (f : Expr) (xs : Exprs) (spread : Bool) (b : Builtin) (p0 p1 : List code_part.Part) (f0 f1 : List code.Flaw)
      → v ≡ CallExpr at f xs spread → a_built_in b ≡ callee_of ss f → is_built b ≡ false → Hears ts at (bad at 0) p0 p1 f0 f1 → Walks ts ns ss v p0 p1 f0 f1
  built_in_unbuilt v at f xs spread b p0 p1 f0 f1 e c i h =
      let row : typing ns ss (CallExpr at f xs spread) ≡ bad at 0 = ap (λ (k : Callee). call_row ns at k (as_part f) spread (go.parts ns ss xs)) (sym c) ∙ unbuilt_call at b spread (go.parts ns ss xs) i in
      leaf v (CallExpr at f xs spread) at (bad at 0) p0 p1 f0 f1 e refl row
      (ap (λ (k : Callee). call_flaws k (flaws f) (all_flaws ns ss xs) ++ own (typing ns ss (CallExpr at f xs spread))) (sym c)
      ∙ ap (λ (u : Bool). where_true u (all_flaws ns ss xs) ++ own (typing ns ss (CallExpr at f xs spread))) i ∙ ap own row) h

  pub value_call : (v : Expr) (at : Place) (f : Expr) (xs : Exprs) (spread : Bool) (gs : List Part) (p0 p1 p2 : List code_part.Part) (f0 f1 f2 f3 : List code.Flaw)
      → v ≡ CallExpr at f xs spread → by_value ≡ callee_of ss f → Walks ts ns ss f p0 p1 f0 f1 → gs ≡ go.parts ns ss xs → told f2 ≡ told f1 ++ all_flaws ns ss xs
      → DoesOne ts at (λ y. called_row ns at y spread gs) p1 p2 f2 f3 → Walks ts ns ss v p0 p2 f0 f3
  value_call v at f xs spread gs p0 p1 p2 f0 f1 f2 f3 e c w g t d =
      let row : typing ns ss (CallExpr at f xs spread) ≡ called_row ns at (as_part f) spread gs =
      ap (λ (k : Callee). call_row ns at k (as_part f) spread (go.parts ns ss xs)) (sym c) ∙ ap (called_row ns at (as_part f) spread) (sym g) in
      subst (λ (u : Expr). Walks ts ns ss u p0 p2 f0 f3) (sym e)
      (made (CallExpr at f xs spread) at (called_row ns at (as_part f) spread gs) (flaws f ++ all_flaws ns ss xs) p0 p2 f0 f2 f3 refl row
      (ap (λ (k : Callee). call_flaws k (flaws f) (all_flaws ns ss xs) ++ own (typing ns ss (CallExpr at f xs spread))) (sym c) ∙ ap (λ (a : Answer). (flaws f ++ all_flaws ns ss xs) ++ own a) row)
      (two_told (flaws f) (all_flaws ns ss xs) f0 f1 f2 w.flaws t)
      (hears_one at (λ (y : Part). called_row ns at y spread gs) (as_part f) p0 p1 p2 f2 f3 w.parts d))

  -- ---- several

  -- so far, and what is left
  pub record Reaches (xs : List tree.Expr) (i : ℕ) (old new : List code_part.Part) (before after : List code.Flaw) : Type 0 where
    pub waits : parts_view ts new ++ go.parts ns ss (exprs_of (map expr_view (drop i xs))) ≡ parts_view ts old ++ go.parts ns ss (exprs_of (map expr_view xs))
    pub tells : told after ++ all_flaws ns ss (exprs_of (map expr_view (drop i xs))) ≡ told before ++ all_flaws ns ss (exprs_of (map expr_view xs))
