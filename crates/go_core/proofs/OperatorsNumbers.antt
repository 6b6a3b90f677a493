-- Operators on numbers, truth values, texts and places give values of their types.
use Rattle.std.proofs.Common.{refl, sym, ap, ◌∙◌, subst, arith}
use Rattle.std.specs.Prelude.{◌≡◌, ◌<◌, ℕ, zero, suc, ◌+◌, ◌*◌, ℤ, pos, List, [], ◌∷◌, Bool, not, nat_lt, length, min, Option, Some, None, slice_get}
use Rattle.gj_base.specs.declared.kind.Op.{Op}
use Rattle.gj_base.specs.declared.kind.Kind.{Kind}
use Rattle.go_type.specs.declared.types.IntName.TheVariants as integer
use Rattle.go_type.specs.Tree as ty
use Rattle.go_type.specs.Tree.{Ty}
use Rattle.go_type.specs.Underlying.{underlying}
use Rattle.go_core.specs.Layout.{kind_of, shape_of, size, weight}
use Rattle.go_core.specs.Memory as cell
use Rattle.go_core.specs.Memory.{Scalar, Value, Memory, zeros, read_cells}
use Rattle.go_core.specs.CoreTree.{Constant, truth_constant, whole_constant, text_constant, CoreProgram}
use Rattle.go_core.specs.TypeOf.{FieldTy, field_in, global_type}
use Rattle.go_core.specs.SoundNode.{Fits, IsInt, IsBool, IsText, IsOrdered}
use Rattle.go_core.specs.SoundProgram.{AreSet}
use Rattle.go_core.specs.Arithmetic.{in_order}
use Rattle.go_core.specs.Text.{text_less}
use Rattle.go_core.specs.Equality.{Verdict, equal, different, refused}
use Rattle.go_core.specs.Did.{Did, gives}
use Rattle.go_core.specs.StepNumbers as n
use Rattle.go_core.specs.StepMemory as s
use Rattle.go_core.specs.Leaves.{leaf_of, leaves_of, times, Spans}
use Rattle.go_core.specs.Typed.{World, truth_typed, whole_typed, IsOf, MemoryTyped}
use Rattle.go_core.specs.Applies.{a_value, a_place, PlaceOf}
use Rattle.go_core.specs.TypingLaws.{DidTyped}
use Rattle.go_core.specs.WellFormed.{GlobalsLie}
use Rattle.go_core.proofs.LeavesLemmas.{size_leaves, zeros_of, under_shape, under_leaves, field_spans, unfilled, spans_element}
use Rattle.go_core.proofs.MemoryLemmas.{reads}
use Rattle.go_core.proofs.TypedScalars.{is_int, pointer_in, slice_in, as_pointer, one_scalar, place_in, down, up, up_whole, up_truth, up_text, on_int, on_bool, on_str, if_did, kept, indexed}

get_within : {A : Type 0} (xs : List A) (k : ℕ) → k < length xs → (x : A) × (slice_get xs k ≡ Some x)
get_within [] k lt = absurd (omega arith)
get_within (x ∷ xs) zero lt = (x, refl)
get_within (x ∷ xs) (suc k) lt = get_within xs k (omega arith)

pub struct_is : (u : Ty) (k : ℕ) (f : FieldTy) → field_in u k ≡ Some f → (fs : ty.Fields) × (u ≡ ty.struct fs)
struct_is (ty.struct fs) k f e = (fs, refl)
struct_is _ k f e = absurd (cc)

module _ (p : CoreProgram) (w : World) (set : AreSet p) (m : Memory) (mt : MemoryTyped p w m) where
  abbrev D : Ty → Did → Type 0
  D t d = DidTyped p w (a_value t ∷ []) d

  abbrev P : Ty → Did → Type 0
  P t d = DidTyped p w (a_place t ∷ []) d

  ok : (t : Ty) (x : Value) (u : ℕ) → IsOf p w t x → D t (gives (x ∷ []) m u)
  ok t x u h = kept p w m mt (a_value t ∷ []) (x ∷ []) u (h, tt)

  lies : (t : Ty) (base u : ℕ) → Spans w.cells base (leaves_of p.names t) → P t (gives ((cell.pointer base ∷ []) ∷ []) m u)
  lies t base u h = kept p w m mt (a_place t ∷ []) ((cell.pointer base ∷ []) ∷ []) u (h, tt)

  pub made : (t : Ty) (bytes : List ℕ) → IsText (underlying p.names t) → D t (n.made_text m bytes)
  made t bytes i = if_did (D t) (nat_lt n.most_bytes (length bytes)) _ _ (λ e. tt) (λ e. ok t (cell.text bytes ∷ []) (length bytes) (up_text p w set t bytes i))

  by_fits : (t u : Ty) (c : Constant) → underlying p.names t ≡ u → Fits u c → D t (s.constant_step c m)
  by_fits t ty.bool (truth_constant b) e h = ok t _ 1 (up p w set t ty.bool (cell.truth b ∷ []) e (truth_typed b, tt))
  by_fits t (ty.int name) (whole_constant k) e h = ok t _ 1 (up p w set t (ty.int name) (cell.whole k ∷ []) e (whole_typed name k, tt))
  by_fits t ty.str (text_constant bytes) e h = made t bytes (subst IsText (sym e) tt)
  by_fits t _ _ e h = absurd h

  pub constant : (t : Ty) (c : Constant) → Fits (underlying p.names t) c → D t (s.constant_step c m)
  constant t c h = by_fits t (underlying p.names t) c refl h

  pub zero_value : (t : Ty) → D t (s.zero_step (shape_of p.names t) m)
  zero_value t = ok t (zeros (shape_of p.names t)) (weight (shape_of p.names t)) (zeros_of p w p.names t)

  pub global : (gl : GlobalsLie p w) (k : ℕ) (t : Ty) → global_type (slice_get p.globals k) ≡ Some t → P t (gives ((cell.pointer (s.global_base p.names p.globals k) ∷ []) ∷ []) m 0)
  global gl k t e = lies t _ 0 (gl k t e)

  pub deref : (q t : Ty) (x : Value) → underlying p.names q ≡ ty.pointer t → IsOf p w q x → P t (s.deref_step x m)
  deref q t x e h =
      one_scalar p w (leaf_of (ty.pointer t)) x (λ y. P t (s.deref_step y m)) (down p w set q (ty.pointer t) x e h)
      (λ y g. pointer_in p w t y (λ z. P t (s.deref_step (z ∷ []) m)) g tt (λ base l. lies t base 0 l))

  pub field : (t : Ty) (k : ℕ) (f : FieldTy) (x : Value) → field_in (underlying p.names t) k ≡ Some f → PlaceOf p w t x → P f.type_ (s.field_step (shape_of p.names t) k x m)
  field t k f x e h =
      let g = struct_is (underlying p.names t) k f e in
      let sh = under_shape p set t ∙ ap (shape_of p.names) g.1 in
      let ls = under_leaves p set t ∙ ap (leaves_of p.names) g.1 in
      let e2 : field_in (ty.struct g.0) k ≡ Some f = ap (λ u. field_in u k) (sym g.1) ∙ e in
      subst (λ q. P f.type_ (s.field_step q k x m)) (sym sh)
      (place_in p w t x (λ y. P f.type_ (s.field_step (shape_of p.names (ty.struct g.0)) k y m)) h
      (λ base l. lies f.type_ _ 0 (field_spans p.names g.0 k f w.cells base e2 (subst (Spans w.cells base) ls l))))

  pub elem : (t i u : Ty) (k : ℕ) (x y : Value) → underlying p.names t ≡ ty.array k u → IsInt (underlying p.names i) → PlaceOf p w t x → IsOf p w i y → P u (s.elem_step p.names (underlying p.names t) x y m)
  elem t i u k x y e j h g =
      let ls = under_leaves p set t ∙ ap (leaves_of p.names) e in
      subst (λ v. P u (s.elem_step p.names v x y m)) (sym e)
      (place_in p w t x (λ z. P u (s.elem_step p.names (ty.array k u) z y m)) h
      (λ base l. on_int p w set i y (P u) _ j g
      (λ index. indexed p w m mt (a_place u ∷ []) index k _
      (λ at lt. lies u _ 0 (subst (λ z. Spans w.cells (base + at * z) (leaves_of p.names u)) (sym (size_leaves p.names u))
      (spans_element w.cells (leaves_of p.names u) base k at lt (unfilled w.cells base (times k (leaves_of p.names u)) (subst (Spans w.cells base) ls l))))))))

  pub slice_elem : (t i u : Ty) (x y : Value) → underlying p.names t ≡ ty.slice u → IsInt (underlying p.names i) → IsOf p w t x → IsOf p w i y → P u (s.slice_elem_step p.names (underlying p.names t) x y m)
  slice_elem t i u x y e j h g =
      subst (λ v. P u (s.slice_elem_step p.names v x y m)) (sym e)
      (on_int p w set i y (P u) _ j g
      (λ index. one_scalar p w (leaf_of (ty.slice u)) x (λ z. P u (s.slice_elem_at (size (shape_of p.names u)) z index m)) (down p w set t (ty.slice u) x e h)
      (λ z l. slice_in p w u z (λ v. P u (s.slice_elem_at (size (shape_of p.names u)) (v ∷ []) index m)) l
      (indexed p w m mt (a_place u ∷ []) index 0 _ (λ at lt. absurd (omega arith)))
      (λ base len capacity le q. indexed p w m mt (a_place u ∷ []) index len _
      (λ at lt. lies u _ 0 (subst (λ z. Spans w.cells (base + at * z) (leaves_of p.names u)) (sym (size_leaves p.names u))
      (spans_element w.cells (leaves_of p.names u) base capacity at (omega (arith, lt, le)) q)))))))

  pub read : (t : Ty) (x : Value) → PlaceOf p w t x → D t (s.read_step (shape_of p.names t) x m)
  read t x h =
      place_in p w t x (λ y. D t (s.read_step (shape_of p.names t) y m)) h
      (λ base l. ok t (read_cells base (size (shape_of p.names t)) m.cells) (weight (shape_of p.names t)) (reads p w m base (size (shape_of p.names t)) (leaves_of p.names t) mt l (size_leaves p.names t)))

  pub address : (t : Ty) (x : Value) → PlaceOf p w t x → D (ty.pointer t) (gives (x ∷ []) m 0)
  address t x h = place_in p w t x (λ y. D (ty.pointer t) (gives (y ∷ []) m 0)) h (λ base l. ok (ty.pointer t) (cell.pointer base ∷ []) 0 (as_pointer p w t base l, tt))

  pub place : (t : Ty) (x : Value) → PlaceOf p w t x → P t (gives (x ∷ []) m 0)
  place t x h = kept p w m mt (a_place t ∷ []) (x ∷ []) 0 (h, tt)

  kinded : (t : Ty) (f : Kind → Did) → IsInt (underlying p.names t) → ((k : Kind) → D t (f k)) → D t (n.on_kind (underlying p.names t) f)
  kinded t f i h = let e = is_int (underlying p.names t) i in subst (λ u. D t (n.on_kind u f)) (sym e.1) (h (kind_of e.0))

  number : (t : Ty) (op : Op) (k : Kind) (o : Option ℤ) → IsInt (underlying p.names t) → D t (n.number_or op k m o)
  number t op k None i = tt
  number t op k (Some x) i = ok t _ 0 (up_whole p w set t _ i)

  pub unary : (op : Op) (t : Ty) (x : Value) → IsInt (underlying p.names t) → IsOf p w t x → D t (n.unary_step p.names op t x m)
  unary op t x i h = kinded t _ i (λ k. on_int p w set t x (D t) _ i h (λ a. ok t _ 0 (up_whole p w set t _ i)))

  pub binary : (op : Op) (t u : Ty) (x y : Value) → IsInt (underlying p.names t) → IsInt (underlying p.names u) → IsOf p w t x → IsOf p w u y → D t (n.binary_step p.names op t x y m)
  binary op t u x y i j h g = kinded t _ i (λ k. on_int p w set t x (D t) _ i h (λ a. on_int p w set u y (D t) _ j g (λ b. number t op k _ i)))

  pub concat : (t : Ty) (x y : Value) → IsText (underlying p.names t) → IsOf p w t x → IsOf p w t y → D t (n.concat_step x y m)
  concat t x y i h g = on_str p w set t x (D t) _ i h (λ a. on_str p w set t y (D t) _ i g (λ b. made t _ i))

  pub negation : (t : Ty) (x : Value) → IsBool (underlying p.names t) → IsOf p w t x → D t (n.not_step x m)
  negation t x i h = on_bool p w set t x (D t) _ i h (λ b. ok t _ 0 (up_truth p w set t (not b) i))

  pub equals : (negated : Bool) (v : Verdict) (u : Ty) → IsBool (underlying p.names u) → D u (n.equal_step negated v m)
  equals negated (equal k) u i = ok u _ k (up_truth p w set u _ i)
  equals negated (different k) u i = ok u _ k (up_truth p w set u _ i)
  equals negated (refused k) u i = tt

  by_ordered : (op : Op) (t u v : Ty) (x y : Value) → underlying p.names t ≡ v → IsOrdered v → IsBool (underlying p.names u) → IsOf p w t x → IsOf p w t y → D u (n.less_step op v x y m)
  by_ordered op t u (ty.int name) x y e o i h g =
      let j = subst IsInt (sym e) tt in on_int p w set t x (D u) _ j h (λ a. on_int p w set t y (D u) _ j g (λ b. ok u _ 1 (up_truth p w set u _ i)))
  by_ordered op t u ty.str x y e o i h g =
      let j = subst IsText (sym e) tt in on_str p w set t x (D u) _ j h (λ a. on_str p w set t y (D u) _ j g (λ b. ok u (cell.truth (in_order op (text_less a b) (text_less b a)) ∷ []) (1 + min (length a) (length b)) (up_truth p w set u (in_order op (text_less a b) (text_less b a)) i)))
  by_ordered op t u _ x y e o i h g = absurd o

  pub less : (op : Op) (t u : Ty) (x y : Value) → IsOrdered (underlying p.names t) → IsBool (underlying p.names u) → IsOf p w t x → IsOf p w t y → D u (n.less_step op (underlying p.names t) x y m)
  less op t u x y o i h g = by_ordered op t u (underlying p.names t) x y refl o i h g

  byte : (k : ℕ) (bytes : List ℕ) → k < length bytes → D (ty.int integer.Uint8) (s.byte_or_none m (slice_get bytes k))
  byte k bytes lt = let g = get_within bytes k lt in subst (λ o. D (ty.int integer.Uint8) (s.byte_or_none m o)) (sym g.1) (ok (ty.int integer.Uint8) (cell.whole (pos g.0) ∷ []) 0 (whole_typed integer.Uint8 (pos g.0), tt))

  pub byte_at : (t i : Ty) (x y : Value) → IsText (underlying p.names t) → IsInt (underlying p.names i) → IsOf p w t x → IsOf p w i y → D (ty.int integer.Uint8) (s.byte_at_step x y m)
  byte_at t i x y a b h g =
      on_str p w set t x (D (ty.int integer.Uint8)) _ a h (λ bytes. on_int p w set i y (D (ty.int integer.Uint8)) _ b g
      (λ index. indexed p w m mt (a_value (ty.int integer.Uint8) ∷ []) index (length bytes) _ (λ k lt. byte k bytes lt)))
