-- What a scalar of a leaf can be, and what follows of a step that looks at one.
use Rattle.std.proofs.Common.{refl, sym, ap, ◌∙◌, subst}
use Rattle.std.specs.Prelude.{◌≡◌, ◌<◌, ◌≤◌, ℕ, ℤ, pos, negsuc, List, [], ◌∷◌, Bool, true, false, if◌then◌else◌, nat_lt, Some, None, slice_get}
use Rattle.std.proofs.lemmas.Bool.{ltb-true}
use Rattle.go_type.specs.declared.types.IntName.{IntName}
use Rattle.go_type.specs.declared.types.Dir.{Dir}
use Rattle.go_type.specs.Tree as ty
use Rattle.go_type.specs.Tree.{Ty, Tys, Specs}
use Rattle.go_type.specs.Underlying.{underlying}
use Rattle.go_core.specs.Memory as cell
use Rattle.go_core.specs.Memory.{Scalar, Scalars, Value, Memory, listed}
use Rattle.go_core.specs.Untagged.{untagged, untagged_types, untagged_specs}
use Rattle.go_core.specs.CoreTree.{MethodRow, CoreProgram}
use Rattle.go_core.specs.TypeOf.{listed_types}
use Rattle.go_core.specs.SoundNode.{IsInt, IsBool, IsText}
use Rattle.go_core.specs.SoundProgram.{AreSet}
use Rattle.go_core.specs.RunPanic.{bad_index}
use Rattle.go_core.specs.Did.{Did, gives, panics, on_truth, on_whole, on_text}
use Rattle.go_core.specs.StepMemory.{on_index}
use Rattle.go_core.specs.Leaves.{Leaf, leaf, leaf_of, leaves_of, times, Spans}
use Rattle.go_core.specs.Typed.{World, untagged_map, Takes, AnswersLike, ScalarTyped, ScalarsTyped, truth_typed, whole_typed, text_typed, nil_typed, pointer_typed, slice_typed, function_typed, method_typed, interface_typed, map_typed, channel_typed, Lists, IsOf, MemoryTyped}
use Rattle.go_core.specs.Applies.{Slot, IsIn, AreIn, PlaceOf}
use Rattle.go_core.specs.TypingLaws.{DidTyped}
use Rattle.go_core.proofs.UntaggedLemmas.{leaves_untagged, listed_alike, takes_alike, answers_untagged, answers_tagged}
use Rattle.go_core.proofs.LeavesLemmas.{under_leaves}
use Rattle.go_core.proofs.MemoryLemmas.{same_world}

pub is_int : (u : Ty) → IsInt u → (name : IntName) × (u ≡ ty.int name)
is_int (ty.int name) h = (name, refl)
is_int _ h = absurd h

pub is_bool : (u : Ty) → IsBool u → u ≡ ty.bool
is_bool ty.bool h = refl
is_bool _ h = absurd h

pub is_text : (u : Ty) → IsText u → u ≡ ty.str
is_text ty.str h = refl
is_text _ h = absurd h

module _ (p : CoreProgram) (w : World) where
  -- ---- one scalar

  pub truth_in : (x : Scalar) (Q : Scalar → Type 0) → ScalarTyped p w (leaf ty.bool) x → ((b : Bool) → Q (cell.truth b)) → Q x
  truth_in x Q (truth_typed b) f = f b
  truth_in x Q (nil_typed l e) f = absurd (cc)

  pub whole_in : (name : IntName) (x : Scalar) (Q : Scalar → Type 0) → ScalarTyped p w (leaf (ty.int name)) x → ((n : ℤ) → Q (cell.whole n)) → Q x
  whole_in name x Q (whole_typed k n) f = f n
  whole_in name x Q (nil_typed l e) f = absurd (cc)

  pub text_in : (x : Scalar) (Q : Scalar → Type 0) → ScalarTyped p w (leaf ty.str) x → ((bytes : List ℕ) → Q (cell.text bytes)) → Q x
  text_in x Q (text_typed bytes) f = f bytes
  text_in x Q (nil_typed l e) f = absurd (cc)

  pub pointer_in : (t : Ty) (x : Scalar) (Q : Scalar → Type 0) → ScalarTyped p w (leaf_of (ty.pointer t)) x → Q cell.nil → ((base : ℕ) → Spans w.cells base (leaves_of p.names t) → Q (cell.pointer base)) → Q x
  pointer_in t x Q (pointer_typed u base h) n f = f base (subst (λ ls. Spans w.cells base ls) (leaves_untagged p.names t) h)
  pointer_in t x Q (nil_typed l e) n f = n

  pub slice_in : (t : Ty) (x : Scalar) (Q : Scalar → Type 0) → ScalarTyped p w (leaf_of (ty.slice t)) x → Q cell.nil
      → ((base len capacity : ℕ) → len ≤ capacity → Spans w.cells base (times capacity (leaves_of p.names t)) → Q (cell.slice base len capacity)) → Q x
  slice_in t x Q (slice_typed u base len capacity le h) n f = f base len capacity le (subst (λ ls. Spans w.cells base (times capacity ls)) (leaves_untagged p.names t) h)
  slice_in t x Q (nil_typed l e) n f = n

  pub map_in : (k v : Ty) (x : Scalar) (Q : Scalar → Type 0) → ScalarTyped p w (leaf_of (ty.mapping k v)) x → Q cell.nil
      → ((name : ℕ) → slice_get w.maps name ≡ Some (untagged_map (record { key = k; value = v })) → Q (cell.map name)) → Q x
  map_in k v x Q (map_typed a b name h) n f = f name h
  map_in k v x Q (nil_typed l e) n f = n

  pub channel_in : (d : Dir) (t : Ty) (x : Scalar) (Q : Scalar → Type 0) → ScalarTyped p w (leaf_of (ty.chan d t)) x → Q cell.nil
      → ((name : ℕ) → slice_get w.channels name ≡ Some (untagged t) → Q (cell.channel name)) → Q x
  channel_in d t x Q (channel_typed e u name h) n f = f name h
  channel_in d t x Q (nil_typed l e) n f = n

  pub interface_in : (ms : Specs) (x : Scalar) (Q : Scalar → Type 0) → ScalarTyped p w (leaf_of (ty.interface ms)) x → Q cell.nil
      → ((t : Ty) (xs : Scalars) → AnswersLike p t ms → ScalarsTyped p w (leaves_of p.names t) xs → Q (cell.interface t xs)) → Q x
  interface_in ms x Q (interface_typed ns t xs h k) n f = f t xs (answers_tagged p t ms h) k
  interface_in ms x Q (nil_typed l e) n f = n

  pub function_in : (ps rs : Tys) (variadic : Bool) (x : Scalar) (Q : Scalar → Type 0) → ScalarTyped p w (leaf_of (ty.func ps rs variadic)) x → Q cell.nil
      → ((func : ℕ) (bases : List ℕ) → Takes p w.cells func bases None (listed_types ps) (listed_types rs) → Q (cell.function func bases))
      → ((row : ℕ) (receiver : Scalars) (r : MethodRow) → slice_get p.methods row ≡ Some r → Takes p w.cells r.func [] (Some row) (r.type_ ∷ listed_types ps) (listed_types rs) → ScalarsTyped p w (leaves_of p.names r.type_) receiver
      → Q (cell.bound_method row receiver)) → Q x
  function_in ps rs variadic x Q (function_typed a b c func bases h) n f g =
      f func bases (takes_alike p w.cells func bases None (listed_types ps) (listed_types (untagged_types ps)) (listed_types rs) (listed_types (untagged_types rs)) (sym (listed_alike ps)) (sym (listed_alike rs)) h)
  function_in ps rs variadic x Q (method_typed a b c row receiver r at h k) n f g =
      g row receiver r at
      (takes_alike p w.cells r.func [] (Some row) (r.type_ ∷ listed_types ps) (r.type_ ∷ listed_types (untagged_types ps)) (listed_types rs) (listed_types (untagged_types rs))
      (ap (λ ts. untagged r.type_ ∷ ts) (sym (listed_alike ps))) (sym (listed_alike rs)) h) k
  function_in ps rs variadic x Q (nil_typed l e) n f g = n

  -- ---- a scalar of a type, whatever its tags

  pub as_pointer : (t : Ty) (base : ℕ) → Spans w.cells base (leaves_of p.names t) → ScalarTyped p w (leaf_of (ty.pointer t)) (cell.pointer base)
  as_pointer t base h = pointer_typed (untagged t) base (subst (λ ls. Spans w.cells base ls) (sym (leaves_untagged p.names t)) h)

  pub as_slice : (t : Ty) (base len capacity : ℕ) → len ≤ capacity → Spans w.cells base (times capacity (leaves_of p.names t)) → ScalarTyped p w (leaf_of (ty.slice t)) (cell.slice base len capacity)
  as_slice t base len capacity le h = slice_typed (untagged t) base len capacity le (subst (λ ls. Spans w.cells base (times capacity ls)) (sym (leaves_untagged p.names t)) h)

  pub as_map : (k v : Ty) (name : ℕ) → slice_get w.maps name ≡ Some (untagged_map (record { key = k; value = v })) → ScalarTyped p w (leaf_of (ty.mapping k v)) (cell.map name)
  as_map k v name h = map_typed (untagged k) (untagged v) name h

  pub as_channel : (d : Dir) (t : Ty) (name : ℕ) → slice_get w.channels name ≡ Some (untagged t) → ScalarTyped p w (leaf_of (ty.chan d t)) (cell.channel name)
  as_channel d t name h = channel_typed d (untagged t) name h

  pub as_interface : (ms : Specs) (t : Ty) (xs : Scalars) → AnswersLike p t ms → ScalarsTyped p w (leaves_of p.names t) xs → ScalarTyped p w (leaf_of (ty.interface ms)) (cell.interface t xs)
  as_interface ms t xs h k = interface_typed (untagged_specs ms) t xs (answers_untagged p t ms h) k

  pub as_function : (ps rs : Tys) (variadic : Bool) (func : ℕ) (bases : List ℕ) → Takes p w.cells func bases None (listed_types ps) (listed_types rs) → ScalarTyped p w (leaf_of (ty.func ps rs variadic)) (cell.function func bases)
  as_function ps rs variadic func bases h =
      function_typed (untagged_types ps) (untagged_types rs) variadic func bases
      (takes_alike p w.cells func bases None (listed_types (untagged_types ps)) (listed_types ps) (listed_types (untagged_types rs)) (listed_types rs) (listed_alike ps) (listed_alike rs) h)

  pub as_method : (ps rs : Tys) (variadic : Bool) (row : ℕ) (receiver : Scalars) (r : MethodRow) → slice_get p.methods row ≡ Some r → Takes p w.cells r.func [] (Some row) (r.type_ ∷ listed_types ps) (listed_types rs)
      → ScalarsTyped p w (leaves_of p.names r.type_) receiver → ScalarTyped p w (leaf_of (ty.func ps rs variadic)) (cell.bound_method row receiver)
  as_method ps rs variadic row receiver r at h k =
      method_typed (untagged_types ps) (untagged_types rs) variadic row receiver r at
      (takes_alike p w.cells r.func [] (Some row) (r.type_ ∷ listed_types (untagged_types ps)) (r.type_ ∷ listed_types ps) (listed_types (untagged_types rs)) (listed_types rs)
      (ap (λ ts. untagged r.type_ ∷ ts) (listed_alike ps)) (listed_alike rs) h) k

  -- ---- a value of one scalar, and a place

  pub one_scalar : (l : Leaf) (x : Value) (Q : Value → Type 0) → Lists p w (l ∷ []) x → ((s : Scalar) → ScalarTyped p w l s → Q (s ∷ [])) → Q x
  one_scalar l [] Q h f = absurd h
  one_scalar l (s ∷ []) Q h f = f s h.0
  one_scalar l (s ∷ t ∷ x) Q h f = absurd h.1

  pub place_in : (t : Ty) (x : Value) (Q : Value → Type 0) → PlaceOf p w t x → ((base : ℕ) → Spans w.cells base (leaves_of p.names t) → Q (cell.pointer base ∷ [])) → Q x
  place_in t (cell.pointer base ∷ []) Q h f = f base h
  place_in t _ Q h f = absurd h

  -- ---- operands

  pub none_in : (vs : List Value) (Q : List Value → Type 0) → AreIn p w [] vs → Q [] → Q vs
  none_in [] Q h f = f
  none_in (v ∷ vs) Q h f = absurd h

  pub one_in : (s : Slot) (vs : List Value) (Q : List Value → Type 0) → AreIn p w (s ∷ []) vs → ((x : Value) → IsIn p w s x → Q (x ∷ [])) → Q vs
  one_in s [] Q h f = absurd h
  one_in s (x ∷ []) Q h f = f x h.0
  one_in s (x ∷ y ∷ vs) Q h f = absurd h.1

  pub two_in : (s t : Slot) (vs : List Value) (Q : List Value → Type 0) → AreIn p w (s ∷ t ∷ []) vs → ((x y : Value) → IsIn p w s x → IsIn p w t y → Q (x ∷ y ∷ [])) → Q vs
  two_in s t [] Q h f = absurd h
  two_in s t (x ∷ vs) Q h f = one_in t vs (λ us. Q (x ∷ us)) h.1 (λ y k. f x y h.0 k)

module _ (p : CoreProgram) (w : World) (set : AreSet p) where
  -- a value of a type is one of what the type stands for, and the other way round
  pub down : (t u : Ty) (x : Value) → underlying p.names t ≡ u → IsOf p w t x → Lists p w (leaves_of p.names u) x
  down t u x e h = subst (λ ls. Lists p w ls x) (under_leaves p set t ∙ ap (leaves_of p.names) e) h

  pub up : (t u : Ty) (x : Value) → underlying p.names t ≡ u → Lists p w (leaves_of p.names u) x → IsOf p w t x
  up t u x e h = subst (λ ls. Lists p w ls x) (sym (under_leaves p set t ∙ ap (leaves_of p.names) e)) h

  pub up_whole : (t : Ty) (n : ℤ) → IsInt (underlying p.names t) → IsOf p w t (cell.whole n ∷ [])
  up_whole t n i = let k = is_int (underlying p.names t) i in up t (ty.int k.0) (cell.whole n ∷ []) k.1 (whole_typed k.0 n, tt)

  pub up_truth : (t : Ty) (b : Bool) → IsBool (underlying p.names t) → IsOf p w t (cell.truth b ∷ [])
  up_truth t b i = up t ty.bool (cell.truth b ∷ []) (is_bool (underlying p.names t) i) (truth_typed b, tt)

  pub up_text : (t : Ty) (bytes : List ℕ) → IsText (underlying p.names t) → IsOf p w t (cell.text bytes ∷ [])
  up_text t bytes i = up t ty.str (cell.text bytes ∷ []) (is_text (underlying p.names t) i) (text_typed bytes, tt)

  -- ---- steps that look at one

  pub on_int : (t : Ty) (x : Value) (Q : Did → Type 0) (f : ℤ → Did) → IsInt (underlying p.names t) → IsOf p w t x → ((n : ℤ) → Q (f n)) → Q (on_whole x f)
  on_int t x Q f i h k =
      let e = is_int (underlying p.names t) i in
      one_scalar p w (leaf (ty.int e.0)) x (λ y. Q (on_whole y f)) (down t (ty.int e.0) x e.1 h) (λ s g. whole_in p w e.0 s (λ y. Q (on_whole (y ∷ []) f)) g k)

  pub on_bool : (t : Ty) (x : Value) (Q : Did → Type 0) (f : Bool → Did) → IsBool (underlying p.names t) → IsOf p w t x → ((b : Bool) → Q (f b)) → Q (on_truth x f)
  on_bool t x Q f i h k =
      one_scalar p w (leaf ty.bool) x (λ y. Q (on_truth y f)) (down t ty.bool x (is_bool (underlying p.names t) i) h) (λ s g. truth_in p w s (λ y. Q (on_truth (y ∷ []) f)) g k)

  pub on_str : (t : Ty) (x : Value) (Q : Did → Type 0) (f : List ℕ → Did) → IsText (underlying p.names t) → IsOf p w t x → ((bytes : List ℕ) → Q (f bytes)) → Q (on_text x f)
  on_str t x Q f i h k =
      one_scalar p w (leaf ty.str) x (λ y. Q (on_text y f)) (down t ty.str x (is_text (underlying p.names t) i) h) (λ s g. text_in p w s (λ y. Q (on_text (y ∷ []) f)) g k)

-- ---- what is done

pub if_did : (Q : Did → Type 0) (b : Bool) (d e : Did) → (b ≡ true → Q d) → (b ≡ false → Q e) → Q (if b then d else e)
if_did Q true d e h k = h refl
if_did Q false d e h k = k refl

module _ (p : CoreProgram) (w : World) (m : Memory) (mt : MemoryTyped p w m) (outs : List Slot) where
  -- values, with the memory as it was
  pub kept : (vs : List Value) (units : ℕ) → AreIn p w outs vs → DidTyped p w outs (gives vs m units)
  kept vs units h = (w, same_world w, mt, h)

  pub indexed : (index : ℤ) (n : ℕ) (f : ℕ → Did) → ((k : ℕ) → k < n → DidTyped p w outs (f k)) → DidTyped p w outs (on_index index n f)
  indexed (pos i) n f h = if_did (DidTyped p w outs) (nat_lt i n) (f i) (panics (bad_index (pos i) n) 0) (λ e. h i (ltb-true i n e)) (λ e. tt)
  indexed (negsuc i) n f h = tt
