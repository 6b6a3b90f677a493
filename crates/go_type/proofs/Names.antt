-- A name that changes.
use Rattle.std.proofs.Common.{◌≡◌, ℕ, zero, suc, ◌<◌, ◌≤◌, List, [], ◌∷◌, ◌++◌, Some, Result, Ok, Err, get_or, length, length-append, set, map, refl, ap, sym, ◌∙◌, subst, arith}
use Rattle.std.specs.Prelude.{OnOk, OnErr, is_ok, if◌then◌else◌}
use Rattle.std.specs.List.{slice_get}
use Rattle.std.proofs.lemmas.List.{map-set, length-set}
use Rattle.go_type.specs.Tree.{Ty}
use Rattle.go_type.specs.Levels.{SigBelow, Below, Rises}
use Rattle.go_type.specs.Named.{NamedTy, MethodTy, MethodsBelow, NamedBelow, NamesBelow, SetsName, named_of, method_of, with_method}
use Rattle.go_type.specs.declared.types.Method.{Method}
use Rattle.go_type.specs.declared.types.NamedType.{NamedType}
use Rattle.go_type.specs.declared.types.GoType.{GoType}
use Rattle.go_type.specs.declared.types.GoType.TheVariants as go

pub set_below : (n : ℕ) (xs : List NamedType) (i : ℕ) (v : NamedType) → NamesBelow n xs → NamedBelow n v → NamesBelow n (set xs i v)
set_below n [] i v b h = tt
set_below n (x ∷ xs) zero v b h = (h, b.1)
set_below n (x ∷ xs) (suc i) v b h = (b.0, set_below n xs i v b.1 h)

pub at_below : (n : ℕ) (xs : List NamedType) (i : ℕ) (w : NamedType) → i < length xs → w ≡ get_or xs i w → NamesBelow n xs → NamedBelow n w
at_below n [] i w l e b = absurd (omega arith)
at_below n (x ∷ xs) zero w l e b = subst (NamedBelow n) (sym e) b.0
at_below n (x ∷ xs) (suc i) w l e b = at_below n xs i w (omega arith) e b.1

pub rises_set : (gs : List GoType) (xs : List NamedType) (i : ℕ) (v : NamedType) → Rises (length xs) gs → Rises (length (set xs i v)) gs
rises_set gs xs i v r = subst (λ (m : ℕ). Rises m gs) (sym (length-set xs i v)) r

get_map : (ts : List Ty) (xs : List NamedType) (i : ℕ) (w : NamedType) → i < length xs → w ≡ get_or xs i w → slice_get (map (named_of ts) xs) i ≡ Some (named_of ts w)
get_map ts [] i w l e = absurd (omega arith)
get_map ts (x ∷ xs) zero w l e = ap (λ (y : NamedType). Some (named_of ts y)) (sym e)
get_map ts (x ∷ xs) (suc i) w l e = get_map ts xs i w (omega arith) e

pub named_set : (ts : List Ty) (xs : List NamedType) (i : ℕ) (w v : NamedType) (change : NamedTy → NamedTy) → i < length xs → w ≡ get_or xs i w → named_of ts v ≡ change (named_of ts w)
    → SetsName (map (named_of ts) xs) i change (map (named_of ts) (set xs i v))
named_set ts xs i w v change l e h x g =
    let same : Some (named_of ts w) ≡ Some x = sym (get_map ts xs i w l e) ∙ g in
    let f : named_of ts w ≡ x = cc in
    map-set (named_of ts) xs i v ∙ ap (set (map (named_of ts) xs) i) (h ∙ ap change f)

-- ---- one more method

methods_more : (n : ℕ) (ms : List Method) (m : Method) → MethodsBelow n ms → SigBelow n m.sig → MethodsBelow n (ms ++ m ∷ [])
methods_more n [] m b s = (s, tt)
methods_more n (x ∷ ms) m b s = (b.0, methods_more n ms m b.1 s)

map_more : (ts : List Ty) (ms : List Method) (m : Method) → map (method_of ts) (ms ++ m ∷ []) ≡ map (method_of ts) ms ++ method_of ts m ∷ []
map_more ts [] m = refl
map_more ts (x ∷ ms) m = ap (λ (xs : List MethodTy). method_of ts x ∷ xs) (map_more ts ms m)

module _ {X E : Type 0} (n : ℕ) (w : NamedType) (m : Method) (ms : List Method) where
  -- whatever came of the push
  pub pushed_below : (r : Result X E) → OnOk r (ms ≡ w.methods ++ m ∷ []) → OnErr r (ms ≡ w.methods) → NamedBelow n w → SigBelow n m.sig
      → NamedBelow n (record { name = w.name; «package» = w.package; under = w.under; methods = ms })
  pushed_below (Ok x) h k b s = (b.0, subst (MethodsBelow n) (sym h) (methods_more n w.methods m b.1 s))
  pushed_below (Err e) h k b s = (b.0, subst (MethodsBelow n) (sym k) b.1)

pub pushed_is : (ts : List Ty) (w : NamedType) (m : Method) (ms : List Method) → ms ≡ w.methods ++ m ∷ []
    → named_of ts (record { name = w.name; «package» = w.package; under = w.under; methods = ms }) ≡ with_method (method_of ts m) (named_of ts w)
pushed_is ts w m ms h =
    let e : map (method_of ts) ms ≡ map (method_of ts) w.methods ++ method_of ts m ∷ [] = ap (map (method_of ts)) h ∙ map_more ts w.methods m in
    ap (λ (xs : List MethodTy). record (named_of ts w) { methods = xs }) e

-- ---- one more name

below_more : (i m o : ℕ) → m ≤ o → (g : GoType) → Below i m g → Below i o g
below_more i m o h (go.Named n) b = omega arith
below_more i m o h go.Bool b = b
below_more i m o h go.Str b = b
below_more i m o h (go.Int a) b = b
below_more i m o h go.Nil b = b
below_more i m o h (go.Untyped a) b = b
below_more i m o h (go.Array k t) b = b
below_more i m o h (go.Slice t) b = b
below_more i m o h (go.Struct fs) b = b
below_more i m o h (go.Pointer t) b = b
below_more i m o h (go.Func s) b = b
below_more i m o h (go.Interface ms) b = b
below_more i m o h (go.Map k v) b = b
below_more i m o h (go.Chan d t) b = b
below_more i m o h (go.Tuple is) b = b

names_end : (n : ℕ) (xs : List NamedType) (v : NamedType) → NamesBelow n xs → NamedBelow n v → NamesBelow n (xs ++ v ∷ [])
names_end n [] v b h = (h, tt)
names_end n (x ∷ xs) v b h = (b.0, names_end n xs v b.1 h)

module _ {X E : Type 0} (gs : List GoType) (xs ys : List NamedType) (v : NamedType) where
  longer_by : (r : Result X E) → ys ≡ (if is_ok r then xs ++ v ∷ [] else xs) → length xs ≤ length ys
  longer_by (Ok x) h = omega (arith, ap length h, length-append xs (v ∷ []))
  longer_by (Err e) h = omega (arith, ap length h)

  pub rises_named : (r : Result X E) → ys ≡ (if is_ok r then xs ++ v ∷ [] else xs) → Rises (length xs) gs → Rises (length ys) gs
  rises_named r h rise i g e = below_more i (length xs) (length ys) (longer_by r h) g (rise i g e)

  pub below_named : (n : ℕ) (r : Result X E) → ys ≡ (if is_ok r then xs ++ v ∷ [] else xs) → NamesBelow n xs → NamedBelow n v → NamesBelow n ys
  below_named n (Ok x) h b k = subst (NamesBelow n) (sym h) (names_end n xs v b k)
  below_named n (Err e) h b k = subst (NamesBelow n) (sym h) b
