-- The types that declarations speak of stay among those of the table.
use Rattle.std.proofs.Common.{arith, cond}
use Rattle.std.specs.Prelude.{◌<◌, ◌≤◌, ℕ, List, [], ◌∷◌, ◌++◌, Option, Some, None, Bool, true, false, bytes_eq}
use Rattle.gj_base.specs.declared.place.Place.{Place}
use Rattle.go_type.specs.Levels.{IdsBelow}
use Rattle.go_type.specs.declared.types.TypeId.{TypeId}
use Rattle.go_operands.specs.declared.scopes.declared.Declared.{Declared}
use Rattle.go_operands.specs.declared.scopes.declared.Declared.TheVariants as as_
use Rattle.go_operands.specs.Held.{Held, HeldPackage, what_in, place_held, add_at, declare_held, settle_held, first_of, seek, last_with, last_of, without_innermost, held_at, has_held, enter_held, package_with}
use Rattle.go_operands.specs.EnvView.{what_current}
use Rattle.go_operands.specs.Within.{DeclaredBelow, HeldsBelow, ScopesBelow, PackagesBelow}

-- ---- what is found

abbrev pub SomeBelow : ℕ → Option Declared → Type 0
SomeBelow n None = Unit {0}
SomeBelow n (Some d) = DeclaredBelow n d

module _ (n : ℕ) where
  pub what-below : (x : List ℕ) (hs : List Held) → HeldsBelow n hs → SomeBelow n (what_in x hs)
  what-below x [] h = tt
  what-below x (b ∷ hs) h = by (bytes_eq b.name x) (what-below x hs h.1)
    where
      by : (t : Bool) → SomeBelow n (what_in x hs) → SomeBelow n (cond t (Some b.what) (what_in x hs))
      by true rest = h.0
      by false rest = rest

  pub seek-below : (x : List ℕ) (ss : List (List Held)) → ScopesBelow n ss → SomeBelow n (seek x ss)
  seek-below x [] h = tt
  seek-below x (s ∷ ss) h = by (seek x ss) (seek-below x ss h.1)
    where
      by : (o : Option Declared) → SomeBelow n o → SomeBelow n (first_of o (what_in x s))
      by (Some d) k = k
      by None k = what-below x s h.0

  pub held_at-below : (path : List ℕ) (ps : List HeldPackage) → PackagesBelow n ps → HeldsBelow n (held_at path ps)
  held_at-below path [] h = tt
  held_at-below path (p ∷ ps) h = by (bytes_eq p.path path) (held_at-below path ps h.1)
    where
      by : (t : Bool) → HeldsBelow n (held_at path ps) → HeldsBelow n (cond t p.binds (held_at path ps))
      by true rest = h.0
      by false rest = rest

  pub current-below : (x : List ℕ) (cur : Option (List ℕ)) (ps : List HeldPackage) → PackagesBelow n ps → SomeBelow n (what_current x cur ps)
  current-below x None ps h = tt
  current-below x (Some path) ps h = what-below x (held_at path ps) (held_at-below path ps h)

  pub last_of-below : (ss : List (List Held)) → ScopesBelow n ss → HeldsBelow n (last_of ss)
  last_of-below [] h = tt
  last_of-below (s ∷ []) h = h.0
  last_of-below (s ∷ r ∷ ss) h = last_of-below (r ∷ ss) h.1

  -- ---- changes

  pub added-below : (hs : List Held) (b : Held) → HeldsBelow n hs → DeclaredBelow n b.what → HeldsBelow n (hs ++ b ∷ [])
  added-below [] b h k = (k, tt)
  added-below (c ∷ hs) b h k = (h.0, added-below hs b h.1 k)

  pub declare-below : (b : Held) (hs : List Held) → HeldsBelow n hs → DeclaredBelow n b.what → HeldsBelow n (declare_held b hs)
  declare-below b hs h k = by (place_held b.name hs)
    where
      by : (o : Option Place) → HeldsBelow n (add_at o b hs)
      by (Some p) = h
      by None = added-below hs b h k

  pub settle-below : (x : List ℕ) (d : Declared) (hs : List Held) → HeldsBelow n hs → DeclaredBelow n d → HeldsBelow n (settle_held x d hs)
  settle-below x d [] h k = tt
  settle-below x d (b ∷ hs) h k = by (bytes_eq b.name x) (settle-below x d hs h.1 k)
    where
      by : (t : Bool) → HeldsBelow n (settle_held x d hs) → HeldsBelow n (cond t (record b { what = d } ∷ hs) (b ∷ settle_held x d hs))
      by true rest = (k, h.1)
      by false rest = (h.0, rest)

  pub last-below : (change : List Held → List Held) (ss : List (List Held)) → ScopesBelow n ss → (HeldsBelow n (last_of ss) → HeldsBelow n (change (last_of ss)))
      → ScopesBelow n (last_with change ss)
  last-below change [] h k = tt
  last-below change (s ∷ []) h k = (k h.0, tt)
  last-below change (s ∷ r ∷ ss) h k = (h.0, last-below change (r ∷ ss) h.1 k)

  pub without-below : (ss : List (List Held)) → ScopesBelow n ss → ScopesBelow n (without_innermost ss)
  without-below [] h = tt
  without-below (s ∷ []) h = tt
  without-below (s ∷ r ∷ ss) h = (h.0, without-below (r ∷ ss) h.1)

  pub pushed-below : (ss : List (List Held)) → ScopesBelow n ss → ScopesBelow n (ss ++ [] ∷ [])
  pushed-below [] h = (tt, tt)
  pushed-below (s ∷ ss) h = (h.0, pushed-below ss h.1)

  pub package-below : (change : List Held → List Held) (path : List ℕ) (ps : List HeldPackage) → PackagesBelow n ps
      → (HeldsBelow n (held_at path ps) → HeldsBelow n (change (held_at path ps))) → PackagesBelow n (package_with change path ps)
  package-below change path [] h k = tt
  package-below change path (p ∷ ps) h k = by (bytes_eq p.path path) k (package-below change path ps h.1)
    where
      by : (t : Bool) → (HeldsBelow n (cond t p.binds (held_at path ps)) → HeldsBelow n (change (cond t p.binds (held_at path ps))))
          → ((HeldsBelow n (held_at path ps) → HeldsBelow n (change (held_at path ps))) → PackagesBelow n (package_with change path ps))
          → PackagesBelow n (cond t (record p { binds = change p.binds } ∷ ps) (p ∷ package_with change path ps))
      by true m rest = (m h.0, h.1)
      by false m rest = (h.0, rest m)

  pub entered-below : (path : List ℕ) (ps : List HeldPackage) → PackagesBelow n ps → PackagesBelow n (enter_held path ps)
  entered-below path ps h = by (has_held path ps)
    where
      added : (qs : List HeldPackage) → PackagesBelow n qs → PackagesBelow n (qs ++ record { path = path; binds = [] } ∷ [])
      added [] k = (tt, tt)
      added (q ∷ qs) k = (k.0, added qs k.1)

      by : (t : Bool) → PackagesBelow n (cond t ps (ps ++ record { path = path; binds = [] } ∷ []))
      by true = h
      by false = added ps h

-- ---- a greater table

module _ (n m : ℕ) (more : n ≤ m) where
  ids-more : (is : List TypeId) → IdsBelow n is → IdsBelow m is
  ids-more [] h = tt
  ids-more (i ∷ is) h = (let k : i.0 < n = h.0 in omega arith, ids-more is h.1)

  below-more : (d : Declared) → DeclaredBelow n d → DeclaredBelow m d
  below-more (as_.Var v t) h = omega arith
  below-more (as_.Global k t) h = omega arith
  below-more (as_.Const k t) h = omega arith
  below-more (as_.TypeName t) h = omega arith
  below-more (as_.Func f s) h = (ids-more s.params h.0, ids-more s.results h.1)
  below-more (as_.Import path) h = tt
  below-more (as_.Builtin b) h = tt
  below-more as_.Nil h = tt
  below-more (as_.Refused k) h = tt
  below-more as_.Unknown h = tt

  pub helds-more : (hs : List Held) → HeldsBelow n hs → HeldsBelow m hs
  helds-more [] h = tt
  helds-more (b ∷ hs) h = (below-more b.what h.0, helds-more hs h.1)

  pub scopes-more : (ss : List (List Held)) → ScopesBelow n ss → ScopesBelow m ss
  scopes-more [] h = tt
  scopes-more (s ∷ ss) h = (helds-more s h.0, scopes-more ss h.1)

  pub packages-more : (ps : List HeldPackage) → PackagesBelow n ps → PackagesBelow m ps
  packages-more [] h = tt
  packages-more (p ∷ ps) h = (helds-more p.binds h.0, packages-more ps h.1)
