-- What the calls of an environment do with ids is what go_typing's scopes do with trees.
use Rattle.std.proofs.Common.{arith, ◌∙◌, refl, sym, ap, subst, cond}
use Rattle.std.specs.Prelude.{◌≡◌, ◌<◌, ℕ, pos, List, [], ◌∷◌, ◌++◌, Option, Some, None, Bool, true, false, bytes_eq, codes, map, option_map, length}
use Rattle.std.proofs.lemmas.List.{map-append}
use Rattle.gj_base.specs.declared.place.Place.{Place}
use Rattle.go_const.specs.declared.constant.Const.TheVariants as form
use Rattle.go_type.specs.declared.types.Basis.TheVariants as basis
use Rattle.go_type.specs.declared.types.TypeId.{TypeId}
use Rattle.go_type.specs.Tree as ty
use Rattle.go_type.specs.Tree.{Ty}
use Rattle.go_type.specs.Levels.{tree_of}
use Rattle.go_type.specs.Named.{NamedTy}
use Rattle.go_typing.specs.Env.{Decl, Bind, find, or_in, lookup, iota_in, constant}
use Rattle.go_typing.specs.Scopes.{PackageScope, visible, entered, pushed, popped, innermost, new_env, declared, declared_at, settled, with_bind, settle_in, place_in}
use Rattle.go_typing.specs.Scopes as scopes
use Rattle.go_operands.specs.declared.scopes.declared.Declared.{Declared}
use Rattle.go_operands.specs.declared.scopes.declared.Declared.TheVariants as as_
use Rattle.go_operands.specs.Held.{Held, HeldPackage, what_in, place_held, add_at, declare_held, settle_held, first_of, seek, last_with, last_of, without_innermost, held_at, enter_held, package_with}
use Rattle.go_operands.specs.View.{decl_of, bind_of, binds_of, package_of}
use Rattle.go_operands.specs.Counted.{Counts, number_of, what_named}
use Rattle.go_operands.specs.EnvView.{what_current}
use Rattle.go_type.specs.Table.{places, names}
use Rattle.go_type.specs.declared.table.TypeTable.{TypeTable}
use Rattle.go_operands.specs.RulesReady.{HasPredeclared}
use Rattle.go_operands.specs.Universe.{universe_held}
use Rattle.go_operands.specs.Within.{HeldsBelow, ScopesBelow, PackagesBelow}
use Rattle.go_operands.proofs.HeldLemmas.{other_way}
use Rattle.go_operands.proofs.UniverseLemmas.{universe-view}
use Rattle.go_operands.proofs.ViewLemmas.{find-binds, place-binds, add-binds, binds-grown, scopes-grown, packages-grown, settle-binds, lookup-scopes, last-scope, last-view, without-view, scope-view, package-view, enter-view, package-same, last-same, lookup-append, find-append}

module _ (ts : List Ty) (ns : List NamedTy) (io : Option ℕ) where
  abbrev pub made : List Held → List HeldPackage → Option (List ℕ) → List (List Held) → scopes.Env
  made us ps cur ss = record { named_types = ns; universe_scope = binds_of ts us; packages = map (package_of ts) ps; current = cur; blocks = map (binds_of ts) ss; iota = io }

  pub made-same : {us vs : List Held} {ps qs : List HeldPackage} {cur to : Option (List ℕ)} {ss rs : List (List Held)} → us ≡ vs → ps ≡ qs → cur ≡ to → ss ≡ rs
      → made us ps cur ss ≡ made vs qs to rs
  made-same a b c d = λ j. made (a j) (b j) (c j) (d j)

  -- ---- scopes

  pub enters : (us : List Held) (ps : List HeldPackage) (cur : Option (List ℕ)) (ss : List (List Held)) (path : List ℕ)
      → made us (enter_held path ps) (Some path) [] ≡ entered path (made us ps cur ss)
  enters us ps cur ss path = ap (λ (qs : List PackageScope). record (made us ps (Some path) []) { packages = qs }) (enter-view ts path ps)

  pub pushes : (us : List Held) (ps : List HeldPackage) (cur : Option (List ℕ)) (ss : List (List Held)) → made us ps cur (ss ++ [] ∷ []) ≡ pushed (made us ps cur ss)
  pushes us ps cur ss = ap (λ (bss : List (List Bind)). record (made us ps cur ss) { blocks = bss }) (map-append (binds_of ts) ss ([] ∷ []))

  pub pops : (us : List Held) (ps : List HeldPackage) (cur : Option (List ℕ)) (ss : List (List Held)) → made us ps cur (without_innermost ss) ≡ popped (made us ps cur ss)
  pops us ps cur ss = ap (λ (bss : List (List Bind)). record (made us ps cur ss) { blocks = bss }) (without-view ts ss)

  -- ---- where a name stands

  pub place-blocks : (us : List Held) (ps : List HeldPackage) (cur : Option (List ℕ)) (ss : List (List Held)) (x : List ℕ) → 0 < length ss
      → place_held x (last_of ss) ≡ place_in x (innermost (made us ps cur ss))
  place-blocks us ps cur [] x k = absurd (omega arith)
  place-blocks us ps cur (s ∷ ss) x k = sym (ap (place_in x) (last-scope ts (s ∷ ss)) ∙ place-binds ts x (last_of (s ∷ ss)))

  pub place-package : (us : List Held) (ps : List HeldPackage) (path : List ℕ) (ss : List (List Held)) (x : List ℕ) → length ss ≡ 0
      → place_held x (held_at path ps) ≡ place_in x (innermost (made us ps (Some path) ss))
  place-package us ps path [] x k = sym (ap (place_in x) (scope-view ts path ps) ∙ place-binds ts x (held_at path ps))
  place-package us ps path (s ∷ ss) x k = absurd (omega arith)

  pub place-universe : (us : List Held) (ps : List HeldPackage) (ss : List (List Held)) (x : List ℕ) → length ss ≡ 0
      → place_held x us ≡ place_in x (innermost (made us ps None ss))
  place-universe us ps [] x k = sym (place-binds ts x us)
  place-universe us ps (s ∷ ss) x k = absurd (omega arith)

  -- the same where what was entered is known by an equation
  pub place-current : (us : List Held) (ps : List HeldPackage) (cur : Option (List ℕ)) (ss : List (List Held)) (path x : List ℕ) → cur ≡ Some path → length ss ≡ 0
      → place_held x (held_at path ps) ≡ place_in x (innermost (made us ps cur ss))
  place-current us ps cur ss path x e k = subst (λ (o : Option (List ℕ)). place_held x (held_at path ps) ≡ place_in x (innermost (made us ps o ss))) (sym e) (place-package us ps path ss x k)

  pub place-none : (us : List Held) (ps : List HeldPackage) (cur : Option (List ℕ)) (ss : List (List Held)) (x : List ℕ) → cur ≡ None → length ss ≡ 0
      → place_held x us ≡ place_in x (innermost (made us ps cur ss))
  place-none us ps cur ss x e k = subst (λ (o : Option (List ℕ)). place_held x us ≡ place_in x (innermost (made us ps o ss))) (sym e) (place-universe us ps ss x k)

  -- ---- declarations

  module _ (h : Held) where
    -- one more declaration in a scope that hasn't the name
    added : (hs : List Held) → place_held h.name hs ≡ None → binds_of ts (declare_held h hs) ≡ with_bind (bind_of ts h) (binds_of ts hs)
    added hs q = ap (λ (o : Option Place). binds_of ts (add_at o h hs)) q ∙ add-binds ts h hs

    pub declare-blocks : (us : List Held) (ps : List HeldPackage) (cur : Option (List ℕ)) (ss : List (List Held)) → 0 < length ss
        → made us ps cur (last_with (declare_held h) ss) ≡ declared (bind_of ts h) (made us ps cur ss)
    declare-blocks us ps cur [] k = absurd (omega arith)
    declare-blocks us ps cur (s ∷ ss) k =
        by (place_held h.name (last_of (s ∷ ss))) refl ∙ ap (λ (o : Option Place). declared_at (bind_of ts h) o (made us ps cur (s ∷ ss))) (place-blocks us ps cur (s ∷ ss) h.name k)
      where
        by : (o : Option Place) → place_held h.name (last_of (s ∷ ss)) ≡ o → made us ps cur (last_with (declare_held h) (s ∷ ss)) ≡ declared_at (bind_of ts h) o (made us ps cur (s ∷ ss))
        by (Some p) q = ap (made us ps cur) (last-same (declare_held h) (s ∷ ss) (ap (λ (o : Option Place). add_at o h (last_of (s ∷ ss))) q))
        by None q = ap (λ (bss : List (List Bind)). record (made us ps cur []) { blocks = bss }) (last-view ts (declare_held h) (with_bind (bind_of ts h)) (s ∷ ss) (added (last_of (s ∷ ss)) q))

    pub declare-package : (us : List Held) (ps : List HeldPackage) (path : List ℕ) (ss : List (List Held)) → length ss ≡ 0
        → made us (package_with (declare_held h) path ps) (Some path) ss ≡ declared (bind_of ts h) (made us ps (Some path) ss)
    declare-package us ps path (s ∷ ss) k = absurd (omega arith)
    declare-package us ps path [] k =
        by (place_held h.name (held_at path ps)) refl ∙ ap (λ (o : Option Place). declared_at (bind_of ts h) o (made us ps (Some path) [])) (place-package us ps path [] h.name k)
      where
        by : (o : Option Place) → place_held h.name (held_at path ps) ≡ o → made us (package_with (declare_held h) path ps) (Some path) [] ≡ declared_at (bind_of ts h) o (made us ps (Some path) [])
        by (Some p) q = ap (λ (qs : List HeldPackage). made us qs (Some path) []) (package-same (declare_held h) path ps (ap (λ (o : Option Place). add_at o h (held_at path ps)) q))
        by None q = ap (λ (qs : List PackageScope). record (made us ps (Some path) []) { packages = qs }) (package-view ts (declare_held h) (with_bind (bind_of ts h)) path ps (added (held_at path ps) q))

    pub declare-universe : (us : List Held) (ps : List HeldPackage) (ss : List (List Held)) → length ss ≡ 0
        → made (declare_held h us) ps None ss ≡ declared (bind_of ts h) (made us ps None ss)
    declare-universe us ps (s ∷ ss) k = absurd (omega arith)
    declare-universe us ps [] k =
        by (place_held h.name us) refl ∙ ap (λ (o : Option Place). declared_at (bind_of ts h) o (made us ps None [])) (place-universe us ps [] h.name k)
      where
        by : (o : Option Place) → place_held h.name us ≡ o → made (declare_held h us) ps None [] ≡ declared_at (bind_of ts h) o (made us ps None [])
        by (Some p) q = ap (λ (hs : List Held). made hs ps None []) (ap (λ (o : Option Place). add_at o h us) q)
        by None q = ap (λ (bs : List Bind). record (made us ps None []) { universe_scope = bs }) (added us q)

    pub declare-current : (us : List Held) (ps : List HeldPackage) (cur : Option (List ℕ)) (ss : List (List Held)) (path : List ℕ) → cur ≡ Some path → length ss ≡ 0
        → made us (package_with (declare_held h) path ps) cur ss ≡ declared (bind_of ts h) (made us ps cur ss)
    declare-current us ps cur ss path e k =
        subst (λ (o : Option (List ℕ)). made us (package_with (declare_held h) path ps) o ss ≡ declared (bind_of ts h) (made us ps o ss)) (sym e) (declare-package us ps path ss k)

    pub declare-none : (us : List Held) (ps : List HeldPackage) (cur : Option (List ℕ)) (ss : List (List Held)) → cur ≡ None → length ss ≡ 0
        → made (declare_held h us) ps cur ss ≡ declared (bind_of ts h) (made us ps cur ss)
    declare-none us ps cur ss e k = subst (λ (o : Option (List ℕ)). made (declare_held h us) ps o ss ≡ declared (bind_of ts h) (made us ps o ss)) (sym e) (declare-universe us ps ss k)

  module _ (x : List ℕ) (d : Declared) where
    pub settle-blocks : (us : List Held) (ps : List HeldPackage) (cur : Option (List ℕ)) (ss : List (List Held)) → 0 < length ss
        → made us ps cur (last_with (settle_held x d) ss) ≡ settled x (decl_of ts d) (made us ps cur ss)
    settle-blocks us ps cur [] k = absurd (omega arith)
    settle-blocks us ps cur (s ∷ ss) k =
        ap (λ (bss : List (List Bind)). record (made us ps cur []) { blocks = bss }) (last-view ts (settle_held x d) (settle_in x (decl_of ts d)) (s ∷ ss) (settle-binds ts x d (last_of (s ∷ ss))))

    pub settle-package : (us : List Held) (ps : List HeldPackage) (path : List ℕ) (ss : List (List Held)) → length ss ≡ 0
        → made us (package_with (settle_held x d) path ps) (Some path) ss ≡ settled x (decl_of ts d) (made us ps (Some path) ss)
    settle-package us ps path (s ∷ ss) k = absurd (omega arith)
    settle-package us ps path [] k =
        ap (λ (qs : List PackageScope). record (made us ps (Some path) []) { packages = qs }) (package-view ts (settle_held x d) (settle_in x (decl_of ts d)) path ps (settle-binds ts x d (held_at path ps)))

    pub settle-universe : (us : List Held) (ps : List HeldPackage) (ss : List (List Held)) → length ss ≡ 0
        → made (settle_held x d us) ps None ss ≡ settled x (decl_of ts d) (made us ps None ss)
    settle-universe us ps (s ∷ ss) k = absurd (omega arith)
    settle-universe us ps [] k = ap (λ (bs : List Bind). record (made us ps None []) { universe_scope = bs }) (settle-binds ts x d us)

    pub settle-current : (us : List Held) (ps : List HeldPackage) (cur : Option (List ℕ)) (ss : List (List Held)) (path : List ℕ) → cur ≡ Some path → length ss ≡ 0
        → made us (package_with (settle_held x d) path ps) cur ss ≡ settled x (decl_of ts d) (made us ps cur ss)
    settle-current us ps cur ss path e k =
        subst (λ (o : Option (List ℕ)). made us (package_with (settle_held x d) path ps) o ss ≡ settled x (decl_of ts d) (made us ps o ss)) (sym e) (settle-package us ps path ss k)

    pub settle-none : (us : List Held) (ps : List HeldPackage) (cur : Option (List ℕ)) (ss : List (List Held)) → cur ≡ None → length ss ≡ 0
        → made (settle_held x d us) ps cur ss ≡ settled x (decl_of ts d) (made us ps cur ss)
    settle-none us ps cur ss e k = subst (λ (o : Option (List ℕ)). made (settle_held x d us) ps o ss ≡ settled x (decl_of ts d) (made us ps o ss)) (sym e) (settle-universe us ps ss k)

-- ---- a table that grows

module _ (old new : List Ty) (n : ℕ) (kept : (t : TypeId) → t.0 < n → tree_of new t ≡ tree_of old t) where
  pub made-grown : {ns ms : List NamedTy} (io : Option ℕ) (us : List Held) (ps : List HeldPackage) (cur : Option (List ℕ)) (ss : List (List Held)) → ms ≡ ns
      → HeldsBelow n us → PackagesBelow n ps → ScopesBelow n ss → made new ms io us ps cur ss ≡ made old ns io us ps cur ss
  made-grown io us ps cur ss e a b c = λ j. record {
    named_types = e j;
    universe_scope = binds-grown old new n kept us a j;
    packages = packages-grown old new n kept ps b j;
    current = cur;
    blocks = scopes-grown old new n kept ss c j;
    iota = io;
  }

-- ---- a new environment

pub made-new : (t : TypeTable) → HasPredeclared t → (us : List Held) (ps : List HeldPackage) (ss : List (List Held)) (io : Option ℕ)
    → us ≡ universe_held → ps ≡ [] → ss ≡ [] → io ≡ None → made (places t) (names t) io us ps None ss ≡ new_env (names t)
made-new t h us ps ss io a b c d =
    let changed : made (places t) (names t) io us ps None ss ≡ made (places t) (names t) None universe_held [] None [] = λ j. made (places t) (names t) (d j) (a j) (b j) None (c j) in
    changed ∙ ap (λ (bs : List Bind). record (new_env (names t)) { universe_scope = bs }) (universe-view t h)

-- ---- look-up

pub map-map : {A B C : Type 0} (f : A → B) (g : B → C) (o : Option A) → option_map (λ (x : A). g (f x)) o ≡ option_map g (option_map f o)
map-map f g None = refl
map-map f g (Some x) = refl

module _ (ts : List Ty) (ns : List NamedTy) (counted : Option Declared) (counts : Counts counted) (untyped : tree_of ts (record { 0 = 4 }) ≡ ty.untyped basis.Int) where
  abbrev pub sought : List ℕ → List Held → List HeldPackage → Option (List ℕ) → List (List Held) → Option Declared
  sought x us ps cur ss = first_of (seek x ss) (first_of (what_current x cur ps) (first_of (what_in x us) (what_named x counted)))

  iota-view : (x : List ℕ) (c : Option Declared) → Counts c → find x (iota_in (number_of c)) ≡ option_map (decl_of ts) (what_named x c)
  iota-view x None k = by (bytes_eq x (codes "iota"))
    where
      by : (b : Bool) → None ≡ option_map (decl_of ts) (cond b None None)
      by true = refl
      by false = refl
  iota-view x (Some (as_.Const (form.Int (pos n)) t)) k = by (bytes_eq x (codes "iota")) (other_way (codes "iota") x)
    where
      its_type : tree_of ts t ≡ ty.untyped basis.Int
      its_type = ap (λ (m : ℕ). tree_of ts (record { 0 = m })) k ∙ untyped

      by : (b : Bool) → bytes_eq (codes "iota") x ≡ b
          → cond (bytes_eq (codes "iota") x) (Some (constant (form.Int (pos n)) (ty.untyped basis.Int))) None ≡ option_map (decl_of ts) (cond b (Some (as_.Const (form.Int (pos n)) t)) None)
      by true q =
          ap (λ (b : Bool). cond b (Some (constant (form.Int (pos n)) (ty.untyped basis.Int))) None) q ∙ ap (λ (u : Ty). Some (constant (form.Int (pos n)) u)) (sym its_type)
      by false q = ap (λ (b : Bool). cond b (Some (constant (form.Int (pos n)) (ty.untyped basis.Int))) None) q
  iota-view x _ k = absurd k

  or-map : (a b : Option Declared) → or_in (option_map (decl_of ts) a) (option_map (decl_of ts) b) ≡ option_map (decl_of ts) (first_of a b)
  or-map (Some d) b = refl
  or-map None b = refl

  package-lookup : (x : List ℕ) (cur : Option (List ℕ)) (us : List Held) (ps : List HeldPackage) (ss : List (List Held))
      → lookup x (scopes.package_scopes (made ts ns (number_of counted) us ps cur ss) cur) ≡ option_map (decl_of ts) (what_current x cur ps)
  package-lookup x None us ps ss = refl
  package-lookup x (Some path) us ps ss = ap (find x) (scope-view ts path ps) ∙ find-binds ts x (held_at path ps)

  pub looks-up : (x : List ℕ) (us : List Held) (ps : List HeldPackage) (cur : Option (List ℕ)) (ss : List (List Held))
      → lookup x (visible (made ts ns (number_of counted) us ps cur ss)) ≡ option_map (decl_of ts) (sought x us ps cur ss)
  looks-up x us ps cur ss =
      let e : scopes.Env = made ts ns (number_of counted) us ps cur ss in
      let outer : find x (binds_of ts us ++ iota_in (number_of counted)) ≡ option_map (decl_of ts) (first_of (what_in x us) (what_named x counted)) =
      find-append x (binds_of ts us) (iota_in (number_of counted))
      ∙ ap (λ (o : Option Decl). or_in o (find x (iota_in (number_of counted)))) (find-binds ts x us)
      ∙ ap (or_in (option_map (decl_of ts) (what_in x us))) (iota-view x counted counts)
      ∙ or-map (what_in x us) (what_named x counted) in
      let within : lookup x (scopes.package_scopes e cur ++ map (binds_of ts) ss) ≡ option_map (decl_of ts) (first_of (seek x ss) (what_current x cur ps)) =
      lookup-append x (scopes.package_scopes e cur) (map (binds_of ts) ss)
      ∙ ap (λ (o : Option Decl). or_in o (lookup x (scopes.package_scopes e cur))) (lookup-scopes ts x ss)
      ∙ ap (or_in (option_map (decl_of ts) (seek x ss))) (package-lookup x cur us ps ss)
      ∙ or-map (seek x ss) (what_current x cur ps) in
      ap (λ (o : Option Decl). or_in o (find x (binds_of ts us ++ iota_in (number_of counted)))) within
      ∙ ap (or_in (option_map (decl_of ts) (first_of (seek x ss) (what_current x cur ps)))) outer
      ∙ or-map (first_of (seek x ss) (what_current x cur ps)) (first_of (what_in x us) (what_named x counted))
      ∙ ap (option_map (decl_of ts)) (first_assoc (seek x ss) (what_current x cur ps) (first_of (what_in x us) (what_named x counted)))
    where
      first_assoc : (a b c : Option Declared) → first_of (first_of a b) c ≡ first_of a (first_of b c)
      first_assoc (Some d) b c = refl
      first_assoc None b c = refl
