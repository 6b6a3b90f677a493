-- Names that are tried.
use Rattle.std.proofs.Common.{◌≡◌, ℕ, ◌+◌, ◌<◌, ◌≤◌, Bool, true, false, List, [], ◌∷◌, ◌++◌, get_or, map, length, refl, ap, sym, ◌∙◌, subst, arith, inl, inr}
use Rattle.std.specs.Prelude.{◌||◌, ◌⊎◌, if◌then◌else◌, bytes_eq, insert, slice_get, Some, None, IfOk, Result, Ok, Err}
use Rattle.std.specs.List.{AllByRecursion}
use Rattle.std.proofs.lemmas.List.Folds.{list_any-append}
use Rattle.std.proofs.lemmas.Bool.{cases_lt}
use Rattle.go_type.specs.Tree.{Ty, Tys, Fields, bool, named, no_fields, more_fields}
use Rattle.go_type.specs.Levels.{level, fields_of, specs_of, SigBelow}
use Rattle.go_type.specs.Named.{NamedTy, MethodTy, method_of}
use Rattle.go_type.specs.Exported.{is_exported, IsHeld}
use Rattle.go_type.specs.Members.{Member, Sought, sought, is_sought, is_declared, field, method, own_members, members_at, spec_found, specs_found, method_found, methods_found, name_found, declared_found, fields_found, shape_found}
use Rattle.go_type.specs.MethodSet.{HasFrom, HasAt, from, receiver_of}
use Rattle.go_type.specs.MethodList.{SpecTy, spec_of, Among, Ascends, IsMethodOf, IsMethodSet}
use Rattle.go_type.specs.Reached.{Holds, IsClosed}
use Rattle.go_type.specs.Tried.{IsMethodFrom, IsFound, is_method, has_method, held_package, place_of, is_named, AreMethods, AreAllMethods, Tries, TriesName}
use Rattle.go_type.specs.declared.types.MethodSpec.{MethodSpec}
use Rattle.go_type.specs.declared.types.Method.{Method}
use Rattle.go_type.specs.declared.types.GoType.{GoType}
use Rattle.go_type.specs.declared.types.GoType.TheVariants as go
use Rattle.go_type.specs.declared.steps.Step.TheVariants as step
use Rattle.go_type.proofs.PlaceLemmas.{bytes_one, both, all_inserted, below_inserted, kept_inserted, is_inserted, sorted_inserted, named_at}
use Rattle.go_type.proofs.FoundLemmas.{one_method}
use Rattle.go_type.proofs.ReachLemmas.{or_split, held_at, declared_by}

abbrev spec : (name package_ : List ℕ) (params results : Tys) (variadic : Bool) → SpecTy
spec name package_ params results variadic = record { name = name; package_ = package_; params = params; results = results; variadic = variadic }

same_spec : (name package_ : List ℕ) (params results : Tys) (variadic : Bool) (name_ home : List ℕ) (params_ results_ : Tys) (variadic_ : Bool) → name ≡ name_ → package_ ≡ home → params ≡ params_ → results ≡ results_ → variadic ≡ variadic_
    → spec name package_ params results variadic ≡ spec name_ home params_ results_ variadic_
same_spec name package_ params results variadic name_ home params_ results_ variadic_ a b c d e = cc

module _ (n : ℕ) (ts : List Ty) (ns : List NamedTy) (t : Ty) (indirect : Bool) where
  -- one method of a name
  one_spec : (x y : SpecTy) → x.name ≡ y.name → x.package_ ≡ y.package_ → IsMethodFrom ns t indirect x → IsMethodFrom ns t indirect y → x ≡ y
  one_spec x y e g a b =
      let f : sought x.name x.package_ ≡ sought y.name y.package_ = ap (λ (w : List ℕ). sought w x.package_) e ∙ ap (λ (w : List ℕ). sought y.name w) g in
      let h = one_method ns (sought y.name y.package_) t indirect x.params x.results x.variadic y.params y.results y.variadic (subst (λ (s : Sought). HasFrom ns s x.params x.results x.variadic t indirect) f a.found) b.found in
      same_spec x.name x.package_ x.params x.results x.variadic y.name y.package_ y.params y.results y.variadic e g h.0 h.1 h.2

  -- the name is there
  pub tries_there : (name package_ : List ℕ) (ms : List MethodSpec) (k : ℕ) → is_named name package_ (slice_get ms k) ≡ true → AreMethods n ts ns t indirect ms → TriesName n ts ns t indirect name package_ ms ms
  tries_there name package_ ms k e a =
      let m = named_at ts name package_ (IsMethodFrom ns t indirect) ms k e a.sound in
      record {
        are = a;
        kept = λ x h. h;
        tried = λ x h f g. subst (Among (map (spec_of ts) ms)) (sym (one_spec x (spec_of ts m.0) (f ∙ sym m.1) (g ∙ sym m.2) h m.4)) m.3;
      }

  -- no method has the name
  pub tries_nothing : (name package_ : List ℕ) (ms : List MethodSpec) → IsFound n ts ns t indirect name package_ None → AreMethods n ts ns t indirect ms → TriesName n ts ns t indirect name package_ ms ms
  tries_nothing name package_ ms none a = record { are = a; kept = λ x h. h; tried = λ x h f g. absurd (none x f g h) }

  -- the method of the name goes to its place
  pub tries_new : (name package_ : List ℕ) (ms : List MethodSpec) (m : MethodSpec) → is_named name package_ (slice_get ms (place_of name package_ ms)) ≡ false → IsFound n ts ns t indirect name package_ (Some m) → AreMethods n ts ns t indirect ms
      → TriesName n ts ns t indirect name package_ ms (insert ms (place_of name package_ ms) m)
  tries_new name package_ ms m free found a =
      let k = place_of name package_ ms in
      let at : place_of m.name m.package ms ≡ place_of name package_ ms = ap (λ (w : List ℕ). place_of w m.package ms) found.0 ∙ ap (λ (w : List ℕ). place_of name w ms) found.1 in
      let none : is_named m.name m.package (slice_get ms (place_of m.name m.package ms)) ≡ false =
      ap (λ (j : ℕ). is_named m.name m.package (slice_get ms j)) at ∙ ap (λ (w : List ℕ). is_named w m.package (slice_get ms k)) found.0 ∙ ap (λ (w : List ℕ). is_named name w (slice_get ms k)) found.1 ∙ free in
      record {
        are = record {
          below = below_inserted ts m (λ (x : MethodSpec). SigBelow n x.sig) ms k a.below found.2;
          sorted = subst (λ (j : ℕ). Ascends (map (spec_of ts) (insert ms j m))) at (sorted_inserted ts m ms none a.sorted);
          sound = all_inserted ts m (IsMethodFrom ns t indirect) ms k a.sound found.3;
        };
        kept = λ x h. kept_inserted ts m ms k x h;
        tried = λ x h f g. subst (Among (map (spec_of ts) (insert ms k m))) (sym (one_spec x (spec_of ts m) (f ∙ sym found.0) (g ∙ sym found.1) h found.3)) (is_inserted ts m ms k);
      }

  -- ---- names in turn

  pub tries_none : (found : Sought → List Member) (ms : List MethodSpec) → ((s : Sought) → has_method (found s) ≡ false) → AreMethods n ts ns t indirect ms → Tries n ts ns t indirect found ms ms
  tries_none found ms none a = record { are = a; kept = λ x h. h; tried = λ x h e. let k = sym (none (sought x.name x.package_)) ∙ e in cc }

  pub tries_both : (f g : Sought → List Member) (old mid new : List MethodSpec) → Tries n ts ns t indirect f old mid → Tries n ts ns t indirect g mid new → Tries n ts ns t indirect (λ s. f s ++ g s) old new
  tries_both f g old mid new a b = record {
    are = b.are;
    kept = λ x h. b.kept x (a.kept x h);
    tried = λ x h e.
        let s = sought x.name x.package_ in
        elim (or_split (has_method (f s)) (has_method (g s)) (sym (list_any-append is_method (f s) (g s)) ∙ e)) [ inl k ↦ b.kept x (a.tried x h k) | inr k ↦ b.tried x h k ];
  }

  pub tries_like : (f g : Sought → List Member) (old new : List MethodSpec) → ((s : Sought) → has_method (g s) ≡ has_method (f s)) → Tries n ts ns t indirect f old new → Tries n ts ns t indirect g old new
  tries_like f g old new same a = record { are = a.are; kept = a.kept; tried = λ x h e. a.tried x h (sym (same (sought x.name x.package_)) ∙ e) }

  pub specs_end : (of_ : Ty) (rest ms : List MethodSpec) → length rest ≡ 0 → AreMethods n ts ns t indirect ms → Tries n ts ns t indirect (λ s. specs_found s of_ (specs_of ts rest)) ms ms
  specs_end of_ [] ms e a = tries_none (λ s. []) ms (λ s. refl) a
  specs_end of_ (m ∷ rest) ms e a = absurd (omega arith)

  pub methods_end : (of_ : Ty) (home : List ℕ) (rest : List Method) (ms : List MethodSpec) → length rest ≡ 0 → AreMethods n ts ns t indirect ms → Tries n ts ns t indirect (λ s. methods_found s of_ home (map (method_of ts) rest)) ms ms
  methods_end of_ home [] ms e a = tries_none (λ s. []) ms (λ s. refl) a
  methods_end of_ home (m ∷ rest) ms e a = absurd (omega arith)

  -- an interface's method
  pub tries_spec : (of_ : Ty) (name package_ : List ℕ) (params results : Tys) (variadic : Bool) (old new : List MethodSpec) → TriesName n ts ns t indirect name package_ old new
      → Tries n ts ns t indirect (λ s. spec_found s of_ name package_ params results variadic) old new
  tries_spec of_ name package_ params results variadic old new a = record {
    are = a.are;
    kept = a.kept;
    tried = λ x h e. by x h (is_sought (sought x.name x.package_) name package_) refl e;
  }
    where
      by : (x : SpecTy) → IsMethodFrom ns t indirect x → (b : Bool) → is_sought (sought x.name x.package_) name package_ ≡ b → has_method (if b then method [] of_ false params results variadic ∷ [] else []) ≡ true → Among (map (spec_of ts) new) x
      by x h true e k = let g = both (bytes_eq name x.name) (bytes_eq package_ x.package_) e in a.tried x h (sym (bytes_one name x.name g.0)) (sym (bytes_one package_ x.package_ g.1))
      by x h false e k = cc

  -- the package of a method that is declared
  held_home : (name home package_ : List ℕ) → IsHeld name package_ → (is_exported name || bytes_eq home package_) ≡ true → package_ ≡ held_package name home
  held_home name home package_ h e = by (is_exported name) refl
    where
      by : (b : Bool) → is_exported name ≡ b → package_ ≡ held_package name home
      by true k = h k ∙ sym (ap (λ (b : Bool). if b then [] else home) k)
      by false k = sym (bytes_one home package_ (sym (ap (λ (b : Bool). b || bytes_eq home package_) k) ∙ e)) ∙ sym (ap (λ (b : Bool). if b then [] else home) k)

  -- a declared method
  pub tries_method : (of_ : Ty) (home : List ℕ) (m : MethodTy) (old new : List MethodSpec) → TriesName n ts ns t indirect m.name (held_package m.name home) old new
      → Tries n ts ns t indirect (λ s. method_found s of_ home m) old new
  tries_method of_ home m old new a = record {
    are = a.are;
    kept = a.kept;
    tried = λ x h e. by x h (is_declared (sought x.name x.package_) m.name home) refl e;
  }
    where
      by : (x : SpecTy) → IsMethodFrom ns t indirect x → (b : Bool) → is_declared (sought x.name x.package_) m.name home ≡ b → has_method (if b then method [] of_ m.pointer m.params m.results m.variadic ∷ [] else []) ≡ true → Among (map (spec_of ts) new) x
      by x h true e k =
          let g = both (bytes_eq m.name x.name) (is_exported m.name || bytes_eq home x.package_) e in
          let same : x.name ≡ m.name = sym (bytes_one m.name x.name g.0) in
          a.tried x h same (held_home m.name home x.package_ (subst (λ (w : List ℕ). IsHeld w x.package_) same h.held) g.1)
      by x h false e k = cc

  -- what is declared for a named type
  pub tries_declared : (u : Ty) (id : ℕ) (y : NamedTy) (old new : List MethodSpec) → named id ≡ u → slice_get ns id ≡ Some y → Tries n ts ns t indirect (λ s. methods_found s u y.package_ y.methods) old new → Tries n ts ns t indirect (λ s. declared_found ns s u) old new
  tries_declared u id y old new e h a = tries_like (λ s. methods_found s u y.package_ y.methods) (λ s. declared_found ns s u) old new (λ s. ap has_method (same s)) a
    where
      same : (s : Sought) → declared_found ns s u ≡ methods_found s u y.package_ y.methods
      same s = subst (λ (v : Ty). declared_found ns s v ≡ methods_found s v y.package_ y.methods) e (ap (name_found s (named id)) h)

  no_fields_found : (s : Sought) (i : ℕ) (fs : Fields) → has_method (fields_found s i fs) ≡ false
  no_fields_found s i no_fields = refl
  no_fields_found s i (more_fields name package_ v embedded tag fs) = by (no_fields_found s (i + 1) fs) (is_sought s name package_)
    where
      by : has_method (fields_found s (i + 1) fs) ≡ false → (b : Bool) → has_method ((if b then field (step.Field i ∷ []) ∷ [] else []) ++ fields_found s (i + 1) fs) ≡ false
      by rest true = rest
      by rest false = rest

  -- a type that is no interface has no methods by what it stands for
  pub no_interface : (g : GoType) → ((ms : List MethodSpec) → g ≡ go.Interface ms → ⊥) → (s : Sought) (of_ : Ty) → has_method (shape_found s of_ (level ts g)) ≡ false
  no_interface (go.Interface ms) none s of_ = absurd (none ms refl)
  no_interface (go.Struct fs) none s of_ = no_fields_found s 0 (fields_of ts fs)
  no_interface go.Bool none s of_ = refl
  no_interface go.Str none s of_ = refl
  no_interface (go.Int a) none s of_ = refl
  no_interface go.Nil none s of_ = refl
  no_interface (go.Untyped a) none s of_ = refl
  no_interface (go.Array k v) none s of_ = refl
  no_interface (go.Slice v) none s of_ = refl
  no_interface (go.Pointer v) none s of_ = refl
  no_interface (go.Func v) none s of_ = refl
  no_interface (go.Map k v) none s of_ = refl
  no_interface (go.Chan d v) none s of_ = refl
  no_interface (go.Named i) none s of_ = refl
  no_interface (go.Tuple is) none s of_ = refl

  -- ---- all of them

  pub no_methods : (ms : List MethodSpec) → ms ≡ [] → AreMethods n ts ns t indirect ms
  no_methods ms e = subst (AreMethods n ts ns t indirect) (sym e) (record { below = tt; sorted = tt; sound = tt })

  -- the names of the types at the places below this one were tried
  abbrev pub TriedBelow : ℕ → List ℕ → List MethodSpec → Type 0
  TriedBelow k ids ms = (j : ℕ) → j < k → (i : ℕ) → slice_get ids j ≡ Some i → (x : SpecTy) → IsMethodFrom ns t indirect x → has_method (own_members ns (sought x.name x.package_) (get_or ts i bool)) ≡ true → Among (map (spec_of ts) ms) x

  pub tried_step : (k id : ℕ) (ids : List ℕ) (old new : List MethodSpec) → slice_get ids k ≡ Some id → TriedBelow k ids old → Tries n ts ns t indirect (λ s. own_members ns s (get_or ts id bool)) old new → TriedBelow (k + 1) ids new
  tried_step k id ids old new e so a j l i h x m p = by (cases_lt j k)
    where
      by : (j < k) ⊎ (k ≤ j) → Among (map (spec_of ts) new) x
      by (inl q) = a.kept x (so j q i h x m p)
      by (inr q) =
          let same : j ≡ k = omega arith in
          let g : slice_get ids k ≡ Some i = ap (slice_get ids) (sym same) ∙ h in
          let r : i ≡ id = cc in
          a.tried x m (subst (λ (w : ℕ). has_method (own_members ns (sought x.name x.package_) (get_or ts w bool)) ≡ true) r p)

  pub all_tried : (ids : List ℕ) (i : ℕ) (ms : List MethodSpec) → IsClosed ns ts ids → Holds ids i → get_or ts i bool ≡ t → AreMethods n ts ns t indirect ms
      → (k : ℕ) → length ids ≤ k → TriedBelow k ids ms → AreAllMethods n ts ns t indirect ms
  all_tried ids i ms closed held tree are k l tried = record {
    are = are;
    complete = λ x m.
        let f = sought x.name x.package_ in
        let h = m.found in
        let e : has_method (members_at ns f h.depth t) ≡ true = ap has_method h.shallowest.here in
        let r = declared_by ts ids ns f closed h.depth i held (ap (λ (u : Ty). has_method (members_at ns f h.depth u)) tree ∙ e) in
        let j = held_at ids r.0 r.1 in
        tried j.0 (omega (arith, j.1)) r.0 j.2 x m r.2;
  }

  -- the set of another type, whose methods are found from here
  pub whole_set : (u : Ty) (ms : List MethodSpec) → receiver_of ns u ≡ from t indirect → AreAllMethods n ts ns t indirect ms → IsMethodSet ns u (map (spec_of ts) ms)
  whole_set u ms e a = record {
    sorted = a.are.sorted;
    sound = each (map (spec_of ts) ms) a.are.sound;
    complete = λ x m. a.complete x (record { held = m.0; found = subst (HasAt ns (sought x.name x.package_) x.params x.results x.variadic) e m.1 });
  }
    where
      each : (xs : List SpecTy) → AllByRecursion (IsMethodFrom ns t indirect) xs → AllByRecursion (IsMethodOf ns u) xs
      each [] h = tt
      each (x ∷ xs) h = ((h.0.held, subst (HasAt ns (sought x.name x.package_) x.params x.results x.variadic) (sym e) h.0.found), each xs h.1)

-- what follows from an answer, where there is one
pub on_ok : {A E : Type 0} (P Q : A → Type 0) → ((x : A) → P x → Q x) → (r : Result A E) → IfOk r P → IfOk r Q
on_ok P Q f (Ok x) h = f x h
on_ok P Q f (Err e) h = h
