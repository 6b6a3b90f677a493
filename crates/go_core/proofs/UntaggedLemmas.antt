-- A type has the leaves of the type without its tags. So a value of a type is one of each type that differs from it in
-- tags alone, and so are operands, entries and signatures.
use Rattle.std.proofs.Common.{refl, sym, ap, ◌∙◌, subst}
use Rattle.std.specs.Prelude.{◌≡◌, ℕ, List, [], ◌∷◌, ◌++◌, Bool, true, false, ◌&&◌, bytes_eq, if◌then◌else◌, length, Option, Some, None}
use Rattle.go_type.specs.Tree as ty
use Rattle.go_type.specs.Tree.{Ty, Tys, Fields, Specs, no_tys, more_tys, no_fields, more_fields, no_specs, more_specs}
use Rattle.go_type.specs.Named.{NamedTy}
use Rattle.go_core.specs.Untagged.{untagged, untagged_types, untagged_fields, untagged_specs, IsAlike, untagged_list, AreAlike}
use Rattle.go_core.specs.Memory.{Value, Entry}
use Rattle.go_core.specs.CoreTree.{CoreFunc, CoreProgram}
use Rattle.go_core.specs.TypeOf.{listed_types, Signature, spec_in}
use Rattle.go_core.specs.SoundNode.{Answers}
use Rattle.go_core.specs.Leaves.{Leaf, leaf, times, or_filler, leaves_with, field_leaves, name_leaves, leaves_of}
use Rattle.go_core.specs.Typed.{World, OperandsFit, Takes, HasRowLike, AnswersLike, Lists, IsOf, AllOf, EntriesOf}
use Rattle.go_core.specs.Applies.{values_of_types, AreIn}

-- ---- no tags are left

mutual
  pub twice : (t : Ty) → untagged (untagged t) ≡ untagged t
  twice ty.bool = refl
  twice ty.str = refl
  twice (ty.int name) = refl
  twice ty.nil = refl
  twice (ty.untyped basis) = refl
  twice (ty.array n t) = ap (ty.array n) (twice t)
  twice (ty.slice t) = ap ty.slice (twice t)
  twice (ty.struct fs) = ap ty.struct (fields_twice fs)
  twice (ty.pointer t) = ap ty.pointer (twice t)
  twice (ty.func ps rs v) = ap (λ x. ty.func x (untagged_types (untagged_types rs)) v) (types_twice ps) ∙ ap (λ x. ty.func (untagged_types ps) x v) (types_twice rs)
  twice (ty.interface ms) = ap ty.interface (specs_twice ms)
  twice (ty.mapping k v) = ap (λ x. ty.mapping x (untagged (untagged v))) (twice k) ∙ ap (ty.mapping (untagged k)) (twice v)
  twice (ty.chan d t) = ap (ty.chan d) (twice t)
  twice (ty.named id) = refl
  twice (ty.tuple ts) = ap ty.tuple (types_twice ts)

  pub types_twice : (ts : Tys) → untagged_types (untagged_types ts) ≡ untagged_types ts
  types_twice no_tys = refl
  types_twice (more_tys t ts) = ap (λ x. more_tys x (untagged_types (untagged_types ts))) (twice t) ∙ ap (more_tys (untagged t)) (types_twice ts)

  fields_twice : (fs : Fields) → untagged_fields (untagged_fields fs) ≡ untagged_fields fs
  fields_twice no_fields = refl
  fields_twice (more_fields name package_ t embedded tag fs) =
      ap (λ x. more_fields name package_ x embedded [] (untagged_fields (untagged_fields fs))) (twice t) ∙ ap (more_fields name package_ (untagged t) embedded []) (fields_twice fs)

  specs_twice : (ms : Specs) → untagged_specs (untagged_specs ms) ≡ untagged_specs ms
  specs_twice no_specs = refl
  specs_twice (more_specs name package_ ps rs v ms) =
      ap (λ x. more_specs name package_ x (untagged_types (untagged_types rs)) v (untagged_specs (untagged_specs ms))) (types_twice ps)
      ∙ ap (λ x. more_specs name package_ (untagged_types ps) x v (untagged_specs (untagged_specs ms))) (types_twice rs)
      ∙ ap (more_specs name package_ (untagged_types ps) (untagged_types rs) v) (specs_twice ms)

-- ---- leaves

module _ (g : ℕ → List Leaf) where
  mutual
    with_untagged : (t : Ty) → leaves_with g (untagged t) ≡ leaves_with g t
    with_untagged (ty.array n t) = ap (λ ls. or_filler (times n ls)) (with_untagged t)
    with_untagged (ty.struct fs) = ap or_filler (fields_untagged fs)
    with_untagged (ty.named id) = refl
    with_untagged ty.bool = refl
    with_untagged ty.str = refl
    with_untagged (ty.int name) = refl
    with_untagged ty.nil = refl
    with_untagged (ty.untyped basis) = refl
    with_untagged (ty.slice t) = ap (λ u. leaf u ∷ []) (twice (ty.slice t))
    with_untagged (ty.pointer t) = ap (λ u. leaf u ∷ []) (twice (ty.pointer t))
    with_untagged (ty.func ps rs v) = ap (λ u. leaf u ∷ []) (twice (ty.func ps rs v))
    with_untagged (ty.interface ms) = ap (λ u. leaf u ∷ []) (twice (ty.interface ms))
    with_untagged (ty.mapping k v) = ap (λ u. leaf u ∷ []) (twice (ty.mapping k v))
    with_untagged (ty.chan d t) = ap (λ u. leaf u ∷ []) (twice (ty.chan d t))
    with_untagged (ty.tuple ts) = ap (λ u. leaf u ∷ []) (twice (ty.tuple ts))

    fields_untagged : (fs : Fields) → field_leaves g (untagged_fields fs) ≡ field_leaves g fs
    fields_untagged no_fields = refl
    fields_untagged (more_fields name package_ t embedded tag fs) =
        ap (λ ls. ls ++ field_leaves g (untagged_fields fs)) (with_untagged t) ∙ ap (λ ls. leaves_with g t ++ ls) (fields_untagged fs)

pub leaves_untagged : (ns : List NamedTy) (t : Ty) → leaves_of ns (untagged t) ≡ leaves_of ns t
leaves_untagged ns t = with_untagged (name_leaves ns (length ns)) t

-- types that differ in tags alone have one list of leaves
pub leaves_alike : (ns : List NamedTy) (t u : Ty) → IsAlike t u → leaves_of ns t ≡ leaves_of ns u
leaves_alike ns t u e = sym (leaves_untagged ns t) ∙ ap (leaves_of ns) e ∙ leaves_untagged ns u

-- ---- lists of types

pub list_twice : (ts : List Ty) → untagged_list (untagged_list ts) ≡ untagged_list ts
list_twice [] = refl
list_twice (t ∷ ts) = ap (λ x. x ∷ untagged_list (untagged_list ts)) (twice t) ∙ ap (λ xs. untagged t ∷ xs) (list_twice ts)

pub listed_untagged : (ts : Tys) → listed_types (untagged_types ts) ≡ untagged_list (listed_types ts)
listed_untagged no_tys = refl
listed_untagged (more_tys t ts) = ap (λ xs. untagged t ∷ xs) (listed_untagged ts)

-- the types of a list without tags are those of the list, but for tags
pub listed_alike : (ts : Tys) → AreAlike (listed_types (untagged_types ts)) (listed_types ts)
listed_alike ts = ap untagged_list (listed_untagged ts) ∙ list_twice (listed_types ts)

pub types_alike : (ts us : Tys) → untagged_types ts ≡ untagged_types us → AreAlike (listed_types ts) (listed_types us)
types_alike ts us e = sym (listed_untagged ts) ∙ ap listed_types e ∙ listed_untagged us

pub none_alike : (ts : List Ty) → AreAlike [] ts → ts ≡ []
none_alike [] e = refl
none_alike (t ∷ ts) e = absurd (cc)

first_alike : (t u : Ty) (ts us : List Ty) → AreAlike (t ∷ ts) (u ∷ us) → IsAlike t u
first_alike t u ts us e = cc

others_alike : (t u : Ty) (ts us : List Ty) → AreAlike (t ∷ ts) (u ∷ us) → AreAlike ts us
others_alike t u ts us e = cc

is_string : (t : Ty) → untagged t ≡ ty.str → t ≡ ty.str
is_string ty.str e = refl
is_string _ e = absurd (cc)

-- a string alone
pub string_alike : (ts : List Ty) → AreAlike ts (ty.str ∷ []) → ts ≡ ty.str ∷ []
string_alike [] e = absurd (cc)
string_alike (t ∷ []) e = ap (λ x. x ∷ []) (is_string t (first_alike t ty.str [] [] e))
string_alike (t ∷ u ∷ ts) e = absurd (cc)

-- ---- values

module _ (p : CoreProgram) (w : World) where
  pub is_alike : (t u : Ty) (x : Value) → IsAlike t u → IsOf p w t x → IsOf p w u x
  is_alike t u x e h = subst (λ ls. Lists p w ls x) (leaves_alike p.names t u e) h

  pub are_alike : (ts us : List Ty) (xs : List Value) → AreAlike ts us → AreIn p w (values_of_types ts) xs → AreIn p w (values_of_types us) xs
  are_alike [] [] xs e h = h
  are_alike [] (u ∷ us) xs e h = absurd (cc)
  are_alike (t ∷ ts) [] xs e h = absurd (cc)
  are_alike (t ∷ ts) (u ∷ us) [] e h = absurd h
  are_alike (t ∷ ts) (u ∷ us) (x ∷ xs) e h = (is_alike t u x (first_alike t u ts us e) h.0, are_alike ts us xs (others_alike t u ts us e) h.1)

  pub all_alike : (t u : Ty) (xs : List Value) → IsAlike t u → AllOf p w t xs → AllOf p w u xs
  all_alike t u [] e h = tt
  all_alike t u (x ∷ xs) e h = (is_alike t u x e h.0, all_alike t u xs e h.1)

  pub entries_alike : (k v l u : Ty) (es : List Entry) → IsAlike k l → IsAlike v u → EntriesOf p w k v es → EntriesOf p w l u es
  entries_alike k v l u [] d e h = tt
  entries_alike k v l u (x ∷ es) d e h = ((is_alike k l x.key d h.0.0, is_alike v u x.value e h.0.1), entries_alike k v l u es d e h.1)

-- ---- functions

module _ (p : CoreProgram) where
  fit_alike : (func : ℕ) (row : Option ℕ) (f : CoreFunc) (ts us : List Ty) → AreAlike ts us → OperandsFit p func row f us → OperandsFit p func row f ts
  fit_alike func None f ts us e h = (h.0, e ∙ h.1)
  fit_alike func (Some k) f ts us e h = (h.0, h.1, h.2, e ∙ h.3)

  -- what takes operands of some types takes those of types that differ in tags alone, and so do its results
  pub takes_alike : (cells : List Leaf) (func : ℕ) (bases : List ℕ) (row : Option ℕ) (ts us rs ss : List Ty) → AreAlike ts us → AreAlike rs ss → Takes p cells func bases row us ss → Takes p cells func bases row ts rs
  takes_alike cells func bases row ts us rs ss d e h =
      record { function = h.function; is_function = h.is_function; captured_lie = h.captured_lie; operands_fit = fit_alike func row h.function ts us d h.operands_fit; results_fit = e ∙ h.results_fit }

-- ---- methods of interfaces

untagged_signature : Signature → Signature
untagged_signature s = record { params = untagged_types s.params; results = untagged_types s.results; variadic = s.variadic }

untagged_spec : Option Signature → Option Signature
untagged_spec None = None
untagged_spec (Some s) = Some (untagged_signature s)

spec_untagged : (name package_ : List ℕ) (ms : Specs) → spec_in name package_ (untagged_specs ms) ≡ untagged_spec (spec_in name package_ ms)
unfolding untagged_signature untagged_spec
spec_untagged name package_ no_specs = refl
spec_untagged name package_ (more_specs n q ps rs v ms) = by_name (bytes_eq n name && bytes_eq q package_) (spec_untagged name package_ ms)
  where
    by_name : (b : Bool) → spec_in name package_ (untagged_specs ms) ≡ untagged_spec (spec_in name package_ ms)
        → (if b then Some (record { params = untagged_types ps; results = untagged_types rs; variadic = v }) else spec_in name package_ (untagged_specs ms))
        ≡ untagged_spec (if b then Some (record { params = ps; results = rs; variadic = v }) else spec_in name package_ ms)
    by_name true e = refl
    by_name false e = e

some_inj : {A : Type 0} (x y : A) → Some x ≡ Some y → x ≡ y
some_inj x y e = cc

module _ (p : CoreProgram) (t : Ty) where
  -- what answers an interface, but for tags
  pub answers_like : (ms : Specs) → Answers p t ms → AnswersLike p t ms
  answers_like ms h name package_ s e = record { params = s.params; results = s.results; has_row = h name package_ s e; params_alike = refl; results_alike = refl }

  -- it answers the interface without its tags, and the other way round
  pub answers_untagged : (ms : Specs) → AnswersLike p t ms → AnswersLike p t (untagged_specs ms)
  unfolding untagged_signature untagged_spec
  answers_untagged ms h name package_ s e = by_spec (spec_in name package_ ms) refl (sym (spec_untagged name package_ ms) ∙ e)
    where
      by_spec : (o : Option Signature) → spec_in name package_ ms ≡ o → untagged_spec o ≡ Some s → HasRowLike p t (record { name = name; package_ = package_ }) s
      by_spec None f g = absurd (cc)
      by_spec (Some z) f g =
          let r = h name package_ z f in
          subst (λ (y : Signature). HasRowLike p t (record { name = name; package_ = package_ }) y) (some_inj (untagged_signature z) s g)
          (record { params = r.params; results = r.results; has_row = r.has_row; params_alike = r.params_alike ∙ sym (types_twice z.params); results_alike = r.results_alike ∙ sym (types_twice z.results) })

  pub answers_tagged : (ms : Specs) → AnswersLike p t (untagged_specs ms) → AnswersLike p t ms
  unfolding untagged_signature untagged_spec
  answers_tagged ms h name package_ s e =
      let r = h name package_ (untagged_signature s) (spec_untagged name package_ ms ∙ ap untagged_spec e) in
      record { params = r.params; results = r.results; has_row = r.has_row; params_alike = r.params_alike ∙ types_twice s.params; results_alike = r.results_alike ∙ types_twice s.results }
