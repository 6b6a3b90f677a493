-- The declaration of a named type that is typed.
use Rattle.std.proofs.Common.{arith, ◌≡◌, ◌∙◌, ◌+◌, ◌<◌, ℕ, List, [], ◌++◌, length, refl, sym, subst, ap, true, false, Option, Some}
use Rattle.std.specs.Prelude.{option_map}
use Rattle.go_syntax.specs.Tree as t
use Rattle.go_syntax.specs.declared.tree.Name.{Name}
use Rattle.go_type.specs.Tree as ty
use Rattle.go_type.specs.Tree.{Ty}
use Rattle.go_type.specs.Named.{NamedTy, IsUnnamed}
use Rattle.go_type.specs.Underlying.{underlying}
use Rattle.go_type.specs.Levels.{tree_of}
use Rattle.go_type.specs.Table.{places, names, size, KeepsTrees}
use Rattle.go_type.specs.declared.types.TypeId.{TypeId}
use Rattle.go_type.specs.declared.table.TypeTable.{TypeTable}
use Rattle.go_operands.specs.declared.scopes.env.Env as code
use Rattle.go_operands.specs.EnvView.{env_of}
use Rattle.go_typing.specs.Walk.{Walk}
use Rattle.go_typing.specs.Expressions.{type_in, type_of}
use Rattle.go_walk.specs.WalkView.{walk_outside}
use Rattle.go_decls.proofs.OutcomeLemmas.{is_outside}
use Rattle.go_typing.specs.Env.{unknown, type_name}
use Rattle.go_typing.specs.Scopes.{Env}
use Rattle.go_typing.specs.Items.{Item, type_item, items_of}
use Rattle.go_typing.specs.Known.{Known, first_names, named_type, type_found, type_decl, decl_of}
use Rattle.go_sound.proofs.KnownWords.{NumberedTo}
use Rattle.go_sound.proofs.Numbered.{IsNumbered, items_numbered}
use Rattle.go_walk.specs.declared.sets.numbers.NameMap.{NameMap}
use Rattle.go_sound.specs.Rows.{Row, items_in, types_by, binds_by, known_by, one_typed}
use Rattle.go_items.specs.Stands.{Stands, IsSetAt}
use Rattle.go_items.proofs.TypeLemmas.{type_set}
use Rattle.go_decls.specs.Before.{is_unnamed, Before, Outcome}

pub first_two : length first_names ≡ 2
first_two = refl

pub unnamed_is : (u : Ty) → true ≡ is_unnamed u → IsUnnamed u
unnamed_is (ty.named id) h = let e : true ≡ false = h in absurd (cc)
unnamed_is ty.bool h = tt
unnamed_is ty.str h = tt
unnamed_is (ty.int n) h = tt
unnamed_is ty.nil h = tt
unnamed_is (ty.untyped b) h = tt
unnamed_is (ty.array n u) h = tt
unnamed_is (ty.slice u) h = tt
unnamed_is (ty.struct fs) h = tt
unnamed_is (ty.pointer u) h = tt
unnamed_is (ty.func ps rs v) h = tt
unnamed_is (ty.interface ms) h = tt
unnamed_is (ty.mapping k u) h = tt
unnamed_is (ty.chan d u) h = tt
unnamed_is (ty.tuple us) h = tt

numbered : (rs : List Row) (ds : List t.Decl) → items_in rs ≡ items_of ds → (m : ℕ) × NumberedTo 0 (items_in rs) m
numbered rs ds h = by_items (items_numbered ds)
  where
    by_items : IsNumbered (items_of ds) → (m : ℕ) × NumberedTo 0 (items_in rs) m
    by_items g = (g.last, subst (λ (is : List Item). NumberedTo 0 is g.last) (sym h) g.numbered)

typed_found : (k : Known) (n : Name) (number : ℕ) (e : t.Expr) (v : Ty) → Some v ≡ type_found k e → decl_of k (type_item n number e) ≡ unknown → ⊥
typed_found k n number e v f h = let q : type_name (named_type number) ≡ unknown = ap (type_decl (named_type number)) f ∙ h in cc

pub type_typed : (rs : List Row) (n : ℕ) (x : Name) (number : ℕ) (e : t.Expr) (numbers : NameMap) (e0 e1 e2 : Env) (u v : Ty) (at : ℕ) → Before rs n (type_item x number e) numbers e0 → Some v ≡ type_found (known_by rs) e
    → u ≡ underlying (known_by rs).names v → at ≡ length first_names + number → Stands (record (known_by rs) { binds = binds_by (one_typed n rs) [] }) e1
    → ((k : Known) (new : List NamedTy) → Stands k e1 → IsSetAt at u k.names new → Stands (record k { names = new }) e2) → Outcome true rs n (type_item x number e) e2
type_typed rs n x number e numbers e0 e1 e2 u v at b f q a s g = (typed_found (known_by rs) x number e v f, g (record (known_by rs) { binds = binds_by (one_typed n rs) [] }) (first_names ++ types_by (one_typed n rs)) s set)
  where
    nothing : length first_names ≡ length first_names + 0
    nothing = omega arith

    under : option_map (underlying (known_by rs).names) (type_found (known_by rs) e) ≡ Some u
    under = ap (option_map (underlying (known_by rs).names)) (sym f) ∙ ap (λ (y : Ty). Some y) (sym q)

    set : IsSetAt at u (first_names ++ types_by rs) (first_names ++ types_by (one_typed n rs))
    set =
        let m = numbered rs b.decls b.items in
        subst (λ (j : ℕ). IsSetAt j u (first_names ++ types_by rs) (first_names ++ types_by (one_typed n rs))) (sym a)
        (type_set (known_by rs) (length first_names) 0 m.0 first_names rs n x number e u nothing m.1 b.row under)

-- what its name stands for
pub type_decl_is : (k : Known) (n : Name) (number : ℕ) (e : t.Expr) (v w : Ty) (at : ℕ) → Some v ≡ type_found k e → w ≡ ty.named at → at ≡ length first_names + number → type_name w ≡ decl_of k (type_item n number e)
type_decl_is k n number e v w at f q a = ap (λ (u : Ty). type_name u) (q ∙ ap (λ (j : ℕ). ty.named j) a) ∙ ap (type_decl (named_type number)) f

-- ---- types that are found by what is known

pub before_on : (rs : List Row) (n : ℕ) (i : Item) (numbers : NameMap) (e f : Env) → f ≡ e → Before rs n i numbers e → Before rs n i numbers f
before_on rs n i numbers e f q b = subst (Before rs n i numbers) (sym q) b

pub found_is : (k : Known) (a : code.Env) (e : t.Expr) (o : Option Ty) → Stands k (env_of a) → o ≡ type_of (type_in (walk_outside a) e).answer → o ≡ type_found k e
found_is k a e o h q = q ∙ ap (λ (w : Walk). type_of (type_in w e).answer) (is_outside k a h)

-- ---- what a type stands for, where the table grew

pub under_is : (t0 t1 t2 : TypeTable) (ns : List NamedTy) (under of : TypeId) → tree_of (places t0) under ≡ underlying (names t0) (tree_of (places t0) of) → under.0 < size t0 → KeepsTrees t0 t1 → t2 ≡ t1 → names t0 ≡ ns
    → tree_of (places t2) under ≡ underlying ns (tree_of (places t0) of)
under_is t0 t1 t2 ns under of u l k q h =
    ap (λ (t : TypeTable). tree_of (places t) under) q ∙ k under l ∙ u ∙ ap (λ (ms : List NamedTy). underlying ms (tree_of (places t0) of)) h
