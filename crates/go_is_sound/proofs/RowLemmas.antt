-- Rows and method sets.
use Rattle.std.proofs.Common.{◌⊎◌, inl, inr, sym, ap, ◌∙◌, subst, arith}
use Rattle.std.specs.Prelude.{◌≡◌, ◌<◌, ℕ, List, [], ◌∷◌, Bool, true, Option, Some, length, map, slice_get, AllPairs}
use Rattle.std.proofs.Math.ListN.{set}
use Rattle.std.proofs.lemmas.Option.{slice_get_within}
use Rattle.std.specs.List.{AllByRecursion}
use Rattle.go_type.specs.Tree.{Ty, Tys}
use Rattle.go_type.specs.Levels.{tree_of, trees_of}
use Rattle.go_type.specs.Table.{places}
use Rattle.go_type.specs.MethodList.{SpecTy, Among, IsMethodOf, IsMethodSet, spec_of}
use Rattle.go_type.specs.MethodSet.{HasMethod}
use Rattle.go_type.specs.Members.{sought}
use Rattle.go_type.specs.declared.types.MethodSpec.{MethodSpec}
use Rattle.go_type.specs.declared.types.TypeId.{TypeId}
use Rattle.go_core.specs.declared.program.Program.{Program}
use Rattle.go_core.specs.CoreTree.{MethodName, MethodRow, CoreProgram}
use Rattle.go_core.specs.CoreView.{method_row_view, program_view}
use Rattle.go_core.specs.StepInterfaces.{row_of}
use Rattle.go_core.specs.SoundNode.{HasRow, HasRows}
use Rattle.go_core.specs.SoundProgram.{DifferInRow}
use Rattle.go_sound_parts.specs.Index.{IsRowAt, OwnRows, name_of}
use Rattle.go_sound_parts.specs.Methods.{HasSpec}
use Rattle.go_is_sound.specs.Rows.{AreDeclared, IsDeclared, IsDeclaredAt, LeadsTo, RowsDeclared}
use Rattle.go_is_sound.proofs.ListLemmas.{some_one, got_mapped, got_set, pairs_got}

module _ (p : Program) (t : TypeId) where
  abbrev pub RowOf : SpecTy → Type 0
  RowOf x = HasRow (program_view p) (tree_of (places p.types) t) (record { name = x.name; package_ = x.package_ }) x.params x.results x.variadic

  among_row : (ms : List MethodSpec) (x : SpecTy) → AllByRecursion (HasSpec p t) ms → Among (map (spec_of (places p.types)) ms) x → RowOf x
  among_row [] x h a = absurd a
  among_row (m ∷ ms) x h (inl e) = subst RowOf (sym e) h.0
  among_row (m ∷ ms) x h (inr a) = among_row ms x h.1 a

  pub methods_rows : (ms : List MethodSpec) → IsMethodSet (program_view p).names (tree_of (places p.types) t) (map (spec_of (places p.types)) ms) → AllByRecursion (HasSpec p t) ms
      → HasRows (program_view p) (tree_of (places p.types) t)
  methods_rows ms s h f params results variadic held has =
      let x : SpecTy = record { name = f.name; package_ = f.package_; params = params; results = results; variadic = variadic } in
      among_row ms x h (s.complete x (held, has))

-- ---- no two rows of one method

two_firsts : (i j : ℕ) (o : Option ℕ) → o ≡ Some i → o ≡ Some j → i < j → ⊥
two_firsts i j o h k l = let e : i ≡ j = some_one i j (sym h ∙ k) in omega (arith, e)

one_name : (a b : MethodRow) → a.type_ ≡ b.type_ → a.name ≡ b.name → a.package_ ≡ b.package_ → name_of a ≡ name_of b
one_name a b h k l = cc

pub rows_apart : (p : Program) → OwnRows (program_view p) → AllPairs DifferInRow (program_view p).methods
rows_apart p own =
    let view = method_row_view (places p.types) in
    let rows = p.methods.items.items in
    pairs_got DifferInRow view rows
    (λ i j a b l e f. λ t n q.
    two_firsts i j (row_of (program_view p) (name_of (view a))) (own i (view a) (got_mapped view rows i a e))
    (subst (λ (x : MethodName). row_of (program_view p) x ≡ Some j) (sym (one_name (view a) (view b) t n q)) (own j (view b) (got_mapped view rows j b f))) l)

-- ---- rows that lead to methods of their types

-- a row of a method, which leads to its signature
pub declared_row : (p : Program) (t : TypeId) (m : MethodSpec) (at : ℕ) → IsMethodOf (program_view p).names (tree_of (places p.types) t) (spec_of (places p.types) m)
    → IsRowAt (program_view p) (record { type_ = tree_of (places p.types) t; name = m.name; package_ = m.package }) at → LeadsTo p at m.sig → IsDeclaredAt (program_view p) at
declared_row p t m at has h l = record {
  row = h.row;
  is_row = h.is_row;
  is_declared = record {
    function = l.function;
    is_function = subst (λ (r : MethodRow). slice_get (program_view p).funcs r.func ≡ Some l.function) (some_one l.row h.row (sym l.is_row ∙ h.is_row)) l.is_function;
    has_signature =
        subst (λ (n : MethodName). HasMethod (program_view p).names n.type_ (sought n.name n.package_) l.function.params l.function.results l.function.variadic) (sym h.of_method)
        (subst (λ (b : Bool). HasMethod (program_view p).names own (sought m.name m.package) l.function.params l.function.results b) (sym l.variadic_fits)
        (subst (λ (us : Tys). HasMethod (program_view p).names own (sought m.name m.package) l.function.params us m.sig.variadic) (sym l.results_fit)
        (subst (λ (us : Tys). HasMethod (program_view p).names own (sought m.name m.package) us (trees_of (places p.types) m.sig.results) m.sig.variadic) (sym l.params_fit) has.1)));
  };
}
  where
    own : Ty
    own = tree_of (places p.types) t

pub mark_more : (q : CoreProgram) (done : List Bool) (at : ℕ) → IsDeclaredAt q at → AreDeclared q done → AreDeclared q (set done at true)
mark_more q done at h all i e = by_place (got_set done at i e)
  where
    by_place : (i ≡ at) ⊎ (slice_get done i ≡ Some true) → IsDeclaredAt q i
    by_place (inl g) = subst (IsDeclaredAt q) (sym g) h
    by_place (inr g) = all i g

pub all_declared : (q : CoreProgram) (done : List Bool) → AreDeclared q done → ((k : ℕ) → k < length q.methods → slice_get done k ≡ Some true) → RowsDeclared q
all_declared q done h d k row e =
    let g = h k (d k (slice_get_within q.methods k row e)) in subst (IsDeclared q) (some_one g.row row (sym g.is_row ∙ e)) g.is_declared
