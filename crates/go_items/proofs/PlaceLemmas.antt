-- Where the function of a number stands.
use Rattle.std.proofs.Common.{arith, rules, ◌≡◌, ◌-◌, ◌∙◌, ℕ, zero, suc, refl, sym, ap, List, ◌∷◌, map, Bool, true, false}
use Rattle.std.specs.Prelude.{◌==◌, if◌then◌else◌, Vec, Option, Some, None}
use Rattle.std.specs.declared.alloc.Global.{Global}
use Rattle.std.proofs.lemmas.Bool.Decides.{nat_tests}
use Rattle.gj_base.specs.declared.place.Place.{Place}
use Rattle.go_syntax.specs.Tree as tree
use Rattle.go_syntax.specs.View.{decl_view, decl_form_view, type_spec_view, value_spec_view, params_view, sig_view, block_view, joined}
use Rattle.go_syntax.specs.declared.tree.Block.{Block}
use Rattle.go_syntax.specs.declared.tree.Decl.{Decl, fold_out-Decl}
use Rattle.go_syntax.specs.declared.tree.DeclForm.{DeclForm, fold-roll-DeclForm}
use Rattle.go_syntax.specs.declared.tree.DeclForm.TheVariants as form
use Rattle.go_syntax.specs.declared.tree.Name.{Name}
use Rattle.go_syntax.specs.declared.tree.Params.{Params}
use Rattle.go_syntax.specs.declared.tree.Sig.{Sig}
use Rattle.go_syntax.specs.declared.tree.TypeSpec.{TypeSpec}
use Rattle.go_syntax.specs.declared.tree.ValueSpec.{ValueSpec}
use Rattle.go_typing.specs.Checked.{function_at}
use Rattle.go_items.specs.PlaceSearch.{own_place}

is_zero : (n : ℕ) → n ≡ 0 → (n == 0) ≡ true
is_zero n h = grind (arith, nat_tests)

not_zero : (n : ℕ) → (n ≡ 0 → ⊥) → (n == 0) ≡ false
not_zero n h = grind (arith, nat_tests)

-- the next function is the one, or it stands further on
pub place_here : (n : ℕ) (at : Option Place) (rest : List tree.Decl) → n ≡ 0 → at ≡ (if n == 0 then at else function_at (n - 1) rest)
place_here n at rest h = sym (ap (λ (b : Bool). if b then at else function_at (n - 1) rest) (is_zero n h))

pub place_further : (n : ℕ) (at : Option Place) (rest : List tree.Decl) → (n ≡ 0 → ⊥) → function_at (n - 1) rest ≡ (if n == 0 then at else function_at (n - 1) rest)
place_further n at rest h = sym (ap (λ (b : Bool). if b then at else function_at (n - 1) rest) (not_zero n h))

one_less : (n : ℕ) → n ≡ suc n - 1
one_less n = omega arith

more : (n : ℕ) → suc n ≡ 0 → ⊥
more n h = omega arith

past_one : (n : ℕ) (at : Option Place) (rest : List tree.Decl) → function_at n rest ≡ (if suc n == 0 then at else function_at (suc n - 1) rest)
past_one n at rest = ap (λ (k : ℕ). function_at k rest) (one_less n) ∙ place_further (suc n) at rest (more n)

-- ---- by what is declared

function_passes : (n : ℕ) (at : Place) (m : Name) (s : tree.Sig) (b : tree.Block) (rest : List tree.Decl) → (if n == 0 then Some at else function_at (n - 1) rest) ≡ function_at n (tree.FuncDecl at m s b ∷ rest)
function_passes zero at m s b rest = sym (place_here 0 (Some at) rest refl)
function_passes (suc n) at m s b rest = sym (past_one n (Some at) rest)

method_passes : (n : ℕ) (at p : Place) (rs : tree.Params) (m : Name) (s : tree.Sig) (b : tree.Block) (rest : List tree.Decl) → (if n == 0 then None else function_at (n - 1) rest) ≡ function_at n (tree.MethodDecl at p rs m s b ∷ rest)
method_passes zero at p rs m s b rest = sym (place_here 0 None rest refl)
method_passes (suc n) at p rs m s b rest = sym (past_one n None rest)

constants_pass : (n : ℕ) (at : Place) (vs : tree.ValueSpecs) (rest : List tree.Decl) → function_at n rest ≡ function_at n (tree.ConstDecl at vs ∷ rest)
constants_pass zero at vs rest = refl
constants_pass (suc n) at vs rest = refl

types_pass : (n : ℕ) (at : Place) (ts : tree.TypeSpecs) (rest : List tree.Decl) → function_at n rest ≡ function_at n (tree.TypeDecl at ts ∷ rest)
types_pass zero at ts rest = refl
types_pass (suc n) at ts rest = refl

variables_pass : (n : ℕ) (at : Place) (vs : tree.ValueSpecs) (rest : List tree.Decl) → function_at n rest ≡ function_at n (tree.VarDecl at vs ∷ rest)
variables_pass zero at vs rest = refl
variables_pass (suc n) at vs rest = refl

-- ---- by the form of a declaration

decl_whole : (d : Decl) → decl_view d ≡ decl_form_view d.form.value d.place
decl_whole d = search (rules, fold_out-Decl)

seen : (d : Decl) (f : DeclForm) (e : tree.Decl) → f ≡ d.form.value → decl_form_view f d.place ≡ e → decl_view d ≡ e
seen d f e p q = decl_whole d ∙ ap (λ (g : DeclForm). decl_form_view g d.place) (sym p) ∙ q

pub constants_left : (d : Decl) (f : DeclForm) (specs : Vec ValueSpec Global) (n : ℕ) (rest : List tree.Decl) → f ≡ d.form.value → f ≡ form.Const specs → function_at n rest ≡ function_at n (decl_view d ∷ rest)
constants_left d f specs n rest p q =
    let vs = joined (map value_spec_view specs.items) tree.NoValues in
    constants_pass n d.place vs rest
    ∙ sym (ap (λ (x : tree.Decl). function_at n (x ∷ rest)) (seen d f (tree.ConstDecl d.place vs) p (ap (λ (g : DeclForm). decl_form_view g d.place) q ∙ rw (← form.rolls-Const, fold-roll-DeclForm))))

pub types_left : (d : Decl) (f : DeclForm) (specs : Vec TypeSpec Global) (n : ℕ) (rest : List tree.Decl) → f ≡ d.form.value → f ≡ form.TypeDecl specs → function_at n rest ≡ function_at n (decl_view d ∷ rest)
types_left d f specs n rest p q =
    let ts = joined (map type_spec_view specs.items) tree.NoTypes in
    types_pass n d.place ts rest
    ∙ sym (ap (λ (x : tree.Decl). function_at n (x ∷ rest)) (seen d f (tree.TypeDecl d.place ts) p (ap (λ (g : DeclForm). decl_form_view g d.place) q ∙ rw (← form.rolls-TypeDecl, fold-roll-DeclForm))))

pub variables_left : (d : Decl) (f : DeclForm) (specs : Vec ValueSpec Global) (n : ℕ) (rest : List tree.Decl) → f ≡ d.form.value → f ≡ form.Var specs → function_at n rest ≡ function_at n (decl_view d ∷ rest)
variables_left d f specs n rest p q =
    let vs = joined (map value_spec_view specs.items) tree.NoValues in
    variables_pass n d.place vs rest
    ∙ sym (ap (λ (x : tree.Decl). function_at n (x ∷ rest)) (seen d f (tree.VarDecl d.place vs) p (ap (λ (g : DeclForm). decl_form_view g d.place) q ∙ rw (← form.rolls-Var, fold-roll-DeclForm))))

-- with a receiver and without one
pub function_left : (d : Decl) (f : DeclForm) (r : Option Params) (m : Name) (s : Sig) (b : Block) (n : ℕ) (rest : List tree.Decl) → f ≡ d.form.value → f ≡ form.Func r m s b
    → (if n == 0 then own_place r d.place else function_at (n - 1) rest) ≡ function_at n (decl_view d ∷ rest)
function_left d f None m s b n rest p q =
    function_passes n d.place m (sig_view s) (block_view b) rest
    ∙ sym (ap (λ (x : tree.Decl). function_at n (x ∷ rest)) (seen d f (tree.FuncDecl d.place m (sig_view s) (block_view b)) p (ap (λ (g : DeclForm). decl_form_view g d.place) q ∙ rw (← form.rolls-Func, fold-roll-DeclForm))))
function_left d f (Some ps) m s b n rest p q =
    method_passes n d.place (params_view ps).0 (params_view ps).1 m (sig_view s) (block_view b) rest
    ∙ sym (ap (λ (x : tree.Decl). function_at n (x ∷ rest))
    (seen d f (tree.MethodDecl d.place (params_view ps).0 (params_view ps).1 m (sig_view s) (block_view b)) p (ap (λ (g : DeclForm). decl_form_view g d.place) q ∙ rw (← form.rolls-Func, fold-roll-DeclForm))))
