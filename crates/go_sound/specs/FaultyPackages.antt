-- Go specification (as of Go 1.17), "Constant declarations", "Type declarations", "Function declarations", "Program execution": which
-- declarations of a package are faulty, said apart from the order in which this is told.
use Rattle.std.specs.Prelude.{◌++◌, ◌≡◌, ◌<◌, ◌⊎◌, ◌↔◌, ℕ, suc, ◌+◌, List, [], ◌∷◌, Bool, true, false, ◌&&◌, if◌then◌else◌, Option, Some, None}
use Rattle.gj_base.specs.declared.place.Place.{Place}
use Rattle.go_syntax.specs.Tree as t
use Rattle.go_syntax.specs.declared.tree.Name.{Name}
use Rattle.go_type.specs.Tree.{Ty}
use Rattle.go_type.specs.Underlying.{underlying}
use Rattle.go_typing.specs.Answer.{Flaw, flaw, own}
use Rattle.go_typing.specs.Convert.{is_scalar}
use Rattle.go_typing.specs.Wanted.{wanted_type}
use Rattle.go_typing.specs.Typing.{place_of}
use Rattle.go_typing.specs.Faulty.{IsIn, HasFault, HasFaultAt}
use Rattle.go_typing.specs.Walk.{Walk}
use Rattle.go_typing.specs.Expressions.{answer_in, value_at}
use Rattle.go_typing.specs.Assign.{all_typed}
use Rattle.go_typing.specs.Declare.{SpecType, no_type, of_type, lost_type, spec_type, counting, constant_flaws, spec_known, names_count, spec_place}
use Rattle.go_typing.specs.Signature.{SigTypes, sig_flaws, sig_types, params_of, results_of, all_bound, inside}
use Rattle.go_typing.specs.Items.{is_init, items_of}
use Rattle.go_typing.specs.Known.{outside}
use Rattle.go_typing.specs.Functions.{Between, body_of, after_body, at_start, around_body}
use Rattle.go_typing.specs.Checked.{known_in, between_of, first_byte, first_too_far, count_functions, told}
use Rattle.go_typing.specs.Told.{is_main, takes_something, decls_told}
use Rattle.go_sound.specs.FaultyNames.{SomeNameFault, SomeCircle}
use Rattle.go_sound.specs.FaultyStatements.{HasBodyFault}

-- ---- constants and types

-- where a type is wanted: a faulty node, or no type
abbrev pub HasTypeFault : Walk → t.Expr → Flaw → Type 0
HasTypeFault w e f = HasFault w.names w.scopes e f ⊎ IsIn f (own (wanted_type (place_of e) (answer_in w e)))

abbrev pub HasSpecTypeFault : Walk → t.MaybeExpr → Flaw → Type 0
HasSpecTypeFault w t.NoExpr f = ⊥
HasSpecTypeFault w (t.AnExpr e) f = HasTypeFault w e f

-- own: the type of a constant is a boolean, integer or string type (61)
abbrev pub HasTypedFault : Walk → Ty → t.Expr → (is_scalar : Bool) → Flaw → Type 0
HasTypedFault w u y true f = HasFaultAt w.names w.scopes u y f ⊎ IsIn f (constant_flaws (place_of y) (value_at w u y).answer)
HasTypedFault w u y false f = HasFault w.names w.scopes y f ⊎ (f ≡ flaw (place_of y) 61)

-- a constant's value: a faulty node, no value of the type, or no constant
abbrev pub HasConstantFault : Walk → SpecType → t.Expr → Flaw → Type 0
HasConstantFault w no_type y f = HasFault w.names w.scopes y f ⊎ IsIn f (constant_flaws (place_of y) (answer_in w y))
HasConstantFault w lost_type y f = HasFault w.names w.scopes y f
HasConstantFault w (of_type u) y f = HasTypedFault w u y (is_scalar (underlying w.names u)) f

-- of one of the names
abbrev pub SomeConstantFault : Walk → SpecType → List Name → t.Exprs → Flaw → Type 0
SomeConstantFault w s (n ∷ ns) (t.MoreExprs y ys) f = HasConstantFault w s y f ⊎ SomeConstantFault w s ns ys f
SomeConstantFault w s _ _ f = ⊥

abbrev pub SomeNodeFault : Walk → t.Exprs → Flaw → Type 0
SomeNodeFault w t.NoExprs f = ⊥
SomeNodeFault w (t.MoreExprs y ys) f = HasFault w.names w.scopes y f ⊎ SomeNodeFault w ys f

-- not as many values as names (84), where the type and each value is typed and no value has a fault
abbrev pub HasCountFault : Place → Walk → List Name → SpecType → t.Exprs → Flaw → Type 0
HasCountFault at w ns s ys f = SomeNodeFault w ys f ⊎ ((spec_known s && all_typed w ys) ≡ true) × ((g : Flaw) → SomeNodeFault w ys g → ⊥) × (f ≡ flaw (spec_place ns at) 84)

abbrev pub HasValuesFault : Place → Walk → List Name → SpecType → t.Exprs → (as_many : Bool) → Flaw → Type 0
HasValuesFault at w ns s ys true f = SomeConstantFault w s ns ys f
HasValuesFault at w ns s ys false f = HasCountFault at w ns s ys f

abbrev pub HasSpecFault : Place → Walk → List Name → t.MaybeExpr → t.Exprs → Flaw → Type 0
HasSpecFault at w ns u ys f = HasSpecTypeFault w u f ⊎ HasValuesFault at w ns (spec_type w u) ys (names_count ns ys) f

-- a specification without a list has the last one again
abbrev pub SomeSpecFault : Place → ℕ → Walk → t.MaybeExpr → t.Exprs → t.ValueSpecs → Flaw → Type 0
SomeSpecFault at k w u ys t.NoValues f = ⊥
SomeSpecFault at k w u ys (t.MoreValues ns v t.NoExprs vs) f = HasSpecFault at (counting k w) ns u ys f ⊎ SomeSpecFault at (suc k) w u ys vs f
SomeSpecFault at k w u ys (t.MoreValues ns v (t.MoreExprs z zs) vs) f = HasSpecFault at (counting k w) ns v (t.MoreExprs z zs) f ⊎ SomeSpecFault at (suc k) w v (t.MoreExprs z zs) vs f

abbrev pub SomeTypeFault : Walk → t.TypeSpecs → Flaw → Type 0
SomeTypeFault w t.NoTypes f = ⊥
SomeTypeFault w (t.MoreTypes n alias e ts) f = HasTypeFault w e f ⊎ SomeTypeFault w ts f

-- ---- functions

-- `main` takes or gives something (99)
abbrev pub HasMainFault : Name → Option SigTypes → Flaw → Type 0
HasMainFault n None f = ⊥
HasMainFault n (Some s) f = (is_main n ≡ true) × (takes_something s ≡ true) × (f ≡ flaw n.place 99)

-- a function `init` is not built yet
abbrev pub HasFunctionFault : Place → Name → t.Sig → Walk → (is_init : Bool) → Flaw → Type 0
HasFunctionFault at n s w true f = f ≡ flaw at 0
HasFunctionFault at n s w false f = IsIn f (sig_flaws w s) ⊎ HasMainFault n (sig_types w s) f

-- ---- declarations

abbrev pub HasDeclFault : Walk → t.Decl → Flaw → Type 0
HasDeclFault w (t.ConstDecl at vs) f = SomeSpecFault at 0 w t.NoExpr t.NoExprs vs f
HasDeclFault w (t.TypeDecl at ts) f = SomeTypeFault w ts f
-- package variables and methods are not built yet
HasDeclFault w (t.VarDecl at vs) f = f ≡ flaw at 0
HasDeclFault w (t.FuncDecl at n s b) f = HasFunctionFault at n s w (is_init n) f
HasDeclFault w (t.MethodDecl at p rs n s b) f = f ≡ flaw at 0

abbrev pub SomeDeclFault : Walk → List t.Decl → Flaw → Type 0
SomeDeclFault w [] f = ⊥
SomeDeclFault w (d ∷ ds) f = HasDeclFault w d f ⊎ SomeDeclFault w ds f

abbrev pub DeclsToldExactly : Type 0
DeclsToldExactly = (w : Walk) (ds : List t.Decl) (f : Flaw) → IsIn f (decls_told w ds) ↔ SomeDeclFault w ds f

-- ---- bodies, and the whole

-- far: where the first function stands that is one too many; k: what is known before the first of these, its named types and
-- the number of the next variable
abbrev pub SomeBodyFault : Option Place → Walk → List t.Decl → Between → Flaw → Type 0
SomeBodyFault far w [] k f = ⊥
SomeBodyFault far w (t.FuncDecl at n s b ∷ ds) k f =
    ((is_init n ≡ false) × HasBodyFault b (around_body far w at n s) (all_bound w (params_of s ++ results_of s) (inside (at_start w k))) f)
    ⊎ SomeBodyFault far w ds (if is_init n then k else after_body (body_of w k s b (around_body far w at n s))) f
SomeBodyFault far w (d ∷ ds) k f = SomeBodyFault far w ds k f

-- a faulty name, declaration or body
abbrev pub HasPackageFault : List t.Decl → Flaw → Type 0
HasPackageFault ds f =
    ((SomeNameFault (items_of ds) f ⊎ SomeCircle (outside (known_in ds)).scopes (items_of ds) f) ⊎ SomeDeclFault (outside (known_in ds)) ds f)
    ⊎ SomeBodyFault (first_too_far ds) (outside (known_in ds)) ds (between_of (known_in ds)) f

-- own: where nothing else is told, the generated functions count too (79)
abbrev pub ToldExactly : Type 0
ToldExactly =
    (ds : List t.Decl) (f : Flaw) → IsIn f (told ds) ↔ (HasPackageFault ds f ⊎ (((g : Flaw) → HasPackageFault ds g → ⊥) × (65535 < count_functions ds + 2) × (f ≡ flaw first_byte 79)))
