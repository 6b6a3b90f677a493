-- The functions of a package go by what is known of each before its body.
use Rattle.std.proofs.Common.{◌≡◌, refl, ap, List, [], ◌∷◌, Bool, true, false, Option}
use Rattle.std.specs.Prelude.{if◌then◌else◌}
use Rattle.gj_base.specs.declared.place.Place.{Place}
use Rattle.go_syntax.specs.Tree as t
use Rattle.go_syntax.specs.declared.tree.Name.{Name}
use Rattle.go_typing.specs.Walk.{Walk, Did}
use Rattle.go_typing.specs.Signature.{sig_types}
use Rattle.go_typing.specs.Items.{is_init}
use Rattle.go_typing.specs.Functions.{Between, Functions, around_body, body_of, core_function, after_body, and_function, function_then, functions_from}
use Rattle.go_decls.specs.Heads.{head_of, heads_from, functions_by}

-- what comes of the body of a function
abbrev done : Option Place → Walk → Between → Place → Name → t.Sig → t.Block → Did
done far w k at n s b = body_of w k s b (around_body far w at n s)

pub by_heads : (far : Option Place) (w : Walk) (ds : List t.Decl) (k : Between) → functions_by w (heads_from far w ds) k ≡ functions_from far w ds k
by_heads far w [] k = refl
by_heads far w (t.FuncDecl at n s b ∷ ds) k = by_test (is_init n) (by_heads far w ds k) (by_heads far w ds (after_body (done far w k at n s b)))
  where
    by_test : (c : Bool) → functions_by w (heads_from far w ds) k ≡ functions_from far w ds k → functions_by w (heads_from far w ds) (after_body (done far w k at n s b)) ≡ functions_from far w ds (after_body (done far w k at n s b))
        → functions_by w (if c then heads_from far w ds else head_of far w at n s b ∷ heads_from far w ds) k ≡ (if c then functions_from far w ds k else function_then at n (sig_types w s) (done far w k at n s b) (functions_from far w ds))
    by_test true h l = h
    by_test false h l = ap (λ (r : Functions). and_function (core_function at n (sig_types w s) (done far w k at n s b)) (done far w k at n s b).flaws r) l
by_heads far w (t.ConstDecl at vs ∷ ds) k = by_heads far w ds k
by_heads far w (t.TypeDecl at ts ∷ ds) k = by_heads far w ds k
by_heads far w (t.VarDecl at vs ∷ ds) k = by_heads far w ds k
by_heads far w (t.MethodDecl at p rs n s b ∷ ds) k = by_heads far w ds k
