-- What a declaration needs doesn't rest on what the names of the package stand for.
use Rattle.std.proofs.Common.{◌≡◌, ◌⊎◌, inl, inr, ◌||◌, ℕ, zero, suc, length, List, [], ◌∷◌, ◌++◌, refl, sym, subst, ap, ◌∙◌, Bool, true, false, if◌then◌else◌, Option, Some, None, bytes_eq}
use Rattle.go_syntax.specs.Tree as t
use Rattle.go_type.specs.Tree.{Ty}
use Rattle.go_typing.specs.Env.{Decl, unknown, Bind, find, lookup, or_in, universe, is_blank}
use Rattle.go_typing.specs.Answer.{Answer, Flaw, flaw, value, pending, type_, package_, built_in, blank, does, wrong, untyped_part}
use Rattle.go_typing.specs.Typing.{callee_of, by_value, declared_callee, is_built_prefix}
use Rattle.go_typing.specs.Walk.{Walk}
use Rattle.go_typing.specs.Declare.{counting, spec_type, constant_value, constant_decl}
use Rattle.go_typing.specs.Signature.{Param, SigTypes, params_of, results_of, sig_types}
use Rattle.go_typing.specs.Items.{Item, constant_item, type_item, alias_item, function_item, variable_item, init_item, name_of, items_of}
use Rattle.go_typing.specs.Known.{Known, named_type, outside, type_found, type_decl, alias_decl, constant_found, function_decl, decl_of, nothing_known, after_rounds}
use Rattle.go_typing.specs.Cycles.{call_needs, needed, needed_bound, needed_all, needed_value, needed_params, needs_of, is_among, joined, needs_named, needs_all, reached, needs_itself, cycles_from, cycle_flaws}
use Rattle.go_sound.proofs.KnownWords.{every_item, fill, binds_filled, nothing, alone_filled, LessDecl, LessBinds, fill_less, OfOption, fill_all, found_all}
use Rattle.go_sound.specs.Circles.{CirclesStay}

-- ---- what isn't a built-in function is looked at where it is called

abbrev IsPlain : Decl → Type 0
IsPlain d = (fs xs : List (List ℕ)) → call_needs (declared_callee (Some d)) fs xs ≡ fs ++ xs

plain_constant : (a : Answer) → IsPlain (constant_decl a)
plain_constant (value c u (Some v)) fs xs = refl
plain_constant (value c u None) fs xs = refl
plain_constant (pending p b) fs xs = refl
plain_constant (type_ u) fs xs = refl
plain_constant (package_ p) fs xs = refl
plain_constant (built_in b) fs xs = refl
plain_constant blank fs xs = refl
plain_constant (does s) fs xs = refl
plain_constant (wrong f gs) fs xs = refl
plain_constant untyped_part fs xs = refl

plain_found : (w : Walk) (u : t.MaybeExpr) (y : Option t.Expr) → IsPlain (constant_found w u y)
plain_found w u None = λ fs xs. refl
plain_found w u (Some y) = plain_constant (constant_value w (spec_type w u) y).answer

plain_type : (u : Ty) (o : Option Ty) → IsPlain (type_decl u o)
plain_type u None fs xs = refl
plain_type u (Some v) fs xs = refl

plain_alias : (o : Option Ty) → IsPlain (alias_decl o)
plain_alias None fs xs = refl
plain_alias (Some v) fs xs = refl

plain_function : (id : ℕ) (o : Option SigTypes) → IsPlain (function_decl id o)
plain_function id None fs xs = refl
plain_function id (Some s) fs xs = refl

plain : (k : Known) (i : Item) → IsPlain (decl_of k i)
plain k (constant_item n number u y all) = plain_found (counting number (outside k)) u y
plain k (type_item n number e) = plain_type (named_type number) (type_found k e)
plain k (alias_item n e) = plain_alias (type_found k e)
plain k (function_item n id s) = plain_function id (sig_types (outside k) s)
plain k (variable_item n) = λ fs xs. refl
plain k (init_item n) = λ fs xs. refl

-- ---- a name of the one scope is one of the other

abbrev FoundBoth : Option Decl → Option Decl → Type 0
FoundBoth o r = (o ≡ r) ⊎ ((d : Decl) × (o ≡ Some unknown) × (r ≡ Some d))

found_both : (x : List ℕ) (bs cs : List Bind) → LessBinds bs cs → FoundBoth (find x bs) (find x cs)
found_both x [] [] h = inl refl
found_both x [] (c ∷ cs) h = absurd h
found_both x (b ∷ bs) [] h = absurd h
found_both x (b ∷ bs) (c ∷ cs) h = subst (λ (n : List ℕ). FoundBoth (if bytes_eq b.name x then Some b.what else find x bs) (if bytes_eq n x then Some c.what else find x cs)) h.0 (by_test (bytes_eq b.name x) (found_both x bs cs h.3))
  where
    by_less : LessDecl b.what c.what → FoundBoth (Some b.what) (Some c.what)
    by_less (inl e) = inr (c.what, ap (λ (d : Decl). Some d) e, refl)
    by_less (inr e) = inl (ap (λ (d : Decl). Some d) e)

    by_test : (s : Bool) → FoundBoth (find x bs) (find x cs) → FoundBoth (if s then Some b.what else find x bs) (if s then Some c.what else find x cs)
    by_test true k = by_less h.2
    by_test false k = k

-- ---- two lists of scopes in which calls look at the same

module _ (ss rs : List (List Bind)) (same : (x : List ℕ) (fs xs : List (List ℕ)) → call_needs (declared_callee (lookup x ss)) fs xs ≡ call_needs (declared_callee (lookup x rs)) fs xs) where
  callee_same : (f : t.Expr) (fs xs : List (List ℕ)) → call_needs (callee_of ss f) fs xs ≡ call_needs (callee_of rs f) fs xs
  callee_same (t.NameExpr at x) fs xs = by_test (is_blank x)
    where
      by_test : (b : Bool) → call_needs (if b then by_value else declared_callee (lookup x ss)) fs xs ≡ call_needs (if b then by_value else declared_callee (lookup x rs)) fs xs
      by_test true = refl
      by_test false = same x fs xs
  callee_same (t.ParenExpr at f) fs xs = callee_same f fs xs
  callee_same _ fs xs = refl

  mutual
    needed_same : (e : t.Expr) → needed ss e ≡ needed rs e
    needed_same (t.ParenExpr at x) = needed_same x
    needed_same (t.UnaryExpr at op x) = ap (λ (ns : List (List ℕ)). if is_built_prefix op then ns else []) (needed_same x)
    needed_same (t.BinaryExpr at x op y) = ap (λ (ns : List (List ℕ)). ns ++ needed ss y) (needed_same x) ∙ ap (λ (ns : List (List ℕ)). needed rs x ++ ns) (needed_same y)
    needed_same (t.IndexExpr at x i) = ap (λ (ns : List (List ℕ)). ns ++ needed ss i) (needed_same x) ∙ ap (λ (ns : List (List ℕ)). needed rs x ++ ns) (needed_same i)
    needed_same (t.SliceExpr at x low high most) =
        ap (λ (ns : List (List ℕ)). ns ++ needed_bound ss low ++ needed_bound ss high ++ needed_bound ss most) (needed_same x)
        ∙ ap (λ (ns : List (List ℕ)). needed rs x ++ ns ++ needed_bound ss high ++ needed_bound ss most) (bound_same low)
        ∙ ap (λ (ns : List (List ℕ)). needed rs x ++ needed_bound rs low ++ ns ++ needed_bound ss most) (bound_same high)
        ∙ ap (λ (ns : List (List ℕ)). needed rs x ++ needed_bound rs low ++ needed_bound rs high ++ ns) (bound_same most)
    needed_same (t.CallExpr at f xs spread) =
        callee_same f (needed ss f) (needed_all ss xs)
        ∙ ap (λ (ns : List (List ℕ)). call_needs (callee_of rs f) ns (needed_all ss xs)) (needed_same f)
        ∙ ap (λ (ns : List (List ℕ)). call_needs (callee_of rs f) (needed rs f) ns) (all_same xs)
    needed_same _ = refl

    bound_same : (e : t.MaybeExpr) → needed_bound ss e ≡ needed_bound rs e
    bound_same t.NoExpr = refl
    bound_same (t.AnExpr x) = needed_same x

    all_same : (es : t.Exprs) → needed_all ss es ≡ needed_all rs es
    all_same t.NoExprs = refl
    all_same (t.MoreExprs x xs) = ap (λ (ns : List (List ℕ)). ns ++ needed_all ss xs) (needed_same x) ∙ ap (λ (ns : List (List ℕ)). needed rs x ++ ns) (all_same xs)

  value_same : (y : Option t.Expr) (all : t.Exprs) → needed_value ss y all ≡ needed_value rs y all
  value_same None all = all_same all
  value_same (Some y) all = needed_same y

  params_same : (ps : List Param) → needed_params ss ps ≡ needed_params rs ps
  params_same [] = refl
  params_same (p ∷ ps) =
      ap (λ (ns : List (List ℕ)). (if p.variadic then [] else ns) ++ needed_params ss ps) (needed_same p.type_)
      ∙ ap (λ (ns : List (List ℕ)). (if p.variadic then [] else needed rs p.type_) ++ ns) (params_same ps)

  item_same : (i : Item) → needs_of ss i ≡ needs_of rs i
  item_same (constant_item n k u y all) = ap (λ (ns : List (List ℕ)). ns ++ needed_value ss y all) (bound_same u) ∙ ap (λ (ns : List (List ℕ)). needed_bound rs u ++ ns) (value_same y all)
  item_same (type_item n k e) = needed_same e
  item_same (alias_item n e) = needed_same e
  item_same (function_item n id s) =
      ap (λ (ns : List (List ℕ)). ns ++ needed_params ss (results_of s)) (params_same (params_of s)) ∙ ap (λ (ns : List (List ℕ)). needed_params rs (params_of s) ++ ns) (params_same (results_of s))
  item_same (variable_item n) = refl
  item_same (init_item n) = refl

  module _ (all : List Item) where
    named_same : (x : List ℕ) (is : List Item) → needs_named ss all x is ≡ needs_named rs all x is
    named_same x [] = refl
    named_same x (i ∷ is) =
        ap (λ (ns : List (List ℕ)). if bytes_eq (name_of i).text x then ns else needs_named ss all x is) (item_same i)
        ∙ ap (λ (ns : List (List ℕ)). if bytes_eq (name_of i).text x then needs_of rs i else ns) (named_same x is)

    each_same : (xs : List (List ℕ)) → needs_all ss all xs ≡ needs_all rs all xs
    each_same [] = refl
    each_same (x ∷ xs) = ap (λ (ns : List (List ℕ)). ns ++ needs_all ss all xs) (named_same x all) ∙ ap (λ (ns : List (List ℕ)). needs_named rs all x all ++ ns) (each_same xs)

    reached_same : (n : ℕ) (xs : List (List ℕ)) → reached ss all n xs ≡ reached rs all n xs
    reached_same zero xs = refl
    reached_same (suc n) xs = ap (λ (ns : List (List ℕ)). reached ss all n (joined xs ns)) (each_same xs) ∙ reached_same n (joined xs (needs_all rs all xs))

    itself_same : (i : Item) → needs_itself ss all i ≡ needs_itself rs all i
    itself_same i =
        ap (λ (ns : List (List ℕ)). is_among (name_of i).text (reached ss all (length all) ns)) (item_same i) ∙ ap (is_among (name_of i).text) (reached_same (length all) (needs_of rs i))

    cycles_same : (seen : List (List ℕ)) (is : List Item) → cycles_from ss all seen is ≡ cycles_from rs all seen is
    cycles_same seen [] = refl
    cycles_same seen (i ∷ is) =
        ap (λ (b : Bool). (if is_blank (name_of i).text || is_among (name_of i).text seen then [] else (if b then flaw (name_of i).place 74 ∷ [] else [])) ++ cycles_from ss all ((name_of i).text ∷ seen) is) (itself_same i)
        ∙ ap (λ (fs : List Flaw). (if is_blank (name_of i).text || is_among (name_of i).text seen then [] else (if needs_itself rs all i then flaw (name_of i).place 74 ∷ [] else [])) ++ fs) (cycles_same ((name_of i).text ∷ seen) is)

-- ---- the scopes of a package

calls_same : (u bs cs : List Bind) → LessBinds bs cs → ((x : List ℕ) → OfOption IsPlain (find x cs)) → (x : List ℕ) (fs xs : List (List ℕ))
    → call_needs (declared_callee (lookup x (u ∷ bs ∷ []))) fs xs ≡ call_needs (declared_callee (lookup x (u ∷ cs ∷ []))) fs xs
calls_same u bs cs h p x fs xs = by_case (found_both x bs cs h) (p x)
  where
    by_case : FoundBoth (find x bs) (find x cs) → OfOption IsPlain (find x cs)
        → call_needs (declared_callee (or_in (find x bs) (find x u))) fs xs ≡ call_needs (declared_callee (or_in (find x cs) (find x u))) fs xs
    by_case (inl e) q = ap (λ (o : Option Decl). call_needs (declared_callee (or_in o (find x u))) fs xs) e
    by_case (inr e) q =
        let r : IsPlain e.0 = subst (OfOption IsPlain) e.2 q in
        ap (λ (o : Option Decl). call_needs (declared_callee (or_in o (find x u))) fs xs) e.1
        ∙ sym (ap (λ (o : Option Decl). call_needs (declared_callee (or_in o (find x u))) fs xs) e.2 ∙ r fs xs)

-- before any declaration is typed, and as they are typed
filled_same : (k : Known) (is : List Item) → cycle_flaws (fill nothing is []) is ≡ cycle_flaws (fill (decl_of k) is []) is
filled_same k is =
    cycles_same (universe None ∷ fill nothing is [] ∷ []) (universe None ∷ fill (decl_of k) is [] ∷ [])
    (calls_same (universe None) (fill nothing is []) (fill (decl_of k) is [])
    (fill_less nothing (decl_of k) is [] [] (every_item (λ (i : Item). LessDecl unknown (decl_of k i)) (λ i. inl refl) is) tt)
    (λ x. found_all IsPlain x (fill (decl_of k) is []) (fill_all IsPlain (decl_of k) is [] (every_item (λ (i : Item). IsPlain (decl_of k i)) (plain k) is) tt)))
    is [] is

rounds_same : (n : ℕ) (is : List Item) → cycle_flaws (nothing_known is).binds is ≡ cycle_flaws (after_rounds n is).binds is
rounds_same zero is = refl
rounds_same (suc n) is =
    ap (λ (bs : List Bind). cycle_flaws bs is) (alone_filled is []) ∙ filled_same (after_rounds n is) is ∙ sym (ap (λ (bs : List Bind). cycle_flaws bs is) (binds_filled (after_rounds n is) is []))

pub circles_stay : CirclesStay
circles_stay ds = rounds_same (length (items_of ds)) (items_of ds)
