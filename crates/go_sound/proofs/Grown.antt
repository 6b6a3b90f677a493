-- Of two states of a package's scope, one that knows less: what is typed by it stays so.
use Rattle.std.proofs.Common.{◌≡◌, ◌⊎◌, inl, inr, ℕ, List, [], ◌∷◌, ◌++◌, refl, sym, subst, ap, ◌∙◌, Bool, true, false, Option, Some, None, option_map, if◌then◌else◌, bytes_eq}
use Rattle.gj_base.specs.declared.place.Place.{Place}
use Rattle.go_syntax.specs.Tree as t
use Rattle.go_syntax.specs.declared.tree.Name.{Name}
use Rattle.go_type.specs.Tree as ty
use Rattle.go_type.specs.Tree.{Ty, Tys, no_tys, more_tys}
use Rattle.go_type.specs.Named.{NamedTy}
use Rattle.go_type.specs.Underlying.{underlying, under_at, or_else}
use Rattle.go_typing.specs.Env.{Decl, variable, global, constant, type_name, function, imported, nil_value, refused, unknown, Bind, find, lookup, or_in, universe, iota_in}
use Rattle.go_typing.specs.Env as env
use Rattle.go_typing.specs.Answer.{Answer, value, pending, type_, package_, built_in, blank, does, wrong, untyped_part}
use Rattle.go_typing.specs.Convert.{is_scalar}
use Rattle.go_typing.specs.Wanted.{wanted, wanted_type}
use Rattle.go_typing.specs.Typing.{place_of, typing}
use Rattle.go_typing.specs.Unknown.{LessKnown}
use Rattle.go_typing.proofs.More.{stays_typed}
use Rattle.go_typing.specs.Walk.{Walk}
use Rattle.go_typing.specs.Expressions.{type_of, answer_in}
use Rattle.go_typing.specs.Declare.{SpecType, no_type, of_type, lost_type, spec_type_of, counting, constant_value, constant_decl}
use Rattle.go_typing.specs.Signature.{SigTypes}
use Rattle.go_typing.specs.Items.{Item, constant_item, type_item, alias_item, function_item, variable_item, init_item}
use Rattle.go_typing.specs.Known.{Known, named_type, outside, type_found, type_decl, alias_decl, constant_found, function_decl, decl_of}
use Rattle.go_sound.proofs.Agree.{Agrees, AllAgree, AnswerAgrees, Alike, under_same, wanted_alike}
use Rattle.go_sound.proofs.AgreeTyping.{DeclAgrees, OptionAgrees, ScopesAgree, typing_alike}
use Rattle.go_sound.proofs.SigLess.{OfTy, SameTy, LessTy, OfSig, LessSig, sig_less}
use Rattle.go_sound.proofs.KnownWords.{LessOption, LessUnder, LessDecl, under_found, OfType}

-- the named type stands for something
abbrev pub IsSet : List NamedTy → ℕ → Type 0
IsSet ns id = (u : Ty) × (under_at ns id ≡ Some u)

-- the one knows less than the other: names and types that it knows are known as the same, and its types are set
pub record KnowsLess (k l : Known) : Type 0 where
  pub less : (x : List ℕ) → LessOption (find x k.binds) (find x l.binds)
  pub set : (x : List ℕ) → OptionAgrees (IsSet k.names) (find x k.binds)
  pub grows : (id : ℕ) → LessUnder (under_at k.names id) (under_at l.names id)

-- ---- types that are set

pub set_grows : (ns ms : List NamedTy) → ((id : ℕ) → LessUnder (under_at ns id) (under_at ms id)) → (id : ℕ) → IsSet ns id → IsSet ms id
set_grows ns ms g id s = by_case (g id)
  where
    by_case : LessUnder (under_at ns id) (under_at ms id) → IsSet ms id
    by_case (inl h) = let e : None ≡ Some s.0 = sym h ∙ s.1 in cc
    by_case (inr h) = (s.0, sym h ∙ s.1)

set_same : (ns ms : List NamedTy) → ((id : ℕ) → LessUnder (under_at ns id) (under_at ms id)) → (id : ℕ) → IsSet ns id → underlying ns (ty.named id) ≡ underlying ms (ty.named id)
set_same ns ms g id s = by_case (g id)
  where
    by_case : LessUnder (under_at ns id) (under_at ms id) → underlying ns (ty.named id) ≡ underlying ms (ty.named id)
    by_case (inl h) = let e : None ≡ Some s.0 = sym h ∙ s.1 in cc
    by_case (inr h) = ap (λ (o : Option Ty). or_else o (ty.named id)) h

mutual
  agrees_more : (P Q : ℕ → Type 0) → ((id : ℕ) → P id → Q id) → (u : Ty) → Agrees P u → Agrees Q u
  agrees_more P Q f (ty.named id) h = f id h
  agrees_more P Q f (ty.tuple us) h = agree_more P Q f us h
  agrees_more P Q f _ h = tt

  agree_more : (P Q : ℕ → Type 0) → ((id : ℕ) → P id → Q id) → (us : Tys) → AllAgree P us → AllAgree Q us
  agree_more P Q f no_tys h = tt
  agree_more P Q f (more_tys u us) h = (agrees_more P Q f u h.0, agree_more P Q f us h.1)

pub decl_more : (P Q : ℕ → Type 0) → ((id : ℕ) → P id → Q id) → (d : Decl) → DeclAgrees P d → DeclAgrees Q d
decl_more P Q f (variable id u) h = agrees_more P Q f u h
decl_more P Q f (global number u) h = agrees_more P Q f u h
decl_more P Q f (constant k u) h = agrees_more P Q f u h
decl_more P Q f (type_name u) h = agrees_more P Q f u h
decl_more P Q f (function id ps rs v) h = (agree_more P Q f ps h.0, agree_more P Q f rs h.1)
decl_more P Q f (imported path) h = tt
decl_more P Q f (env.built_in b) h = tt
decl_more P Q f nil_value h = tt
decl_more P Q f (refused code) h = tt
decl_more P Q f unknown h = tt

-- ---- the universe scope

abbrev is_unnamed : Ty → Bool
is_unnamed (ty.named id) = false
is_unnamed (ty.tuple us) = false
is_unnamed _ = true

abbrev names_no_type : Decl → Bool
names_no_type (variable id u) = false
names_no_type (global number u) = false
names_no_type (constant k u) = is_unnamed u
names_no_type (type_name u) = is_unnamed u
names_no_type (function id ps rs v) = false
names_no_type _ = true

abbrev all_name_no_type : List Bind → Bool
all_name_no_type [] = true
all_name_no_type (b ∷ bs) = if names_no_type b.what then all_name_no_type bs else false

unnamed_agrees : (P : ℕ → Type 0) (u : Ty) → is_unnamed u ≡ true → Agrees P u
unnamed_agrees P (ty.named id) h = let e : false ≡ true = h in cc
unnamed_agrees P (ty.tuple us) h = let e : false ≡ true = h in cc
unnamed_agrees P _ h = tt

no_type_agrees : (P : ℕ → Type 0) (d : Decl) → names_no_type d ≡ true → DeclAgrees P d
no_type_agrees P (variable id u) h = let e : false ≡ true = h in cc
no_type_agrees P (global number u) h = let e : false ≡ true = h in cc
no_type_agrees P (constant k u) h = unnamed_agrees P u h
no_type_agrees P (type_name u) h = unnamed_agrees P u h
no_type_agrees P (function id ps rs v) h = let e : false ≡ true = h in cc
no_type_agrees P (imported path) h = tt
no_type_agrees P (env.built_in b) h = tt
no_type_agrees P nil_value h = tt
no_type_agrees P (refused code) h = tt
no_type_agrees P unknown h = tt

choice_agrees : (P : ℕ → Type 0) (b : Bool) (d : Decl) (o : Option Decl) → DeclAgrees P d → OptionAgrees P o → OptionAgrees P (if b then Some d else o)
choice_agrees P true d o h k = h
choice_agrees P false d o h k = k

pub universe_agrees : (P : ℕ → Type 0) (x : List ℕ) (bs : List Bind) → all_name_no_type bs ≡ true → OptionAgrees P (find x bs)
universe_agrees P x [] h = tt
universe_agrees P x (b ∷ bs) h = by_test (names_no_type b.what) refl h (λ k. universe_agrees P x bs k)
  where
    by_test : (c : Bool) → names_no_type b.what ≡ c → (if c then all_name_no_type bs else false) ≡ true → (all_name_no_type bs ≡ true → OptionAgrees P (find x bs)) → OptionAgrees P (find x (b ∷ bs))
    by_test true e k r = choice_agrees P (bytes_eq b.name x) b.what (find x bs) (no_type_agrees P b.what e) (r k)
    by_test false e k r = cc

pub or_agrees : (P : ℕ → Type 0) (o r : Option Decl) → OptionAgrees P o → OptionAgrees P r → OptionAgrees P (or_in o r)
or_agrees P None r h k = k
or_agrees P (Some d) r h k = h

or_less : (o r p : Option Decl) → LessOption o r → LessOption (or_in o p) (or_in r p)
or_less o r p (inl h) = inl (ap (λ (x : Option Decl). or_in x p) h)
or_less o r p (inr h) = inr (ap (λ (x : Option Decl). or_in x p) h)

-- ---- what is typed stays so

module _ (k l : Known) (know : KnowsLess k l) where
  abbrev P : ℕ → Type 0
  P = IsSet k.names

  same_under : (id : ℕ) → P id → underlying k.names (ty.named id) ≡ underlying l.names (ty.named id)
  same_under = set_same k.names l.names know.grows

  -- a node isn't typed by the one, or typed as the same by both, and its types are set
  abbrev LessAnswer : Answer → Answer → Type 0
  LessAnswer a b = (a ≡ untyped_part) ⊎ Alike k.names l.names P same_under a b

  -- u: the universe scope, in a constant specification or outside of one
  typed_less : (u : List Bind) → all_name_no_type u ≡ true → (e : t.Expr) → LessAnswer (typing k.names (u ∷ k.binds ∷ []) e) (typing l.names (u ∷ l.binds ∷ []) e)
  typed_less u h e = by_case (stays_typed l.names (u ∷ k.binds ∷ []) (u ∷ l.binds ∷ []) less e)
    where
      less : LessKnown (u ∷ k.binds ∷ []) (u ∷ l.binds ∷ [])
      less x = or_less (find x k.binds) (find x l.binds) (find x u) (know.less x)

      scopes : ScopesAgree P (u ∷ k.binds ∷ [])
      scopes x = or_agrees P (find x k.binds) (find x u) (know.set x) (universe_agrees P x u h)

      alike_here : Alike k.names l.names P same_under (typing k.names (u ∷ k.binds ∷ []) e) (typing l.names (u ∷ k.binds ∷ []) e)
      alike_here = typing_alike k.names l.names P same_under (u ∷ k.binds ∷ []) scopes e

      by_case : (typing l.names (u ∷ k.binds ∷ []) e ≡ untyped_part) ⊎ (typing l.names (u ∷ k.binds ∷ []) e ≡ typing l.names (u ∷ l.binds ∷ []) e)
          → LessAnswer (typing k.names (u ∷ k.binds ∷ []) e) (typing l.names (u ∷ l.binds ∷ []) e)
      by_case (inl f) = inl (alike_here.same ∙ f)
      by_case (inr f) = inr (record { same = alike_here.same ∙ f; agrees = alike_here.agrees })

  -- ---- types

  type_agrees : (p : Place) (a : Answer) → AnswerAgrees P a → OfTy P (type_of (wanted_type p a))
  type_agrees p (type_ u) h = h
  type_agrees p (wrong f fs) h = tt
  type_agrees p untyped_part h = tt
  type_agrees p (value c u v) h = tt
  type_agrees p (pending q b) h = tt
  type_agrees p (package_ q) h = tt
  type_agrees p (built_in b) h = tt
  type_agrees p blank h = tt
  type_agrees p (does s) h = tt

  type_less : (u : List Bind) → all_name_no_type u ≡ true → (e : t.Expr)
      → LessTy P (type_of (wanted_type (place_of e) (typing k.names (u ∷ k.binds ∷ []) e))) (type_of (wanted_type (place_of e) (typing l.names (u ∷ l.binds ∷ []) e)))
  type_less u h e = by_case (typed_less u h e)
    where
      by_case : LessAnswer (typing k.names (u ∷ k.binds ∷ []) e) (typing l.names (u ∷ l.binds ∷ []) e)
          → LessTy P (type_of (wanted_type (place_of e) (typing k.names (u ∷ k.binds ∷ []) e))) (type_of (wanted_type (place_of e) (typing l.names (u ∷ l.binds ∷ []) e)))
      by_case (inl f) = inl (ap (λ (a : Answer). type_of (wanted_type (place_of e) a)) f)
      by_case (inr f) = inr (record { same = ap (λ (a : Answer). type_of (wanted_type (place_of e) a)) f.same; agrees = type_agrees (place_of e) _ f.agrees })

  pub found_types : (e : t.Expr) → LessTy P (type_found k e) (type_found l e)
  found_types e = type_less (universe None) refl e

  -- ---- each declaration

  abbrev LessFound : Decl → Decl → Type 0
  LessFound d e = LessDecl d e × DeclAgrees P d

  not_found : (d e : Decl) → d ≡ unknown → LessFound d e
  not_found d e h = (inl h, subst (DeclAgrees P) (sym h) tt)

  alias_agrees : (o : Option Ty) → OfTy P o → DeclAgrees P (alias_decl o)
  alias_agrees None h = tt
  alias_agrees (Some u) h = h

  alias_less : (o r : Option Ty) → LessTy P o r → LessFound (alias_decl o) (alias_decl r)
  alias_less o r (inl h) = not_found _ _ (ap alias_decl h)
  alias_less o r (inr h) = (inr (ap alias_decl h.same), alias_agrees o h.agrees)

  constant_agrees : (a : Answer) → AnswerAgrees P a → DeclAgrees P (constant_decl a)
  constant_agrees (value c u (Some v)) h = h
  constant_agrees (value c u None) h = tt
  constant_agrees (pending p b) h = tt
  constant_agrees (type_ u) h = tt
  constant_agrees (package_ p) h = tt
  constant_agrees (built_in b) h = tt
  constant_agrees blank h = tt
  constant_agrees (does s) h = tt
  constant_agrees (wrong f fs) h = tt
  constant_agrees untyped_part h = tt

  answer_less : (a b : Answer) → LessAnswer a b → LessFound (constant_decl a) (constant_decl b)
  answer_less a b (inl h) = not_found _ _ (ap constant_decl h)
  answer_less a b (inr h) = (inr (ap constant_decl h.same), constant_agrees a h.agrees)

  -- a value where one of a type is wanted
  wanted_less : (p : Place) (u : Ty) (a b : Answer) → Agrees P u → LessAnswer a b → LessAnswer (wanted k.names p u a) (wanted l.names p u b)
  wanted_less p u a b h (inl e) = inl (ap (wanted k.names p u) e)
  wanted_less p u a b h (inr e) =
      let w = wanted_alike k.names l.names P same_under p u a h e.agrees in inr (record { same = w.same ∙ ap (wanted l.names p u) e.same; agrees = w.agrees })

  scalar_less : (b : Bool) (a c : Answer) → LessAnswer a c → LessAnswer (if b then a else untyped_part) (if b then c else untyped_part)
  scalar_less true a c h = h
  scalar_less false a c h = inl refl

-- what the value of a constant of a type is
typed_value : (w : Walk) (u : Ty) (y : t.Expr) → (constant_value w (of_type u) y).answer ≡ (if is_scalar (underlying w.names u) then wanted w.names (place_of y) u (answer_in w y) else untyped_part)
typed_value w u y = by_test (is_scalar (underlying w.names u)) refl
  where
    by_test : (b : Bool) → is_scalar (underlying w.names u) ≡ b → (constant_value w (of_type u) y).answer ≡ (if is_scalar (underlying w.names u) then wanted w.names (place_of y) u (answer_in w y) else untyped_part)
    by_test true h = rw h refl
    by_test false h = rw h refl

module _ (k l : Known) (know : KnowsLess k l) where
  abbrev Q : ℕ → Type 0
  Q = IsSet k.names

  -- the types of a specification
  abbrev OfSpec : SpecType → Type 0
  OfSpec (of_type u) = Agrees Q u
  OfSpec no_type = Unit {0}
  OfSpec lost_type = Unit {0}

  constants_less : (n : ℕ) (s : SpecType) (y : t.Expr) → OfSpec s
      → LessFound k l know (constant_decl (constant_value (counting n (outside k)) s y).answer) (constant_decl (constant_value (counting n (outside l)) s y).answer)
  constants_less n no_type y h = answer_less k l know _ _ (typed_less k l know (universe None ++ iota_in (Some n)) refl y)
  constants_less n lost_type y h = not_found k l know _ _ refl
  constants_less n (of_type u) y h =
      subst (λ (a : Answer). LessFound k l know (constant_decl a) (constant_decl (constant_value (counting n (outside l)) (of_type u) y).answer)) (sym (typed_value (counting n (outside k)) u y))
      (subst (λ (a : Answer). LessFound k l know (constant_decl (if is_scalar (underlying k.names u) then wanted k.names (place_of y) u (answer_in (counting n (outside k)) y) else untyped_part)) (constant_decl a)) (sym (typed_value (counting n (outside l)) u y))
      (subst (λ (v : Ty). LessFound k l know (constant_decl (if is_scalar (underlying k.names u) then wanted k.names (place_of y) u (answer_in (counting n (outside k)) y) else untyped_part)) (constant_decl (if is_scalar v then wanted l.names (place_of y) u (answer_in (counting n (outside l)) y) else untyped_part)))
      (under_same k.names l.names Q (same_under k l know) u h)
      (answer_less k l know _ _ (scalar_less k l know (is_scalar (underlying k.names u)) _ _ (wanted_less k l know (place_of y) u _ _ h (typed_less k l know (universe None ++ iota_in (Some n)) refl y))))))

  spec_of : (o : Option Ty) → OfTy Q o → OfSpec (spec_type_of o)
  spec_of None h = tt
  spec_of (Some u) h = h

  lost_less : (n : ℕ) (s r : SpecType) (y : t.Expr) → s ≡ lost_type
      → LessFound k l know (constant_decl (constant_value (counting n (outside k)) s y).answer) (constant_decl (constant_value (counting n (outside l)) r y).answer)
  lost_less n s r y h = not_found k l know _ _ (ap (λ (x : SpecType). constant_decl (constant_value (counting n (outside k)) x y).answer) h)

  specs_less : (n : ℕ) (o r : Option Ty) (y : t.Expr) → LessTy Q o r
      → LessFound k l know (constant_decl (constant_value (counting n (outside k)) (spec_type_of o) y).answer) (constant_decl (constant_value (counting n (outside l)) (spec_type_of r) y).answer)
  specs_less n o r y (inl h) = lost_less n (spec_type_of o) (spec_type_of r) y (ap spec_type_of h)
  specs_less n o r y (inr h) =
      subst (λ (x : Option Ty). LessFound k l know (constant_decl (constant_value (counting n (outside k)) (spec_type_of o) y).answer) (constant_decl (constant_value (counting n (outside l)) (spec_type_of x) y).answer)) h.same
      (constants_less n (spec_type_of o) y (spec_of o h.agrees))

  constant_less : (n : ℕ) (u : t.MaybeExpr) (y : Option t.Expr) → LessFound k l know (constant_found (counting n (outside k)) u y) (constant_found (counting n (outside l)) u y)
  constant_less n u None = not_found k l know _ _ refl
  constant_less n t.NoExpr (Some y) = constants_less n no_type y tt
  constant_less n (t.AnExpr e) (Some y) = specs_less n _ _ y (type_less k l know (universe None ++ iota_in (Some n)) refl e)

  sig_agrees : (id : ℕ) (o : Option SigTypes) → OfSig Q o → DeclAgrees Q (function_decl id o)
  sig_agrees id None h = tt
  sig_agrees id (Some s) h = h

  function_less : (id : ℕ) (o r : Option SigTypes) → LessSig Q o r → LessFound k l know (function_decl id o) (function_decl id r)
  function_less id o r (inl h) = not_found k l know _ _ (ap (function_decl id) h)
  function_less id o r (inr h) = (inr (ap (function_decl id) h.same), sig_agrees id o h.agree)

  -- ---- each item

  -- of a type both what its name stands for and what its expression does
  abbrev pub TypeLess : Item → Type 0
  TypeLess = OfType (λ (e : t.Expr). (type_found k e ≡ None) ⊎ (type_found k e ≡ type_found l e) × (under_found k e ≡ under_found l e))

  -- types in it are set, but that of its own name
  abbrev pub ItemAgrees : Item → Type 0
  ItemAgrees (type_item n number e) = Unit {0}
  ItemAgrees (constant_item n j u y all) = DeclAgrees Q (decl_of k (constant_item n j u y all))
  ItemAgrees (alias_item n e) = DeclAgrees Q (decl_of k (alias_item n e))
  ItemAgrees (function_item n id s) = DeclAgrees Q (decl_of k (function_item n id s))
  ItemAgrees (variable_item n) = Unit {0}
  ItemAgrees (init_item n) = Unit {0}

  pub record ItemLess (i : Item) : Type 0 where
    pub less : LessDecl (decl_of k i) (decl_of l i)
    pub types : TypeLess i
    pub agrees : ItemAgrees i

  same_option : (o r : Option Ty) → SameTy Q o r → option_map (underlying k.names) o ≡ option_map (underlying l.names) r
  same_option o r h = by_case o h.agrees ∙ ap (option_map (underlying l.names)) h.same
    where
      by_case : (p : Option Ty) → OfTy Q p → option_map (underlying k.names) p ≡ option_map (underlying l.names) p
      by_case None g = refl
      by_case (Some u) g = ap (λ (v : Ty). Some v) (under_same k.names l.names Q (same_under k l know) u g)

  type_item_less : (n : Name) (number : ℕ) (e : t.Expr) → LessTy Q (type_found k e) (type_found l e) → ItemLess (type_item n number e)
  type_item_less n number e (inl h) = record { less = inl (ap (type_decl (named_type number)) h); types = inl h; agrees = tt }
  type_item_less n number e (inr h) = record { less = inr (ap (type_decl (named_type number)) h.same); types = inr (h.same, same_option _ _ h); agrees = tt }

  pub item_less : (i : Item) → ItemLess i
  item_less (type_item n number e) = type_item_less n number e (found_types k l know e)
  item_less (constant_item n j u y all) = let r = constant_less j u y in record { less = r.0; types = tt; agrees = r.1 }
  item_less (alias_item n e) = let r = alias_less k l know _ _ (found_types k l know e) in record { less = r.0; types = tt; agrees = r.1 }
  item_less (function_item n id s) = let r = function_less id _ _ (sig_less Q k l (found_types k l know) s) in record { less = r.0; types = tt; agrees = r.1 }
  item_less (variable_item n) = record { less = inl refl; types = tt; agrees = tt }
  item_less (init_item n) = record { less = inl refl; types = tt; agrees = tt }
