-- What a package's scope and its named types are built of: one declaration and one type for each item.
use Rattle.std.proofs.Common.{◌≡◌, ◌⊎◌, inl, inr, ℕ, zero, suc, ◌+◌, length, List, [], ◌∷◌, ◌++◌, refl, sym, subst, ap, ◌∙◌, append_assoc, arith, Bool, true, false, Option, Some, None, option_map, if◌then◌else◌, bytes_eq, slice_get}
use Rattle.gj_base.specs.declared.place.Place.{Place}
use Rattle.go_syntax.specs.Tree as t
use Rattle.go_syntax.specs.declared.tree.Name.{Name}
use Rattle.go_type.specs.Tree.{Ty}
use Rattle.go_type.specs.Named.{NamedTy}
use Rattle.go_type.specs.Underlying.{underlying, under_in, under_at}
use Rattle.go_typing.specs.Env.{Decl, unknown, Bind, find, is_blank}
use Rattle.go_typing.specs.Scopes.{place_in}
use Rattle.go_typing.specs.Walk.{bind_of}
use Rattle.go_typing.specs.Items.{Item, constant_item, type_item, alias_item, function_item, variable_item, init_item, name_of}
use Rattle.go_typing.specs.Known.{Known, decl_of, type_found, bound_at, with_item, binds_from, named_by, unset, names_alone}

-- ---- each item

abbrev pub AllItems : (Item → Type 0) → List Item → Type 0
AllItems Q [] = Unit {0}
AllItems Q (i ∷ is) = Q i × AllItems Q is

pub all_items : (Q R : Item → Type 0) → ((i : Item) → Q i → R i) → (is : List Item) → AllItems Q is → AllItems R is
all_items Q R f [] h = tt
all_items Q R f (i ∷ is) h = (f i h.0, all_items Q R f is h.1)

pub every_item : (Q : Item → Type 0) → ((i : Item) → Q i) → (is : List Item) → AllItems Q is
every_item Q f [] = tt
every_item Q f (i ∷ is) = (f i, every_item Q f is)

pub all_both : (Q R S : Item → Type 0) → ((i : Item) → Q i → R i → S i) → (is : List Item) → AllItems Q is → AllItems R is → AllItems S is
all_both Q R S f [] h k = tt
all_both Q R S f (i ∷ is) h k = (f i h.0 k.0, all_both Q R S f is h.1 k.1)

-- ---- scopes from declarations

abbrev pub fill : (Item → Decl) → List Item → List Bind → List Bind
fill f [] bs = bs
fill f (i ∷ is) bs = fill f is (with_item (name_of i) (f i) bs)

pub binds_filled : (k : Known) (is : List Item) (bs : List Bind) → binds_from k is bs ≡ fill (decl_of k) is bs
binds_filled k [] bs = refl
binds_filled k (i ∷ is) bs = binds_filled k is (with_item (name_of i) (decl_of k i) bs)

abbrev pub nothing : Item → Decl
nothing i = unknown

pub alone_filled : (is : List Item) (bs : List Bind) → names_alone is bs ≡ fill nothing is bs
alone_filled [] bs = refl
alone_filled (i ∷ is) bs = alone_filled is (with_item (name_of i) unknown bs)

pub fill_same : (f g : Item → Decl) (is : List Item) (bs : List Bind) → AllItems (λ i. f i ≡ g i) is → fill f is bs ≡ fill g is bs
fill_same f g [] bs h = refl
fill_same f g (i ∷ is) bs h = ap (λ (d : Decl). fill f is (with_item (name_of i) d bs)) h.0 ∙ fill_same f g is (with_item (name_of i) (g i) bs) h.1

-- one declaration isn't typed, or it is the other
abbrev pub LessDecl : Decl → Decl → Type 0
LessDecl d e = (d ≡ unknown) ⊎ (d ≡ e)

abbrev pub LessBinds : List Bind → List Bind → Type 0
LessBinds [] [] = Unit {0}
LessBinds (b ∷ bs) (c ∷ cs) = (b.name ≡ c.name) × (b.place ≡ c.place) × LessDecl b.what c.what × LessBinds bs cs
LessBinds [] (c ∷ cs) = ⊥
LessBinds (b ∷ bs) [] = ⊥

less_more : (bs cs : List Bind) (n : Name) (d e : Decl) → LessBinds bs cs → LessDecl d e → LessBinds (bs ++ bind_of n d ∷ []) (cs ++ bind_of n e ∷ [])
less_more [] [] n d e h l = (refl, refl, l, tt)
less_more [] (c ∷ cs) n d e h l = absurd h
less_more (b ∷ bs) [] n d e h l = absurd h
less_more (b ∷ bs) (c ∷ cs) n d e h l = (h.0, h.1, h.2, less_more bs cs n d e h.3 l)

choice_same : (s u : Bool) (p q : Place) (o r : Option Place) → s ≡ u → p ≡ q → o ≡ r → (if s then Some p else o) ≡ (if u then Some q else r)
choice_same s u p q o r e f g =
    ap (λ (b : Bool). if b then Some p else o) e ∙ ap (λ (x : Place). if u then Some x else o) f ∙ ap (λ (x : Option Place). if u then Some q else x) g

places_same : (x : List ℕ) (bs cs : List Bind) → LessBinds bs cs → place_in x bs ≡ place_in x cs
places_same x [] [] h = refl
places_same x [] (c ∷ cs) h = absurd h
places_same x (b ∷ bs) [] h = absurd h
places_same x (b ∷ bs) (c ∷ cs) h =
    choice_same (bytes_eq b.name x) (bytes_eq c.name x) b.place c.place (place_in x bs) (place_in x cs) (ap (λ (n : List ℕ). bytes_eq n x) h.0) h.1 (places_same x bs cs h.3)

bound_less : (n : Name) (d e : Decl) (o : Option Place) (bs cs : List Bind) → LessBinds bs cs → LessDecl d e → LessBinds (bound_at (bind_of n d) o bs) (bound_at (bind_of n e) o cs)
bound_less n d e None bs cs h l = less_more bs cs n d e h l
bound_less n d e (Some at) bs cs h l = h

item_bound : (n : Name) (d e : Decl) (b : Bool) (bs cs : List Bind) → LessBinds bs cs → LessDecl d e
    → LessBinds (if b then bs else bound_at (bind_of n d) (place_in n.text bs) bs) (if b then cs else bound_at (bind_of n e) (place_in n.text cs) cs)
item_bound n d e true bs cs h l = h
item_bound n d e false bs cs h l =
    subst (λ (o : Option Place). LessBinds (bound_at (bind_of n d) (place_in n.text bs) bs) (bound_at (bind_of n e) o cs)) (places_same n.text bs cs h) (bound_less n d e (place_in n.text bs) bs cs h l)

pub fill_less : (f g : Item → Decl) (is : List Item) (bs cs : List Bind) → AllItems (λ i. LessDecl (f i) (g i)) is → LessBinds bs cs → LessBinds (fill f is bs) (fill g is cs)
fill_less f g [] bs cs h l = l
fill_less f g (i ∷ is) bs cs h l =
    fill_less f g is (with_item (name_of i) (f i) bs) (with_item (name_of i) (g i) cs) h.1 (item_bound (name_of i) (f i) (g i) (is_blank (name_of i).text) bs cs l h.0)

abbrev pub LessOption : Option Decl → Option Decl → Type 0
LessOption o r = (o ≡ Some unknown) ⊎ (o ≡ r)

option_less : (d e : Decl) → LessDecl d e → LessOption (Some d) (Some e)
option_less d e (inl h) = inl (ap (λ (x : Decl). Some x) h)
option_less d e (inr h) = inr (ap (λ (x : Decl). Some x) h)

choice_less : (b : Bool) (d e : Decl) (o r : Option Decl) → LessDecl d e → LessOption o r → LessOption (if b then Some d else o) (if b then Some e else r)
choice_less true d e o r h k = option_less d e h
choice_less false d e o r h k = k

pub found_less : (x : List ℕ) (bs cs : List Bind) → LessBinds bs cs → LessOption (find x bs) (find x cs)
found_less x [] [] h = inr refl
found_less x [] (c ∷ cs) h = absurd h
found_less x (b ∷ bs) [] h = absurd h
found_less x (b ∷ bs) (c ∷ cs) h =
    subst (λ (n : List ℕ). LessOption (if bytes_eq b.name x then Some b.what else find x bs) (if bytes_eq n x then Some c.what else find x cs)) h.0
    (choice_less (bytes_eq b.name x) b.what c.what (find x bs) (find x cs) h.2 (found_less x bs cs h.3))

-- ---- what holds of each declaration of a scope

abbrev pub OfOption : (Decl → Type 0) → Option Decl → Type 0
OfOption Q None = Unit {0}
OfOption Q (Some d) = Q d

abbrev pub AllBinds : (Decl → Type 0) → List Bind → Type 0
AllBinds Q [] = Unit {0}
AllBinds Q (b ∷ bs) = Q b.what × AllBinds Q bs

more_all : (Q : Decl → Type 0) (bs : List Bind) (b : Bind) → AllBinds Q bs → Q b.what → AllBinds Q (bs ++ b ∷ [])
more_all Q [] b h k = (k, tt)
more_all Q (c ∷ cs) b h k = (h.0, more_all Q cs b h.1 k)

bound_all : (Q : Decl → Type 0) (n : Name) (d : Decl) (o : Option Place) (bs : List Bind) → AllBinds Q bs → Q d → AllBinds Q (bound_at (bind_of n d) o bs)
bound_all Q n d None bs h k = more_all Q bs (bind_of n d) h k
bound_all Q n d (Some at) bs h k = h

item_all : (Q : Decl → Type 0) (n : Name) (d : Decl) (b : Bool) (o : Option Place) (bs : List Bind) → AllBinds Q bs → Q d → AllBinds Q (if b then bs else bound_at (bind_of n d) o bs)
item_all Q n d true o bs h k = h
item_all Q n d false o bs h k = bound_all Q n d o bs h k

pub fill_all : (Q : Decl → Type 0) (f : Item → Decl) (is : List Item) (bs : List Bind) → AllItems (λ i. Q (f i)) is → AllBinds Q bs → AllBinds Q (fill f is bs)
fill_all Q f [] bs h k = k
fill_all Q f (i ∷ is) bs h k = fill_all Q f is (with_item (name_of i) (f i) bs) h.1 (item_all Q (name_of i) (f i) (is_blank (name_of i).text) (place_in (name_of i).text bs) bs k h.0)

choice_all : (Q : Decl → Type 0) (b : Bool) (d : Decl) (o : Option Decl) → Q d → OfOption Q o → OfOption Q (if b then Some d else o)
choice_all Q true d o h k = h
choice_all Q false d o h k = k

pub found_all : (Q : Decl → Type 0) (x : List ℕ) (bs : List Bind) → AllBinds Q bs → OfOption Q (find x bs)
found_all Q x [] h = tt
found_all Q x (b ∷ bs) h = choice_all Q (bytes_eq b.name x) b.what (find x bs) h.0 (found_all Q x bs h.1)

-- ---- named types

-- what a type's expression stands for, once that is found
abbrev pub under_found : Known → t.Expr → Option Ty
under_found k e = option_map (underlying k.names) (type_found k e)

abbrev pub named_record : Name → Option Ty → NamedTy
named_record n u = record { name = n.text; package_ = []; under = u; methods = [] }

abbrev pub types_from : (t.Expr → Option Ty) → List Item → List NamedTy
types_from g [] = []
types_from g (type_item n number e ∷ is) = named_record n (g e) ∷ types_from g is
types_from g (i ∷ is) = types_from g is

pub named_filled : (k : Known) (is : List Item) → named_by k is ≡ types_from (under_found k) is
named_filled k [] = refl
named_filled k (type_item n number e ∷ is) = ap (λ (xs : List NamedTy). named_record n (under_found k e) ∷ xs) (named_filled k is)
named_filled k (constant_item n m u y all ∷ is) = named_filled k is
named_filled k (alias_item n e ∷ is) = named_filled k is
named_filled k (function_item n id s ∷ is) = named_filled k is
named_filled k (variable_item n ∷ is) = named_filled k is
named_filled k (init_item n ∷ is) = named_filled k is

abbrev pub no_type : t.Expr → Option Ty
no_type e = None

pub unset_filled : (is : List Item) → unset is ≡ types_from no_type is
unset_filled [] = refl
unset_filled (type_item n number e ∷ is) = ap (λ (xs : List NamedTy). named_record n None ∷ xs) (unset_filled is)
unset_filled (constant_item n m u y all ∷ is) = unset_filled is
unset_filled (alias_item n e ∷ is) = unset_filled is
unset_filled (function_item n id s ∷ is) = unset_filled is
unset_filled (variable_item n ∷ is) = unset_filled is
unset_filled (init_item n ∷ is) = unset_filled is

-- of a type alone
abbrev pub OfType : (t.Expr → Type 0) → Item → Type 0
OfType Q (type_item n number e) = Q e
OfType Q (constant_item n m u y all) = Unit {0}
OfType Q (alias_item n e) = Unit {0}
OfType Q (function_item n id s) = Unit {0}
OfType Q (variable_item n) = Unit {0}
OfType Q (init_item n) = Unit {0}

pub types_same : (f g : t.Expr → Option Ty) (is : List Item) → AllItems (OfType (λ e. f e ≡ g e)) is → types_from f is ≡ types_from g is
types_same f g [] h = refl
types_same f g (type_item n number e ∷ is) h = ap (λ (u : Option Ty). named_record n u ∷ types_from f is) h.0 ∙ ap (λ (xs : List NamedTy). named_record n (g e) ∷ xs) (types_same f g is h.1)
types_same f g (constant_item n m u y all ∷ is) h = types_same f g is h.1
types_same f g (alias_item n e ∷ is) h = types_same f g is h.1
types_same f g (function_item n id s ∷ is) h = types_same f g is h.1
types_same f g (variable_item n ∷ is) h = types_same f g is h.1
types_same f g (init_item n ∷ is) h = types_same f g is h.1

abbrev pub LessUnder : Option Ty → Option Ty → Type 0
LessUnder o r = (o ≡ None) ⊎ (o ≡ r)

-- named types grow: one that stands for something stays so
abbrev pub LessNames : List NamedTy → List NamedTy → Type 0
LessNames [] [] = Unit {0}
LessNames (x ∷ xs) (y ∷ ys) = LessUnder x.under y.under × LessNames xs ys
LessNames [] (y ∷ ys) = ⊥
LessNames (x ∷ xs) [] = ⊥

pub names_less : (xs ys : List NamedTy) (id : ℕ) → LessNames xs ys → LessUnder (under_at xs id) (under_at ys id)
names_less [] [] id h = inr refl
names_less [] (y ∷ ys) id h = absurd h
names_less (x ∷ xs) [] id h = absurd h
names_less (x ∷ xs) (y ∷ ys) zero h = h.0
names_less (x ∷ xs) (y ∷ ys) (suc id) h = names_less xs ys id h.1

pub types_less : (f g : t.Expr → Option Ty) (is : List Item) → AllItems (OfType (λ e. LessUnder (f e) (g e))) is → LessNames (types_from f is) (types_from g is)
types_less f g [] h = tt
types_less f g (type_item n number e ∷ is) h = (h.0, types_less f g is h.1)
types_less f g (constant_item n m u y all ∷ is) h = types_less f g is h.1
types_less f g (alias_item n e ∷ is) h = types_less f g is h.1
types_less f g (function_item n id s ∷ is) h = types_less f g is h.1
types_less f g (variable_item n ∷ is) h = types_less f g is h.1
types_less f g (init_item n ∷ is) h = types_less f g is h.1

pub first_less : (ps xs ys : List NamedTy) → LessNames xs ys → LessNames (ps ++ xs) (ps ++ ys)
first_less [] xs ys h = h
first_less (p ∷ ps) xs ys h = (inr refl, first_less ps xs ys h)

-- ---- the numbers of types

-- the types of the list have the numbers from the one on, below the other
abbrev pub NumberedTo : ℕ → List Item → ℕ → Type 0
NumberedTo k [] m = k ≡ m
NumberedTo k (type_item n number e ∷ is) m = (number ≡ k) × NumberedTo (suc k) is m
NumberedTo k (constant_item n j u y all ∷ is) m = NumberedTo k is m
NumberedTo k (alias_item n e ∷ is) m = NumberedTo k is m
NumberedTo k (function_item n id s ∷ is) m = NumberedTo k is m
NumberedTo k (variable_item n ∷ is) m = NumberedTo k is m
NumberedTo k (init_item n ∷ is) m = NumberedTo k is m

-- a type's place in a list of named types has what its expression stands for
abbrev pub IsAt : (t.Expr → Option Ty) → ℕ → List NamedTy → Item → Type 0
IsAt g base ns (type_item n number e) = under_at ns (base + number) ≡ g e
IsAt g base ns (constant_item n j u y all) = Unit {0}
IsAt g base ns (alias_item n e) = Unit {0}
IsAt g base ns (function_item n id s) = Unit {0}
IsAt g base ns (variable_item n) = Unit {0}
IsAt g base ns (init_item n) = Unit {0}

pub seam : (ps : List NamedTy) (x : NamedTy) (xs : List NamedTy) → slice_get (ps ++ x ∷ xs) (length ps) ≡ Some x
seam [] x xs = refl
seam (p ∷ ps) x xs = seam ps x xs

pub one_longer : (ps : List NamedTy) (x : NamedTy) → length (ps ++ x ∷ []) ≡ suc (length ps)
one_longer [] x = refl
one_longer (p ∷ ps) x = ap suc (one_longer ps x)

pub all_at : (g : t.Expr → Option Ty) (base k m : ℕ) (ps : List NamedTy) (is : List Item) → length ps ≡ base + k → NumberedTo k is m → AllItems (IsAt g base (ps ++ types_from g is)) is
all_at g base k m ps [] l h = tt
all_at g base k m ps (type_item n number e ∷ is) l h = (here, subst (λ (ns : List NamedTy). AllItems (IsAt g base ns) is) (append_assoc ps (named_record n (g e) ∷ []) (types_from g is)) (all_at g base (suc k) m (ps ++ named_record n (g e) ∷ []) is longer h.1))
  where
    here : under_at (ps ++ named_record n (g e) ∷ types_from g is) (base + number) ≡ g e
    here = ap (λ (j : ℕ). under_at (ps ++ named_record n (g e) ∷ types_from g is) (base + j)) h.0 ∙ ap (under_at (ps ++ named_record n (g e) ∷ types_from g is)) (sym l) ∙ ap under_in (seam ps (named_record n (g e)) (types_from g is))

    longer : length (ps ++ named_record n (g e) ∷ []) ≡ base + suc k
    longer = let a = one_longer ps (named_record n (g e)) in omega arith
all_at g base k m ps (constant_item n j u y all ∷ is) l h = (tt, all_at g base k m ps is l h)
all_at g base k m ps (alias_item n e ∷ is) l h = (tt, all_at g base k m ps is l h)
all_at g base k m ps (function_item n id s ∷ is) l h = (tt, all_at g base k m ps is l h)
all_at g base k m ps (variable_item n ∷ is) l h = (tt, all_at g base k m ps is l h)
all_at g base k m ps (init_item n ∷ is) l h = (tt, all_at g base k m ps is l h)
