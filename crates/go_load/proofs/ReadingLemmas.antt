-- Readings of files, one by one.
use Rattle.std.proofs.Common.{◌≡◌, ◌<◌, ◌≤◌, ◌+◌, ◌++◌, ℕ, suc, List, [], ◌∷◌, true, false, length, take, drop, get_or, refl, sym, ap, subst, ◌∙◌, inl, arith, drop-cons, reverse, append_assoc, append-nil, take-suc, length-take-le}
use Rattle.std.specs.Prelude.{Option, Some, None, map}
use Rattle.std.specs.List.{AllByRecursion, filter_map, cons_option}
use Rattle.gj_base.specs.declared.place.Place.{Place}
use Rattle.gj_base.specs.declared.fault.Fault.{Fault}
use Rattle.go_syntax.specs.Tree as t
use Rattle.go_load.specs.Readings.{Reading, Long, Unlexed, Unparsed, Parsed, IsReading, AreReadings, tree_of, trees_of, AreTrees}
use Rattle.go_load.specs.Faults.{lexical_faults, syntax_faults, load_faults, main_faults, faults_of, faults_from, first_package, stage_faults, IsLeast}
use Rattle.go_load.specs.Numbered.{IsNumbered, AreNumbered}
use Rattle.go_load.specs.Least.{first_in}
use Rattle.go_load.specs.ReadingView.{reading_view}
use Rattle.go_load.specs.declared.sources.FileEntry.{FileEntry}
use Rattle.go_load.specs.declared.reading.Reading as d
use Rattle.go_syntax.specs.declared.tree.File.{File}
use Rattle.go_syntax.specs.View.{file_view}
use Rattle.std.proofs.lemmas.List.{map-append, reverse-append}
use Rattle.std.proofs.lemmas.List.Elements.{filter_map-append}
use Rattle.go_load.proofs.LeastLemmas.{NotAfter, not_after_itself, of_lower, first_is_least, first_of_some, first_of_none, none_of_both}

-- the mapped list from an index on
pub next_mapped : {X Y : Type 0} (f : X → Y) (xs : List X) (i : ℕ) (x : X) → i < length xs → x ≡ get_or xs i x → map f (drop i xs) ≡ f x ∷ map f (drop (i + 1) xs)
next_mapped {X} f xs i x h e =
    let one : suc i ≡ i + 1 = omega arith in
    ap (map f) (drop-cons xs i x h ∙ ap (λ (y : X). y ∷ drop (suc i) xs) (sym e)) ∙ ap (λ (n : ℕ). f x ∷ map f (drop n xs)) one

-- the next number
shifted : (n k : ℕ) (e : FileEntry) (r : Reading) → IsReading (n + suc k) e r → IsReading ((n + 1) + k) e r
shifted n k e r h = let same : n + suc k ≡ (n + 1) + k = omega arith in subst (λ (m : ℕ). IsReading m e r) same h

-- one file more
pub readings_push : (n : ℕ) (es : List FileEntry) (rs : List Reading) (e : FileEntry) (r : Reading) → AreReadings n es rs → IsReading (n + length es) e r → AreReadings n (es ++ e ∷ []) (rs ++ r ∷ [])
readings_push n [] [] e r a h = let same : n + 0 ≡ n = omega arith in (subst (λ (m : ℕ). IsReading m e r) same h, tt)
readings_push n [] (r' ∷ rs) e r a h = absurd a
readings_push n (e' ∷ es) [] e r a h = absurd a
readings_push n (e' ∷ es) (r' ∷ rs) e r a h = (a.0, readings_push (n + 1) es rs e r a.1 (shifted n (length es) e r h))

-- faults have the numbers of their files
pub are_numbered : (n : ℕ) (es : List FileEntry) (rs : List Reading) → AreReadings n es rs → AreNumbered n rs
are_numbered n [] [] a = tt
are_numbered n [] (r ∷ rs) a = absurd a
are_numbered n (e ∷ es) [] a = absurd a
are_numbered n (e ∷ es) (Long ∷ rs) a = (tt, are_numbered (n + 1) es rs a.1)
are_numbered n (e ∷ es) (Unlexed fault ∷ rs) a = (a.0.1.place, are_numbered (n + 1) es rs a.1)
are_numbered n (e ∷ es) (Unparsed fault ∷ rs) a = (ap (λ (p : Place). p.file) a.0.1.2.place, are_numbered (n + 1) es rs a.1)
are_numbered n (e ∷ es) (Parsed start constraint tree ∷ rs) a = (tt, are_numbered (n + 1) es rs a.1)

-- a fault of a file with a lower number comes first
later : (f g : Fault) (n m : ℕ) → f.place.file ≡ n → n < m → m ≤ g.place.file → NotAfter f g
later f g n m e h k = of_lower f g (inl (omega arith))

abbrev pub IsFrom : ℕ → Fault → Type 0
IsFrom n f = n ≤ f.place.file

from_more : (n : ℕ) (fs : List Fault) → AllByRecursion (IsFrom (n + 1)) fs → AllByRecursion (IsFrom n) fs
from_more n [] a = tt
from_more n (f ∷ fs) a = (omega (arith, a.0), from_more n fs a.1)

all_later : (f : Fault) (n : ℕ) (fs : List Fault) → f.place.file ≡ n → AllByRecursion (IsFrom (n + 1)) fs → AllByRecursion (NotAfter f) fs
all_later f n [] e a = tt
all_later f n (g ∷ gs) e a = (later f g n (n + 1) e (omega arith) a.0, all_later f n gs e a.1)

lexical_from : (n : ℕ) (rs : List Reading) → AreNumbered n rs → AllByRecursion (IsFrom n) (lexical_faults rs)
lexical_from n [] a = tt
lexical_from n (Unlexed f ∷ rs) a = (omega (arith, a.0), from_more n (lexical_faults rs) (lexical_from (n + 1) rs a.1))
lexical_from n (Long ∷ rs) a = from_more n (lexical_faults rs) (lexical_from (n + 1) rs a.1)
lexical_from n (Unparsed f ∷ rs) a = from_more n (lexical_faults rs) (lexical_from (n + 1) rs a.1)
lexical_from n (Parsed s c x ∷ rs) a = from_more n (lexical_faults rs) (lexical_from (n + 1) rs a.1)

syntax_from : (n : ℕ) (rs : List Reading) → AreNumbered n rs → AllByRecursion (IsFrom n) (syntax_faults rs)
syntax_from n [] a = tt
syntax_from n (Unparsed f ∷ rs) a = (omega (arith, a.0), from_more n (syntax_faults rs) (syntax_from (n + 1) rs a.1))
syntax_from n (Long ∷ rs) a = from_more n (syntax_faults rs) (syntax_from (n + 1) rs a.1)
syntax_from n (Unlexed f ∷ rs) a = from_more n (syntax_faults rs) (syntax_from (n + 1) rs a.1)
syntax_from n (Parsed s c x ∷ rs) a = from_more n (syntax_faults rs) (syntax_from (n + 1) rs a.1)

front_is : (f g : Fault) → (let o : Option Fault = Some f in o) ≡ Some g → f ≡ g
front_is f g e = cc

lexical_first : (n : ℕ) (rs : List Reading) (fault : Fault) → AreNumbered n rs → first_in (lexical_faults rs) ≡ Some fault → AllByRecursion (NotAfter fault) (lexical_faults rs)
lexical_first n [] fault a e = tt
lexical_first n (Unlexed f ∷ rs) fault a e =
    subst (λ (g : Fault). AllByRecursion (NotAfter g) (f ∷ lexical_faults rs)) (front_is f fault e) (not_after_itself f, all_later f n (lexical_faults rs) a.0 (lexical_from (n + 1) rs a.1))
lexical_first n (Long ∷ rs) fault a e = lexical_first (n + 1) rs fault a.1 e
lexical_first n (Unparsed f ∷ rs) fault a e = lexical_first (n + 1) rs fault a.1 e
lexical_first n (Parsed s c x ∷ rs) fault a e = lexical_first (n + 1) rs fault a.1 e

syntax_first : (n : ℕ) (rs : List Reading) (fault : Fault) → AreNumbered n rs → first_in (syntax_faults rs) ≡ Some fault → AllByRecursion (NotAfter fault) (syntax_faults rs)
syntax_first n [] fault a e = tt
syntax_first n (Unparsed f ∷ rs) fault a e =
    subst (λ (g : Fault). AllByRecursion (NotAfter g) (f ∷ syntax_faults rs)) (front_is f fault e) (not_after_itself f, all_later f n (syntax_faults rs) a.0 (syntax_from (n + 1) rs a.1))
syntax_first n (Long ∷ rs) fault a e = syntax_first (n + 1) rs fault a.1 e
syntax_first n (Unlexed f ∷ rs) fault a e = syntax_first (n + 1) rs fault a.1 e
syntax_first n (Parsed s c x ∷ rs) fault a e = syntax_first (n + 1) rs fault a.1 e

-- the first lexical fault is the least fault
pub lexical_least : (rs : List Reading) (fault : Fault) → AreNumbered 0 rs → first_in (lexical_faults rs) ≡ Some fault → IsLeast fault (stage_faults rs)
lexical_least rs fault a e =
    subst (λ (fs : List Fault). IsLeast fault fs) (sym (first_of_some (lexical_faults rs) _ fault e)) (first_is_least fault (lexical_faults rs) e (lexical_first 0 rs fault a e))

-- the first syntax fault, where there is no lexical one
pub syntax_least : (rs : List Reading) (fault : Fault) → AreNumbered 0 rs → lexical_faults rs ≡ [] → first_in (syntax_faults rs) ≡ Some fault → IsLeast fault (stage_faults rs)
syntax_least rs fault a none e =
    subst (λ (fs : List Fault). IsLeast fault fs) (sym (first_of_none (lexical_faults rs) _ none ∙ first_of_some (syntax_faults rs) (load_faults rs) fault e))
    (first_is_least fault (syntax_faults rs) e (syntax_first 0 rs fault a e))

-- only the load stage is left
pub load_stage : (rs : List Reading) → lexical_faults rs ≡ [] → syntax_faults rs ≡ [] → stage_faults rs ≡ load_faults rs
load_stage rs none none' = first_of_none (lexical_faults rs) _ none ∙ first_of_none (syntax_faults rs) (load_faults rs) none'

none_after : (xs ys : List Fault) → xs ++ ys ≡ [] → ys ≡ []
none_after [] ys e = e
none_after (x ∷ xs) ys e = absurd (cc)

-- files without a fault have trees
trees : (first : List ℕ) (n : ℕ) (es : List FileEntry) (rs : List Reading) → AreReadings n es rs → lexical_faults rs ≡ [] → syntax_faults rs ≡ [] → faults_from first n rs ≡ [] → AreTrees n es (trees_of rs)
trees first n [] [] a p q l = tt
trees first n [] (r ∷ rs) a p q l = absurd a
trees first n (e ∷ es) [] a p q l = absurd a
trees first n (e ∷ es) (Long ∷ rs) a p q l = absurd (cc)
trees first n (e ∷ es) (Unlexed fault ∷ rs) a p q l = absurd (cc)
trees first n (e ∷ es) (Unparsed fault ∷ rs) a p q l = absurd (cc)
trees first n (e ∷ es) (Parsed start constraint tree ∷ rs) a p q l =
    ((a.0.1.0, a.0.1.1, a.0.1.2.0), trees first (n + 1) es rs a.1 p q (none_after (faults_of first n (Parsed start constraint tree)) _ l))

pub are_trees : (es : List FileEntry) (rs : List Reading) → AreReadings 0 es rs → stage_faults rs ≡ [] → AreTrees 0 es (trees_of rs)
are_trees es rs a none =
    let lexical = none_of_both (lexical_faults rs) _ none in
    let syntax = none_of_both (syntax_faults rs) (load_faults rs) lexical.1 in
    trees (first_package rs) 0 es rs a lexical.0 syntax.0 (none_after (main_faults rs) _ syntax.1)

-- the tree of one file more, from the last on
pub pop_tree : (all left : List d.Reading) (r : d.Reading) (file : File) (done : List File) → all ≡ left ++ r ∷ [] → Some (file_view file) ≡ tree_of (reading_view r)
    → trees_of (map reading_view left) ++ map file_view (reverse (done ++ file ∷ [])) ≡ trees_of (map reading_view all) ++ map file_view (reverse done)
pop_tree all left r file done e p =
    let last : reverse (done ++ file ∷ []) ≡ file ∷ reverse done = reverse-append done (file ∷ []) in
    let trees : trees_of (map reading_view all) ≡ trees_of (map reading_view left) ++ file_view file ∷ [] =
    ap (λ (rs : List d.Reading). trees_of (map reading_view rs)) e ∙ ap trees_of (map-append reading_view left (r ∷ [])) ∙ filter_map-append tree_of (map reading_view left) (reading_view r ∷ [])
    ∙ ap (λ (o : Option t.File). trees_of (map reading_view left) ++ cons_option o []) (sym p) in
    ap (λ (fs : List File). trees_of (map reading_view left) ++ map file_view fs) last
    ∙ sym (ap (λ (ts : List t.File). ts ++ map file_view (reverse done)) trees ∙ append_assoc (trees_of (map reading_view left)) (file_view file ∷ []) (map file_view (reverse done)))

pub pop_none : (all left : List d.Reading) (r : d.Reading) (done : List File) → all ≡ left ++ r ∷ [] → None ≡ tree_of (reading_view r)
    → trees_of (map reading_view left) ++ map file_view (reverse done) ≡ trees_of (map reading_view all) ++ map file_view (reverse done)
pop_none all left r done e p =
    let trees : trees_of (map reading_view all) ≡ trees_of (map reading_view left) ++ [] =
    ap (λ (rs : List d.Reading). trees_of (map reading_view rs)) e ∙ ap trees_of (map-append reading_view left (r ∷ [])) ∙ filter_map-append tree_of (map reading_view left) (reading_view r ∷ [])
    ∙ ap (λ (o : Option t.File). trees_of (map reading_view left) ++ cons_option o []) (sym p) in
    ap (λ (ts : List t.File). ts ++ map file_view (reverse done)) (sym (trees ∙ append-nil (trees_of (map reading_view left))))

-- one reading more
pub read_more : (es : List FileEntry) (i : ℕ) (e : FileEntry) (rs : List d.Reading) (r : d.Reading) → i < length es → e ≡ get_or es i e → AreReadings 0 (take i es) (map reading_view rs)
    → IsReading i e (reading_view r) → AreReadings 0 (take (i + 1) es) (map reading_view (rs ++ r ∷ []))
read_more es i e rs r h at a is =
    let one : suc i ≡ i + 1 = omega arith in
    let front : take (i + 1) es ≡ take i es ++ e ∷ [] =
    ap (λ (n : ℕ). take n es) (sym one) ∙ take-suc es i e h ∙ ap (λ (x : FileEntry). take i es ++ x ∷ []) (sym at) in
    let long : i ≤ length es = omega arith in
    let number : 0 + length (take i es) ≡ i = ap (λ (n : ℕ). 0 + n) (length-take-le i es long) ∙ omega arith in
    let more = readings_push 0 (take i es) (map reading_view rs) e (reading_view r) a (subst (λ (n : ℕ). IsReading n e (reading_view r)) (sym number) is) in
    subst (λ (xs : List FileEntry). AreReadings 0 xs (map reading_view (rs ++ r ∷ []))) (sym front)
    (subst (λ (xs : List Reading). AreReadings 0 (take i es ++ e ∷ []) xs) (sym (map-append reading_view rs (r ∷ []))) more)
