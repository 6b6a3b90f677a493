-- Each rule on signatures and parameters.
use Rattle.std.proofs.Common.{◌≡◌, ◌+◌, ℕ, Bool, true, false, not, ◌&&◌, List, [], ◌∷◌, ◌++◌, ◌⊎◌, inl, inr, Option, Some, None, refl, sym, ◌∙◌, ap, append_assoc, append-nil}
use Rattle.gj_base.specs.declared.place.Place.{Place}
use Rattle.go_syntax.specs.Tree as t
use Rattle.go_syntax.specs.Token.{Token}
use Rattle.go_syntax.specs.View.{joined}
use Rattle.go_syntax.specs.declared.kind.TokenKind.{TokenKind}
use Rattle.go_syntax.specs.declared.kind.TokenKind.TheVariants as kind
use Rattle.go_syntax.specs.declared.operator.Operator.TheVariants as o
use Rattle.go_syntax.specs.declared.tree.Name.{Name}
use Rattle.go_grammar.specs.Classes.{IsOp, IsName, name_of, place_of, begins_type}
use Rattle.go_grammar.specs.Limits.{has_room, params_fit}
use Rattle.go_grammar.specs.Frames.{AnExpr, ASig, OfType, OfSig, Done, Stack, AType, Params, Role, OfParams, OfResults, SigOpen, InParams, ParamName, Param, AfterParams, Result}
use Rattle.go_grammar.specs.Grammar.{IsTypeName, plain_name, package_name, StartsNoList, starts_no_list}
use Rattle.go_grammar.specs.Nodes.{is_op, is_name_token}
use Rattle.go_grammar.specs.Parsed.{run}
use Rattle.go_grammar.proofs.Stepping.{ctx, of_kind, run_assoc, first_part, second_part, Halts, halts_op, halted_type, no_list}
use Rattle.go_grammar.proofs.Starting.{starts_type, first_is, from_first}
use Rattle.go_grammar.proofs.Readings.{TypeReads, SigReads, ParamsRead, ParamReads, params_list, joined_params, params_part}

-- a type begins with the token, and not with a name
abbrev pub begins_unnamed : TokenKind → Bool
begins_unnamed k = begins_type k && not (is_name_token k)

type_no_close : (k : TokenKind) → begins_type k ≡ true → is_op o.RightParen (of_kind k) ≡ false
type_no_close (kind.Op o.RightParen) h = sym h
type_no_close _ h = refl

type_no_dots : (k : TokenKind) → begins_type k ≡ true → is_op o.Ellipsis (of_kind k) ≡ false
type_no_dots (kind.Op o.Ellipsis) h = sym h
type_no_dots _ h = refl

type_no_comma : (k : TokenKind) → begins_type k ≡ true → is_op o.Comma (of_kind k) ≡ false
type_no_comma (kind.Op o.Comma) h = sym h
type_no_comma _ h = refl

type_no_dot : (k : TokenKind) → begins_type k ≡ true → is_op o.Dot (of_kind k) ≡ false
type_no_dot (kind.Op o.Dot) h = sym h
type_no_dot _ h = refl

unnamed_type : (k : TokenKind) → begins_unnamed k ≡ true → begins_type k ≡ true
unnamed_type k h = first_part _ _ h

unnamed_name : (k : TokenKind) → begins_unnamed k ≡ true → is_name_token k ≡ false
unnamed_name kind.Name h = sym h
unnamed_name _ h = refl

-- a token between or after parameters
abbrev Ends : Token → Type 0
Ends u = IsOp o.Comma u ⊎ IsOp o.RightParen u

ends_halt : {u : Token} → Ends u → Halts u
ends_halt (inl h) = halts_op h refl
ends_halt (inr h) = halts_op h refl

-- in a list, a type that doesn't begin with a name begins
unnamed_begins : (d b : ℕ) (h g : Bool) (at : Place) (items : Params) (role : Role) (s : Stack) (u : Token) (us : List Token) → has_room d ≡ true → begins_unnamed u.kind ≡ true → run (u ∷ us) (OfSig (InParams (params_part (ctx d b h g) at items role)) ∷ s) ≡ run (u ∷ us) (OfType (AType (ctx (d + 1) b false false)) ∷ OfSig (Param (params_part (ctx d b h g) at items role) u.place None false) ∷ s)
unnamed_begins d b h g at items role s u us room first =
    let no_close : is_op o.RightParen u ≡ false = type_no_close u.kind (unnamed_type u.kind first) in
    let no_name : is_name_token u.kind ≡ false = unnamed_name u.kind first in
    let no_dots : is_op o.Ellipsis u ≡ false = type_no_dots u.kind (unnamed_type u.kind first) in
    starts_type u us (OfSig (InParams (params_part (ctx d b h g) at items role))) s (OfSig (Param (params_part (ctx d b h g) at items role) u.place None false) ∷ s) (ctx (d + 1) b false false) (simp (no_close, no_name, no_dots, room))

unnamed_param : (b : ℕ) (ts : List Token) (e : t.Expr) → first_is begins_unnamed ts ≡ true → TypeReads b ts e → ParamReads b ts (place_of ts) None false e
unnamed_param b [] e first ih d h g room fits at items role u us s ends = cc
unnamed_param b (v ∷ ts) e first ih d h g room fits at items role u us s ends =
    unnamed_begins d b h g at items role s v (ts ++ u ∷ us) room first
    ∙ ih (d + 1) false false fits u us (OfSig (Param (params_part (ctx d b h g) at items role) v.place None false) ∷ s) (halted_type e (ends_halt ends))

plain_param : (b : ℕ) (v : Token) → IsName v → ParamReads b (v ∷ []) v.place None false (t.NameExpr v.place v.text)
plain_param b v n d h g room fits at items role u us s (inl e) = simp (n.name, e.op)
plain_param b v n d h g room fits at items role u us s (inr e) = simp (n.name, e.op)

package_param : (b : ℕ) (v w x : Token) → IsName v → IsOp o.Dot w → IsName x → ParamReads b (v ∷ w ∷ x ∷ []) v.place None false (t.SelectExpr v.place (t.NameExpr v.place v.text) (name_of x))
package_param b v w x n dot m d h g room fits at items role u us s ends = simp (n.name, dot.op, m.name)

pub named_type_param : (b : ℕ) (ts : List Token) (e : t.Expr) → IsTypeName ts e → ParamReads b ts (place_of ts) None false e
named_type_param b _ _ (plain_name {u = v} n) = plain_param b v n
named_type_param b _ _ (package_name {u = v} {v = w} {w = x} n dot m) = package_param b v w x n dot m

-- a type alone
pub type_param : (b : ℕ) (ts : List Token) (e : t.Expr) → (IsTypeName ts e ⊎ (first_is begins_unnamed ts ≡ true)) → TypeReads b ts e → ParamReads b ts (place_of ts) None false e
type_param b ts e (inl n) ih = named_type_param b ts e n
type_param b ts e (inr first) ih = unnamed_param b ts e first ih

-- "..." Type
pub variadic_type_param : (b : ℕ) (ts : List Token) (e : t.Expr) (v : Token) → IsOp o.Ellipsis v → TypeReads b ts e → ParamReads b (v ∷ ts) v.place None true e
variadic_type_param b ts e v hv ih d h g room fits at items role u us s ends =
    simp (hv.op, room, ih (d + 1) false false fits u us (OfSig (Param (params_part (ctx d b h g) at items role) v.place None true) ∷ s) (halted_type e (ends_halt ends)))

-- after a name, a type begins
typed_begins : (d b : ℕ) (h g : Bool) (at : Place) (items : Params) (role : Role) (y : Name) (s : Stack) → has_room d ≡ true → (u : Token) (us : List Token) → begins_type u.kind ≡ true → run (u ∷ us) (OfSig (ParamName (params_part (ctx d b h g) at items role) y) ∷ s) ≡ run (u ∷ us) (OfType (AType (ctx (d + 1) b false false)) ∷ OfSig (Param (params_part (ctx d b h g) at items role) y.place (Some y) false) ∷ s)
typed_begins d b h g at items role y s room u us first =
    let no_close : is_op o.RightParen u ≡ false = type_no_close u.kind first in
    let no_comma : is_op o.Comma u ≡ false = type_no_comma u.kind first in
    let no_dot : is_op o.Dot u ≡ false = type_no_dot u.kind first in
    let no_dots : is_op o.Ellipsis u ≡ false = type_no_dots u.kind first in
    starts_type u us (OfSig (ParamName (params_part (ctx d b h g) at items role) y)) s (OfSig (Param (params_part (ctx d b h g) at items role) y.place (Some y) false) ∷ s) (ctx (d + 1) b false false) (simp (no_close, no_comma, no_dot, no_dots, room))

-- name Type
pub named_param_reads : (b : ℕ) (ts : List Token) (e : t.Expr) (v : Token) → IsName v → first_is begins_type ts ≡ true → TypeReads b ts e → ParamReads b (v ∷ ts) v.place (Some (name_of v)) false e
named_param_reads b ts e v n first ih d h g room fits at items role u us s ends =
    let begins : run (ts ++ u ∷ us) (OfSig (ParamName (params_part (ctx d b h g) at items role) (name_of v)) ∷ s) ≡ run (ts ++ u ∷ us) (OfType (AType (ctx (d + 1) b false false)) ∷ OfSig (Param (params_part (ctx d b h g) at items role) v.place (Some (name_of v)) false) ∷ s) = from_first begins_type ts _ _ first (typed_begins d b h g at items role (name_of v) s room) (u ∷ us) in
    simp (n.name, begins, ih (d + 1) false false fits u us (OfSig (Param (params_part (ctx d b h g) at items role) v.place (Some (name_of v)) false) ∷ s) (halted_type e (ends_halt ends)))

-- name "..." Type
pub named_variadic_reads : (b : ℕ) (ts : List Token) (e : t.Expr) (v w : Token) → IsName v → IsOp o.Ellipsis w → TypeReads b ts e → ParamReads b (v ∷ w ∷ ts) v.place (Some (name_of v)) true e
named_variadic_reads b ts e v w n hw ih d h g room fits at items role u us s ends =
    simp (n.name, hw.op, room, ih (d + 1) false false fits u us (OfSig (Param (params_part (ctx d b h g) at items role) v.place (Some (name_of v)) true) ∷ s) (halted_type e (ends_halt ends)))

pub no_params_read : (b : ℕ) → ParamsRead b [] t.NoParams
no_params_read b d h g room fits at items role u us s hu = ap (λ xs. run (u ∷ us) (OfSig (InParams (params_part (ctx d b h g) at xs role)) ∷ s)) (sym (append-nil items))

pub last_param_reads : (b : ℕ) (ts : List Token) (at' : Place) (x : Option Name) (variadic : Bool) (e : t.Expr) → ParamReads b ts at' x variadic e → ParamsRead b ts (t.MoreParams at' x variadic e t.NoParams)
last_param_reads b ts at' x variadic e ih d h g room fits at items role u us s hu =
    ih d h g room (first_part _ _ fits) at items role u us s (inr hu) ∙ simp hu.op

pub more_params_read : (b : ℕ) (ts us' : List Token) (at' : Place) (x : Option Name) (variadic : Bool) (e : t.Expr) (v : Token) (rest : t.Params) → ParamReads b ts at' x variadic e → IsOp o.Comma v → ParamsRead b us' rest → ParamsRead b (ts ++ v ∷ us') (t.MoreParams at' x variadic e rest)
more_params_read b ts us' at' x variadic e v rest ih hv ihs d h g room fits at items role u us s hu =
    let f = λ (more : t.Params). t.MoreParams at' x variadic e more in
    let one : run (ts ++ (v ∷ us' ++ u ∷ us)) (OfSig (InParams (params_part (ctx d b h g) at items role)) ∷ s) ≡ run (v ∷ us' ++ u ∷ us) (Done (AnExpr e) ∷ OfSig (Param (params_part (ctx d b h g) at items role) at' x variadic) ∷ s) = ih d h g room (first_part _ _ fits) at items role v (us' ++ u ∷ us) s (inl hv) in
    let two : run (v ∷ us' ++ u ∷ us) (Done (AnExpr e) ∷ OfSig (Param (params_part (ctx d b h g) at items role) at' x variadic) ∷ s) ≡ run (us' ++ u ∷ us) (OfSig (InParams (params_part (ctx d b h g) at (items ++ f ∷ []) role)) ∷ s) = simp hv.op in
    run_assoc ts (v ∷ us') (u ∷ us) (OfSig (InParams (params_part (ctx d b h g) at items role)) ∷ s) ∙ (one ∙ (two
    ∙ (ihs d h g room (second_part _ _ fits) at (items ++ f ∷ []) role u us s hu
    ∙ ap (λ xs. run (u ∷ us) (OfSig (InParams (params_part (ctx d b h g) at xs role)) ∷ s)) (append_assoc items (f ∷ []) (params_list rest)))))

-- Params, as a signature's parameters
pub params_taken : (b : ℕ) (ts : List Token) (xs : t.Params) (v w : Token) → IsOp o.LeftParen v → ParamsRead b ts xs → IsOp o.RightParen w → (d : ℕ) (h g : Bool) → has_room d ≡ true → params_fit b (d + 1) xs ≡ true → (us : List Token) (s : Stack) → run (v ∷ ts ++ w ∷ us) (OfSig (SigOpen (ctx d b h g)) ∷ s) ≡ run us (OfSig (AfterParams (ctx d b h g) v.place (params_list xs)) ∷ s)
params_taken b ts xs v w hv ih hw d h g room fits us s = simp (hv.op, room, ih d h g room fits v.place [] OfParams w us s hw, hw.op)

pub without_results_reads : (b : ℕ) (ts : List Token) (xs : t.Params) (v w : Token) → IsOp o.LeftParen v → ParamsRead b ts xs → IsOp o.RightParen w → SigReads b (v ∷ ts ++ w ∷ []) (t.SigOf v.place xs t.NoResults)
without_results_reads b ts xs v w hv ih hw d h g fits u us s after =
    let room : has_room d ≡ true = first_part _ _ (first_part _ _ fits) in
    let no_type : begins_type u.kind ≡ false = after.0 in
    let no_paren : is_op o.LeftParen u ≡ false = no_list u.kind no_type in
    let over : run (u ∷ us) (OfSig (AfterParams (ctx d b h g) v.place (params_list xs)) ∷ s) ≡ run (u ∷ us) (Done (ASig (t.SigOf v.place (joined (params_list xs) t.NoParams) t.NoResults)) ∷ s) = simp (no_type, no_paren) in
    ap (λ ys. run (v ∷ ys) (OfSig (SigOpen (ctx d b h g)) ∷ s)) (append_assoc ts (w ∷ []) (u ∷ us))
    ∙ (params_taken b ts xs v w hv ih hw d h g room (second_part _ _ (first_part _ _ fits)) (u ∷ us) s
    ∙ (over ∙ ap (λ ys. run (u ∷ us) (Done (ASig (t.SigOf v.place ys t.NoResults)) ∷ s)) (joined_params xs)))

no_open : (k : TokenKind) → (k ≡ kind.Op o.LeftParen → ⊥) → is_op o.LeftParen (of_kind k) ≡ false
no_open (kind.Op o.LeftParen) h = absurd (h refl)
no_open _ h = refl

-- after parameters, a result type begins
result_begins : (d b : ℕ) (h g : Bool) (at : Place) (xs : Params) (ts : List Token) (s : Stack) → has_room d ≡ true → StartsNoList ts → first_is begins_type ts ≡ true → (rest : List Token) → run (ts ++ rest) (OfSig (AfterParams (ctx d b h g) at xs) ∷ s) ≡ run (ts ++ rest) (OfType (AType (ctx (d + 1) b false false)) ∷ OfSig (Result at xs) ∷ s)
result_begins d b h g at xs _ s room (starts_no_list {u} {us} apart) first rest =
    let no_paren : is_op o.LeftParen u ≡ false = no_open u.kind (λ e. apart (record { op = e })) in
    let is_type : begins_type u.kind ≡ true = first in
    starts_type u (us ++ rest) (OfSig (AfterParams (ctx d b h g) at xs)) s (OfSig (Result at xs) ∷ s) (ctx (d + 1) b false false) (simp (no_paren, is_type, room))

pub with_result_reads : (b : ℕ) (ts us' : List Token) (xs : t.Params) (e : t.Expr) (v w : Token) → IsOp o.LeftParen v → ParamsRead b ts xs → IsOp o.RightParen w → StartsNoList us' → first_is begins_type us' ≡ true → TypeReads b us' e → SigReads b ((v ∷ ts ++ w ∷ []) ++ us') (t.SigOf v.place xs (t.OneResult e))
with_result_reads b ts us' xs e v w hv ih hw apart first ihe d h g fits u us s after =
    let room : has_room d ≡ true = first_part _ _ (first_part _ _ fits) in
    let results : run (us' ++ u ∷ us) (OfType (AType (ctx (d + 1) b false false)) ∷ OfSig (Result v.place (params_list xs)) ∷ s) ≡ run (u ∷ us) (Done (ASig (t.SigOf v.place (joined (params_list xs) t.NoParams) (t.OneResult e))) ∷ s) = ihe (d + 1) false false (second_part _ _ fits) u us (OfSig (Result v.place (params_list xs)) ∷ s) after in
    run_assoc (v ∷ ts ++ w ∷ []) us' (u ∷ us) (OfSig (SigOpen (ctx d b h g)) ∷ s)
    ∙ (ap (λ ys. run (v ∷ ys) (OfSig (SigOpen (ctx d b h g)) ∷ s)) (append_assoc ts (w ∷ []) (us' ++ u ∷ us))
    ∙ (params_taken b ts xs v w hv ih hw d h g room (second_part _ _ (first_part _ _ fits)) (us' ++ u ∷ us) s
    ∙ (result_begins d b h g v.place (params_list xs) us' s room apart first (u ∷ us)
    ∙ (results ∙ ap (λ ys. run (u ∷ us) (Done (ASig (t.SigOf v.place ys (t.OneResult e))) ∷ s)) (joined_params xs)))))

pub with_results_reads : (b : ℕ) (ts us' : List Token) (xs ys : t.Params) (v w v' w' : Token) → IsOp o.LeftParen v → ParamsRead b ts xs → IsOp o.RightParen w → IsOp o.LeftParen v' → ParamsRead b us' ys → IsOp o.RightParen w' → SigReads b ((v ∷ ts ++ w ∷ []) ++ (v' ∷ us' ++ w' ∷ [])) (t.SigOf v.place xs (t.ManyResults v'.place ys))
with_results_reads b ts us' xs ys v w v' w' hv ih hw hv' ih' hw' d h g fits u us s after =
    let room : has_room d ≡ true = first_part _ _ (first_part _ _ fits) in
    let p = params_list xs in
    let opened : run (v' ∷ us' ++ w' ∷ u ∷ us) (OfSig (AfterParams (ctx d b h g) v.place p) ∷ s) ≡ run (us' ++ w' ∷ u ∷ us) (OfSig (InParams (params_part (ctx d b h g) v'.place [] (OfResults v.place p))) ∷ s) = simp (hv'.op, room) in
    let closed : run (w' ∷ u ∷ us) (OfSig (InParams (params_part (ctx d b h g) v'.place (params_list ys) (OfResults v.place p))) ∷ s) ≡ run (u ∷ us) (Done (ASig (t.SigOf v.place (joined p t.NoParams) (t.ManyResults v'.place (joined (params_list ys) t.NoParams)))) ∷ s) = simp hw'.op in
    run_assoc (v ∷ ts ++ w ∷ []) (v' ∷ us' ++ w' ∷ []) (u ∷ us) (OfSig (SigOpen (ctx d b h g)) ∷ s)
    ∙ (ap (λ zs. run (v ∷ zs) (OfSig (SigOpen (ctx d b h g)) ∷ s)) (append_assoc ts (w ∷ []) ((v' ∷ us' ++ w' ∷ []) ++ u ∷ us))
    ∙ (params_taken b ts xs v w hv ih hw d h g room (second_part _ _ (first_part _ _ fits)) ((v' ∷ us' ++ w' ∷ []) ++ u ∷ us) s
    ∙ (ap (λ zs. run (v' ∷ zs) (OfSig (AfterParams (ctx d b h g) v.place p) ∷ s)) (append_assoc us' (w' ∷ []) (u ∷ us))
    ∙ (opened
    ∙ (ih' d h g room (second_part _ _ fits) v'.place [] (OfResults v.place p) w' (u ∷ us) s hw'
    ∙ (closed
    ∙ (ap (λ zs. run (u ∷ us) (Done (ASig (t.SigOf v.place zs (t.ManyResults v'.place (joined (params_list ys) t.NoParams)))) ∷ s)) (joined_params xs)
    ∙ ap (λ zs. run (u ∷ us) (Done (ASig (t.SigOf v.place xs (t.ManyResults v'.place zs))) ∷ s)) (joined_params ys))))))))
