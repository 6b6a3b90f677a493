-- Named types that are added change nothing that is typed without them.
use Rattle.std.proofs.Common.{◌≡◌, ℕ, zero, suc, List, [], ◌∷◌, ◌++◌, refl, sym, ap, ◌∙◌, Option, Some, None}
use Rattle.go_syntax.specs.Tree.{Expr, NameExpr, IntExpr, RuneExpr, StrExpr, ParenExpr, UnaryExpr, BinaryExpr, SelectExpr, IndexExpr, SliceExpr, AssertExpr, CallExpr, LiteralExpr, FuncExpr, ArrayType, SliceType, StructType, FuncType, InterfaceType, MapType, ChanType, MaybeExpr, NoExpr, AnExpr, Exprs, NoExprs, MoreExprs}
use Rattle.go_type.specs.Tree as ty
use Rattle.go_type.specs.Tree.{Ty, Tys, no_tys, more_tys}
use Rattle.go_type.specs.Named.{NamedTy}
use Rattle.go_type.specs.Underlying.{underlying, under_at, or_else}
use Rattle.go_typing.specs.Env.{Decl, variable, global, constant, type_name, function, imported, nil_value, refused, unknown, Bind, lookup}
use Rattle.go_typing.specs.Env as env
use Rattle.go_typing.specs.Answer.{Flaw, own}
use Rattle.go_typing.specs.Typing.{typing, flaws, bound_flaws, all_flaws, where_true, is_built_prefix, call_flaws, callee_of}
use Rattle.go_sound.specs.Added.{TypeIsSet, TypesAreSet, DeclIsSet, ScopesAreSet, AddedTypesChangeNothing, AddedTypesTellNothing}
use Rattle.go_sound.proofs.Agree.{Agrees, AllAgree}
use Rattle.go_sound.proofs.AgreeTyping.{DeclAgrees, OptionAgrees, ScopesAgree, typing_alike}
use Rattle.go_sound.proofs.Grown.{IsSet}

pub still_set : (ns more : List NamedTy) (id : ℕ) (u : Ty) → under_at ns id ≡ Some u → under_at (ns ++ more) id ≡ Some u
still_set [] more id u h = let e : None ≡ Some u = h in cc
still_set (x ∷ xs) more zero u h = h
still_set (x ∷ xs) more (suc id) u h = still_set xs more id u h

pub same_under : (ns more : List NamedTy) (id : ℕ) → IsSet ns id → underlying (ns ++ more) (ty.named id) ≡ underlying ns (ty.named id)
same_under ns more id s = ap (λ (o : Option Ty). or_else o (ty.named id)) (still_set ns more id s.0 s.1 ∙ sym s.1)

mutual
  pub type_set : (ns : List NamedTy) (u : Ty) → TypeIsSet ns u → Agrees (IsSet ns) u
  type_set ns (ty.named id) h = h
  type_set ns (ty.tuple us) h = types_set ns us h
  type_set ns _ h = tt

  types_set : (ns : List NamedTy) (us : Tys) → TypesAreSet ns us → AllAgree (IsSet ns) us
  types_set ns no_tys h = tt
  types_set ns (more_tys u us) h = (type_set ns u h.0, types_set ns us h.1)

decl_set : (ns : List NamedTy) (d : Decl) → DeclIsSet ns d → DeclAgrees (IsSet ns) d
decl_set ns (variable id u) h = type_set ns u h
decl_set ns (global number u) h = type_set ns u h
decl_set ns (constant k u) h = type_set ns u h
decl_set ns (type_name u) h = type_set ns u h
decl_set ns (function id ps rs v) h = (types_set ns ps h.0, types_set ns rs h.1)
decl_set ns (imported path) h = tt
decl_set ns (env.built_in b) h = tt
decl_set ns nil_value h = tt
decl_set ns (refused code) h = tt
decl_set ns unknown h = tt

pub scopes_set : (ns : List NamedTy) (ss : List (List Bind)) → ScopesAreSet ns ss → ScopesAgree (IsSet ns) ss
scopes_set ns ss h x = by_case (lookup x ss) refl
  where
    by_case : (o : Option Decl) → lookup x ss ≡ o → OptionAgrees (IsSet ns) o
    by_case None e = tt
    by_case (Some d) e = decl_set ns d (h x d e)

pub added_types_change_nothing : AddedTypesChangeNothing
added_types_change_nothing ns more ss h e = let r = typing_alike (ns ++ more) ns (IsSet ns) (same_under ns more) ss (scopes_set ns ss h) e in r.same

joined_same : (a b c d : List Flaw) → a ≡ b → c ≡ d → a ++ c ≡ b ++ d
joined_same a b c d h k = ap (λ (x : List Flaw). x ++ c) h ∙ ap (λ (x : List Flaw). b ++ x) k

module _ (ns more : List NamedTy) (ss : List (List Bind)) (h : ScopesAreSet ns ss) where
  own_same : (e : Expr) → own (typing (ns ++ more) ss e) ≡ own (typing ns ss e)
  own_same e = ap own (added_types_change_nothing ns more ss h e)

  mutual
    told_same : (e : Expr) → flaws (ns ++ more) ss e ≡ flaws ns ss e
    told_same (NameExpr at x) = own_same (NameExpr at x)
    told_same (IntExpr at x) = refl
    told_same (RuneExpr at x) = refl
    told_same (StrExpr at x) = refl
    told_same (ParenExpr at x) = told_same x
    told_same (UnaryExpr at op x) = joined_same _ _ _ _ (ap (where_true (is_built_prefix op)) (told_same x)) (own_same (UnaryExpr at op x))
    told_same (BinaryExpr at x op y) = joined_same _ _ _ _ (joined_same _ _ _ _ (told_same x) (told_same y)) (own_same (BinaryExpr at x op y))
    told_same (SelectExpr at x name) = refl
    told_same (IndexExpr at x i) = joined_same _ _ _ _ (joined_same _ _ _ _ (told_same x) (told_same i)) (own_same (IndexExpr at x i))
    told_same (SliceExpr at x l m n) =
        joined_same _ _ _ _ (joined_same _ _ _ _ (told_same x) (joined_same _ _ _ _ (bound_same l) (joined_same _ _ _ _ (bound_same m) (bound_same n)))) (own_same (SliceExpr at x l m n))
    told_same (AssertExpr at x u) = refl
    told_same (CallExpr at f xs spread) =
        joined_same _ _ _ _ (ap (λ (fs : List Flaw). call_flaws (callee_of ss f) fs (all_flaws (ns ++ more) ss xs)) (told_same f) ∙ ap (call_flaws (callee_of ss f) (flaws ns ss f)) (all_same xs)) (own_same (CallExpr at f xs spread))
    told_same (LiteralExpr at u es) = refl
    told_same (FuncExpr at sig b) = refl
    told_same (ArrayType at n u) = refl
    told_same (SliceType at u) = refl
    told_same (StructType at fs) = refl
    told_same (FuncType at sig) = refl
    told_same (InterfaceType at ms) = refl
    told_same (MapType at k u) = refl
    told_same (ChanType at d u) = refl

    bound_same : (b : MaybeExpr) → bound_flaws (ns ++ more) ss b ≡ bound_flaws ns ss b
    bound_same NoExpr = refl
    bound_same (AnExpr x) = told_same x

    all_same : (xs : Exprs) → all_flaws (ns ++ more) ss xs ≡ all_flaws ns ss xs
    all_same NoExprs = refl
    all_same (MoreExprs x xs) = joined_same _ _ _ _ (told_same x) (all_same xs)

pub added_types_tell_nothing : AddedTypesTellNothing
added_types_tell_nothing ns more ss h e = told_same ns more ss h e
