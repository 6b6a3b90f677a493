-- The functions of a package before their bodies, one after the other.
use Rattle.std.proofs.Common.{rules, ◌≡◌, ◌∙◌, ℕ, refl, sym, ap, subst, List, [], ◌∷◌, ◌++◌, append_assoc, Bool, true, false, Option, None, length, map}
use Rattle.std.proofs.lemmas.List.{map-append, length-map}
use Rattle.std.specs.Prelude.{if◌then◌else◌}
use Rattle.gj_base.specs.declared.place.Place.{Place}
use Rattle.go_syntax.specs.Tree as t
use Rattle.go_syntax.specs.View.{decl_view, decl_form_view, sig_view, block_view}
use Rattle.go_syntax.specs.declared.tree.Block.{Block}
use Rattle.go_syntax.specs.declared.tree.Decl.{Decl, fold_out-Decl}
use Rattle.go_syntax.specs.declared.tree.DeclForm.{DeclForm, fold-roll-DeclForm}
use Rattle.go_syntax.specs.declared.tree.DeclForm.TheVariants as form
use Rattle.go_syntax.specs.declared.tree.Name.{Name}
use Rattle.go_syntax.specs.declared.tree.Params.{Params}
use Rattle.go_syntax.specs.declared.tree.Sig.{Sig}
use Rattle.go_type.specs.Tree.{Ty}
use Rattle.go_type.specs.declared.table.TypeTable.{TypeTable}
use Rattle.go_operands.specs.declared.scopes.env.Env.{Env}
use Rattle.go_operands.specs.EnvView.{table_of}
use Rattle.go_typing.specs.Walk.{Walk}
use Rattle.go_typing.specs.Signature.{Param, SigTypes}
use Rattle.go_typing.specs.Items.{is_init}
use Rattle.go_expr.specs.Raw.{Grows}
use Rattle.go_walk.specs.WalkView.{walk_outside, Keeps}
use Rattle.go_assign.proofs.GrowLemmas.{grows_not, grows_on, same_walk}
use Rattle.go_decls.specs.Heads as go
use Rattle.go_decls.specs.Heads.{head_of, heads_from}
use Rattle.go_decls.specs.HeadView.{head_view, IsReady, AreReady, HeadsLeft}
use Rattle.go_decls.specs.declared.heads.head.Head.{Head}
use Rattle.go_decls.proofs.KeepLemmas.{keeps_before, types_below, sig_below}

-- ---- one

abbrev made : Place → List ℕ → List Param → Option SigTypes → Bool → Option Place → t.Block → go.Head
made at x ps s named far b = record { place = at; name = x; params = ps; sig = s; named_results = named; too_far = far; body = b }

pub made_same : (at : Place) (x y : List ℕ) (ps qs : List Param) (s r : Option SigTypes) (m n : Bool) (f g : Option Place) (b : t.Block) → x ≡ y → ps ≡ qs → s ≡ r → m ≡ n → f ≡ g → made at x ps s m f b ≡ made at y qs r n g b
made_same at x y ps qs s r m n f g b ex ep es en ef =
    ap (λ (z : List ℕ). made at z ps s m f b) ex ∙ ap (λ (zs : List Param). made at y zs s m f b) ep ∙ ap (λ (z : Option SigTypes). made at y qs z m f b) es ∙ ap (λ (z : Bool). made at y qs r z f b) en
    ∙ ap (λ (z : Option Place). made at y qs r n z b) ef

-- as many types as parameters
pub counted : {X Y Z : Type 0} (f : X → Z) (g : Y → Z) (xs : List X) (ys : List Y) → map f xs ≡ map g ys → length ys ≡ length xs
counted f g xs ys h = sym (length-map ys g) ∙ sym (ap length h) ∙ length-map xs f

-- ---- one after the other

ready_later : (a b : Env) (w : Walk) (h : Head) → Grows a b → IsReady (table_of a) w h → IsReady (table_of b) w h
ready_later a b w h g r = record {
  count = r.count;
  types = types_below a b h.types.items g r.types;
  sig = sig_below a b h.sig g r.sig;
  each = λ ts k. r.each ts (keeps_before a b ts g k);
}

pub all_later : (a b : Env) (w : Walk) (hs : List Head) → Grows a b → AreReady (table_of a) w hs → AreReady (table_of b) w hs
all_later a b w [] g l = tt
all_later a b w (h ∷ hs) g l = (ready_later a b w h g l.0, all_later a b w hs g l.1)

all_and : (t : TypeTable) (w : Walk) (hs : List Head) (h : Head) → AreReady t w hs → IsReady t w h → AreReady t w (hs ++ h ∷ [])
all_and t w [] h l r = (r, tt)
all_and t w (g ∷ hs) h l r = (l.0, all_and t w hs h l.1 r)

pub left_first : (far : Option Place) (a : Env) (hs : List Head) (all : List t.Decl) → HeadsLeft far a a hs hs all all
left_first far a hs all = record { view = λ ts k. refl; ready = λ l. l; grows = grows_not a }

pub left_on : (far : Option Place) (a b c : Env) (old mid new : List Head) (rest here all : List t.Decl) → HeadsLeft far a b old mid here all → HeadsLeft far b c mid new rest here → HeadsLeft far a c old new rest all
left_on far a b c old mid new rest here all h k =
    let same : walk_outside b ≡ walk_outside a = same_walk a b h.grows in
    record {
      view = λ ts q.
          subst (λ (w : Walk). map (head_view ts) new ++ heads_from far w rest ≡ map (head_view ts) mid ++ heads_from far w here) same (k.view ts q) ∙ h.view ts (keeps_before b c ts k.grows q);
      ready = λ l. subst (λ (w : Walk). AreReady (table_of c) w new) same (k.ready (subst (λ (w : Walk). AreReady (table_of b) w mid) (sym same) (h.ready l)));
      grows = grows_on a b c h.grows k.grows;
    }

-- ---- a declaration

decl_whole : (d : Decl) → decl_view d ≡ decl_form_view d.form.value d.place
decl_whole d = search (rules, fold_out-Decl)

pub function_seen : (d : Decl) (f : DeclForm) (r : Option Params) (n : Name) (s : Sig) (b : Block) → f ≡ d.form.value → f ≡ form.Func r n s b → r ≡ None → decl_view d ≡ t.FuncDecl d.place n (sig_view s) (block_view b)
function_seen d f r n s b p q e =
    decl_whole d ∙ ap (λ (g : DeclForm). decl_form_view g d.place) (sym p ∙ q ∙ ap (λ (o : Option Params). form.Func o n s b) e) ∙ rw (← form.rolls-Func, fold-roll-DeclForm)

module _ (far : Option Place) (a : Env) (at : Place) (n : Name) (s : t.Sig) (b : t.Block) (rest : List t.Decl) where
  init_heads : (w : Walk) → is_init n ≡ true → heads_from far w (t.FuncDecl at n s b ∷ rest) ≡ heads_from far w rest
  init_heads w h = ap (λ (c : Bool). if c then heads_from far w rest else head_of far w at n s b ∷ heads_from far w rest) h

  more_heads : (w : Walk) → is_init n ≡ false → heads_from far w (t.FuncDecl at n s b ∷ rest) ≡ head_of far w at n s b ∷ heads_from far w rest
  more_heads w h = ap (λ (c : Bool). if c then heads_from far w rest else head_of far w at n s b ∷ heads_from far w rest) h

  pub left_init : (hs : List Head) → is_init n ≡ true → HeadsLeft far a a hs hs rest (t.FuncDecl at n s b ∷ rest)
  left_init hs h = record { view = λ ts k. sym (ap (λ (gs : List go.Head). map (head_view ts) hs ++ gs) (init_heads (walk_outside a) h)); ready = λ l. l; grows = grows_not a }

  pub left_function : (c : Env) (old new : List Head) (h : Head) → is_init n ≡ false → new ≡ old ++ h ∷ [] → ((ts : List Ty) → Keeps (table_of c) ts → head_view ts h ≡ head_of far (walk_outside a) at n s b)
      → IsReady (table_of c) (walk_outside a) h → Grows a c → HeadsLeft far a c old new rest (t.FuncDecl at n s b ∷ rest)
  left_function c old new h off e v r g = record {
    view = λ ts k.
        let w = walk_outside a in
        ap (λ (hs : List Head). map (head_view ts) hs ++ heads_from far w rest) e ∙ ap (λ (gs : List go.Head). gs ++ heads_from far w rest) (map-append (head_view ts) old (h ∷ []))
        ∙ append_assoc (map (head_view ts) old) (head_view ts h ∷ []) (heads_from far w rest)
        ∙ ap (λ (x : go.Head). map (head_view ts) old ++ x ∷ heads_from far w rest) (v ts k)
        ∙ sym (ap (λ (gs : List go.Head). map (head_view ts) old ++ gs) (more_heads w off));
    ready = λ l. subst (AreReady (table_of c) (walk_outside a)) (sym e) (all_and (table_of c) (walk_outside a) old h (all_later a c (walk_outside a) old g l) r);
    grows = g;
  }
