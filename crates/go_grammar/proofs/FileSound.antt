-- Each step of a frame of a file keeps the invariant.
use Rattle.std.proofs.Common.{◌≡◌, ◌&&◌, ◌||◌, Bool, true, false, List, [], ◌∷◌, ◌++◌, Option, Some, None, refl, ap, sym, ◌∙◌, subst, append_assoc, append-nil, if◌then◌else◌, ◌⊎◌, inl, inr, ⊎_elim}
use Rattle.gj_base.specs.declared.place.Place.{Place}
use Rattle.go_syntax.specs.Tree as t
use Rattle.go_syntax.specs.Token.{Token}
use Rattle.go_syntax.specs.declared.kind.TokenKind.{TokenKind}
use Rattle.go_syntax.specs.declared.kind.TokenKind.TheVariants as kind
use Rattle.go_syntax.specs.declared.keyword.Keyword.TheVariants as word
use Rattle.go_syntax.specs.declared.operator.Operator.TheVariants as o
use Rattle.go_syntax.specs.declared.tree.Name.{Name}
use Rattle.go_syntax.specs.declared.keyword.Keyword.{Keyword}
use Rattle.go_grammar.specs.Classes.{IsOp, IsWord, IsName, IsSemicolon, IsEnd, name_of}
use Rattle.go_grammar.specs.Grammar.{IsBlock, IsSig}
use Rattle.go_grammar.specs.Files as g
use Rattle.go_grammar.specs.Files.{IsImport, AreImportSpecs, AreImports, IsTop, AreTops, IsFile}
use Rattle.go_grammar.specs.Frames as f
use Rattle.go_grammar.specs.Frames.{Ctx, new_ctx, FileFrame, FilePart, Params, Frame, OfSig, OfFile, Done, Stack, Flow, Goes, Stuck, ASig, ABlock, ADecl}
use Rattle.go_grammar.specs.Nodes.{is_op, is_word, is_name_token, is_string, is_semicolon}
use Rattle.go_grammar.specs.StmtSteps.{with_import, import_spec, has_none, top_word, top, named_func, file_row, file_meets_sig, file_meets_block, file_meets_decl}
use Rattle.go_grammar.proofs.TokenLemmas.{op_of, word_of, no_word, name_is, string_is, semicolon_is}
use Rattle.go_grammar.proofs.Wanted.{Want, WFile, WTop, Is, to_top}
use Rattle.go_grammar.proofs.HeldExprs as he
use Rattle.go_grammar.proofs.HeldStmts as h
use Rattle.go_grammar.proofs.HeldStmts.{HoldsFile, waits_file, PackageHeld, ImportsHeld, SpecsHeld, TopsHeld, FileHeld, ImportHeld, ImportEnded, ReceiverHeld}
use Rattle.go_grammar.proofs.Stands.{Opens, o_stuck, Good, good, over, stuck, open_one, open_at, open_new, open_on, within_new, good_at, good_if, good_op, open_if}
use Rattle.go_grammar.proofs.SigSound.{params_opens}
use Rattle.go_grammar.proofs.ExprSound.{block_opens, and_parts}
use Rattle.go_grammar.proofs.StmtSound.{decl_opens}

imports_all : {ts : List Token} {xs : List t.Import} → ImportsHeld ts xs → AreImports ts xs
imports_all {ts} {xs} k = subst (λ z. AreImports z xs) (append-nil ts) (subst (λ z. AreImports (ts ++ []) z) (append-nil xs) (k.held [] [] g.no_imports))

specs_all : {ts : List Token} {xs : List t.Import} → SpecsHeld ts xs → AreImportSpecs ts xs
specs_all {ts} {xs} k = subst (λ z. AreImportSpecs z xs) (append-nil ts) (subst (λ z. AreImportSpecs (ts ++ []) z) (append-nil xs) (k.held [] [] g.no_import_specs))

tops_all : {ts : List Token} {xs : List t.Decl} → TopsHeld ts xs → AreTops ts xs
tops_all {ts} {xs} k = subst (λ z. AreTops z xs) (append-nil ts) (subst (λ z. AreTops (ts ++ []) z) (append-nil xs) (k.held [] [] g.no_tops))

-- the whole file
file_is : {x : FilePart} {ts : List Token} {u : Token} → FileHeld x ts → IsEnd u → IsFile (ts ++ u ∷ []) (record { «package» = x.package; imports = x.imports; decls = x.decls })
file_is (h.file_held (h.package_held p n q) i none d) e = g.file p n q (imports_all i) (tops_all d) e

none_is : (ds : List t.Decl) → has_none ds ≡ true → ds ≡ []
none_is [] q = refl
none_is (d ∷ ds) q = absurd (cc)

import_held : {x : FilePart} {ts : List Token} (u : Token) → FileHeld x ts → has_none x.decls ≡ true → IsWord word.Import u → ImportHeld x false (ts ++ u ∷ [])
import_held u (h.file_held {y} {xs} {ds} {ps} {ts} {us} p i none d) q k =
    let z = none_is ds q in
    subst (λ e. ImportHeld (record { «package» = y; imports = xs; decls = e }) false (ps ++ ts ++ us ++ u ∷ [])) (sym z)
    (subst (λ e. ImportHeld (record { «package» = y; imports = xs; decls = [] }) false (e ++ u ∷ [])) (sym (ap (λ e. ps ++ ts ++ e) (none z) ∙ append-nil (ps ++ ts))) (h.one_import p i k))

top_word_good : {x : FilePart} {ts : List Token} (u : Token) (w : Keyword) (s : Stack) → FileHeld x ts → IsWord w u → Opens u WFile ts s (top_word u w x s)
top_word_good {x} u word.Import s i k = open_if (has_none x.decls) (λ q. open_one (OfFile (f.AtImport x)) (h.at_import (import_held u i q k))) (λ q. o_stuck)
top_word_good {x} u word.Const s i k = within_new (OfFile (f.Top x)) (h.top i) (decl_opens u 0 (OfFile (f.Top x) ∷ s) to_top (λ p q. absurd (no_word q k)))
top_word_good {x} u word.Type s i k = within_new (OfFile (f.Top x)) (h.top i) (decl_opens u 0 (OfFile (f.Top x) ∷ s) to_top (λ p q. absurd (no_word p k)))
top_word_good {x} u word.Var s i k = within_new (OfFile (f.Top x)) (h.top i) (decl_opens u 0 (OfFile (f.Top x) ∷ s) to_top (λ p q. k))
top_word_good {x} u word.Func s i k = open_on (OfFile (f.Top x)) (OfFile (f.TopFunc u.place)) (h.top i) (h.top_func k)
top_word_good u _ s i k = o_stuck

top_good : {x : FilePart} {ts : List Token} (u : Token) (k : TokenKind) (s : Stack) → u.kind ≡ k → FileHeld x ts → Opens u WFile ts s (top k u x s)
top_good {x} u kind.End s q i = open_one (OfFile (f.Whole (record { «package» = x.package; imports = x.imports; decls = x.decls }))) (h.whole (file_is i (record { «end» = q })))
top_good u (kind.Word w) s q i = top_word_good u w s i (record { word = q })
top_good u _ s q i = o_stuck

-- one spec more
one_more : {ts us : List Token} {xs : List t.Import} {x : t.Import} {u : Token} → ImportsHeld ts xs → IsWord word.Import u → IsImport us x → (v : Token) → IsSemicolon v → ImportsHeld (ts ++ u ∷ us ++ v ∷ []) (xs ++ x ∷ [])
one_more {ts} {us} {xs} {x} {u} k m d v q = record {
  held = λ vs r j.
      subst (λ z. AreImports (ts ++ u ∷ us ++ v ∷ [] ++ vs) z) (sym (append_assoc xs (x ∷ []) r))
      (subst (λ z. AreImports z (xs ++ x ∷ r)) (sym (append_assoc ts (u ∷ us) (v ∷ vs)) ∙ sym (append_assoc (ts ++ u ∷ us) (v ∷ []) vs)) (k.held (u ∷ us ++ v ∷ vs) (x ∷ r) (g.import_one m d q j)));
}

spec_last : {ts us : List Token} {xs : List t.Import} {x : t.Import} → SpecsHeld ts xs → IsImport us x → AreImportSpecs (ts ++ us) (xs ++ x ∷ [])
spec_last {us = us} {x = x} k d = k.held us (x ∷ []) (g.last_import_spec d)

spec_more : {ts us : List Token} {xs : List t.Import} {x : t.Import} → SpecsHeld ts xs → IsImport us x → (v : Token) → IsSemicolon v → SpecsHeld (ts ++ us ++ v ∷ []) (xs ++ x ∷ [])
spec_more {ts} {us} {xs} {x} k d v q = record {
  held = λ vs r j.
      subst (λ z. AreImportSpecs (ts ++ us ++ v ∷ [] ++ vs) z) (sym (append_assoc xs (x ∷ []) r))
      (subst (λ z. AreImportSpecs z (xs ++ x ∷ r)) (sym (append_assoc ts us (v ∷ vs)) ∙ sym (append_assoc (ts ++ us) (v ∷ []) vs)) (k.held (us ++ v ∷ vs) (x ∷ r) (g.more_import_specs d q j)));
}

spec_done : {x : FilePart} {b : Bool} {ts us : List Token} (i : t.Import) → ImportHeld x b ts → IsImport us i → ImportEnded (with_import x i) b (ts ++ us)
spec_done {us = us} i (h.one_import {y} {xs} {ps} {ts} {u} p k m) d =
    subst (λ z. ImportEnded (record { «package» = y; imports = xs ++ i ∷ []; decls = [] }) false z) (sym (append_assoc (ps ++ ts) (u ∷ []) us ∙ append_assoc ps ts (u ∷ us)))
    (h.one_ended (ts ++ u ∷ us) p (one_more k m d))
spec_done {us = us} i (h.group_import {y} {zs} {ps} {ts} {us = rs} {u} {v} xs ys e p k m q l) d =
    subst (λ z. ImportEnded (record { «package» = y; imports = zs ++ i ∷ []; decls = [] }) true z) (sym (append_assoc (ps ++ ts) (u ∷ v ∷ rs) us))
    (h.group_ended xs (ys ++ i ∷ []) (ap (λ z. z ++ i ∷ []) e ∙ append_assoc xs ys (i ∷ [])) p k m q (spec_last l d) (spec_more l d))

-- a group of imports that ends
group_closed : {y : Name} {zs xs ys : List t.Import} {ps ts us : List Token} {u v : Token} (w : Token) → zs ≡ xs ++ ys → PackageHeld y ps → ImportsHeld ts xs → IsWord word.Import u → IsOp o.LeftParen v → AreImportSpecs us ys → IsOp o.RightParen w → ImportEnded (record { «package» = y; imports = zs; decls = [] }) false (ps ++ ts ++ u ∷ v ∷ us ++ w ∷ [])
group_closed {y} {zs} {xs} {ys} {ps} {ts} {us} {u} {v} w e p k m q d r =
    subst (λ z. ImportEnded (record { «package» = y; imports = zs; decls = [] }) false z) (sym (append_assoc (ps ++ ts) (u ∷ v ∷ us) (w ∷ []) ∙ append_assoc ps ts (u ∷ v ∷ (us ++ w ∷ []))))
    (h.one_ended (ts ++ u ∷ v ∷ (us ++ w ∷ [])) p (λ x c. record {
      held = λ vs r' j.
          subst (λ z. AreImports (ts ++ u ∷ v ∷ (us ++ w ∷ []) ++ x ∷ [] ++ vs) z) (sym (ap (λ z. z ++ r') e ∙ append_assoc xs ys r'))
          (subst (λ z. AreImports z (xs ++ (ys ++ r'))) (sym (ap (λ z. z ++ vs) (append_assoc ts (u ∷ v ∷ (us ++ w ∷ [])) (x ∷ [])) ∙ (append_assoc ts (u ∷ v ∷ (us ++ w ∷ []) ++ x ∷ []) vs ∙ ap (λ z. ts ++ u ∷ v ∷ z) (append_assoc (us ++ w ∷ []) (x ∷ []) vs ∙ append_assoc us (w ∷ []) (x ∷ vs))))) (k.held (u ∷ v ∷ us ++ w ∷ x ∷ vs) (ys ++ r') (g.import_group m q d r c j)));
    }))

closed_held : {x : FilePart} {ts : List Token} (u : Token) → ImportHeld x true ts → IsOp o.RightParen u → ImportEnded x false (ts ++ u ∷ [])
closed_held u (h.group_import xs ys e p k m q l) r = group_closed u e p k m q (specs_all l) r

closed_ended : {x : FilePart} {b : Bool} {ts : List Token} (u : Token) → b ≡ true → ImportEnded x b ts → IsOp o.RightParen u → ImportEnded x false (ts ++ u ∷ [])
closed_ended u z (h.one_ended ts p k) r = absurd (cc)
closed_ended u z (h.group_ended xs ys e p k m q d l) r = group_closed u e p k m q d r

group_starts : {x : FilePart} {ts : List Token} (u : Token) → ImportHeld x false ts → IsOp o.LeftParen u → ImportHeld x true (ts ++ u ∷ [])
group_starts u (h.one_import {y} {xs} {ps} {ts} {u = v} p k m) q =
    subst (λ z. ImportHeld (record { «package» = y; imports = xs; decls = [] }) true z) (sym (append_assoc (ps ++ ts) (v ∷ []) (u ∷ []))) (h.group_import xs [] (sym (append-nil xs)) p k m q (record { held = λ us r d. d }))

or_case : (a b : Bool) → (a || b) ≡ true → (a ≡ true) ⊎ (b ≡ true)
or_case true b q = inl refl
or_case false b q = inr q

named_opens : {x : FilePart} {b : Bool} {ts : List Token} (u : Token) (s : Stack) → ImportHeld x b ts → Opens u WFile ts s (if is_name_token u.kind || is_op o.Dot u then Goes (OfFile (f.ImportName x b (name_of u)) ∷ s) else Stuck)
named_opens {x} {b} u s k =
    open_if (is_name_token u.kind || is_op o.Dot u) (λ q. ⊎_elim (λ z. open_one (OfFile (f.ImportName x b (name_of u))) (h.import_name k (name_is z))) (λ z. open_one (OfFile (f.ImportName x b (name_of u))) (h.import_dot k (op_of z))) (or_case (is_name_token u.kind) (is_op o.Dot u) q)) (λ n. o_stuck)

import_opens : {x : FilePart} {b : Bool} {ts : List Token} (u : Token) (s : Stack) → ImportHeld x b ts → Opens u WFile ts s (import_spec u x b s)
import_opens {x} {b} u s k =
    open_if (is_string u.kind) (λ q. let i : t.Import = record { place = u.place; name = None; path = u.text; path_place = u.place } in open_one (OfFile (f.ImportEnd (with_import x i) b)) (h.import_end (spec_done i k (g.plain_import (string_is q)))))
    (λ n. named_opens u s k)

-- after an import and its `;`
next_good : {x : FilePart} {b : Bool} {ts : List Token} (u : Token) (s : Stack) → ImportEnded x b ts → IsSemicolon u → Opens u WFile ts s (Goes (OfFile (if b then f.ImportGroup x else f.Top x) ∷ s))
next_good u s (h.one_ended {y} {xs} {ps} ts p k) q =
    open_at (OfFile (f.Top (record { «package» = y; imports = xs; decls = [] }))) (append_assoc ps ts (u ∷ []) ∙ sym (append-nil (ps ++ (ts ++ u ∷ [])))) (h.top (h.file_held p (k u q) (λ z. refl) (record { held = λ us r d. d })))
next_good u s (h.group_ended {y} {zs} {ps} {ts} {us} {u = v} {v = w} xs ys e p k m c d l) q =
    open_at (OfFile (f.ImportGroup (record { «package» = y; imports = zs; decls = [] }))) (append_assoc (ps ++ ts) (v ∷ w ∷ us) (u ∷ [])) (h.import_group (h.group_import xs ys e p k m c (l u q)))

name_opens : {w : Want} {at : Place} {x : Option (Place × Params)} {ts : List Token} (u : Token) (s : Stack) → w ≡ WTop → ReceiverHeld at x ts → Opens u w ts s (named_func u at x s)
name_opens {w} {at} {x} {ts} u s z k = subst (λ y. Opens u y ts s (named_func u at x s)) (sym z) (open_if (is_name_token u.kind) (λ q. open_new (OfFile (f.FuncSig at x (name_of u))) (OfSig (f.SigOpen (new_ctx 0))) (h.func_sig k (name_is q)) he.sig_open) (λ n. o_stuck))

pub file_row_good : {x : FileFrame} {ts : List Token} {w : Want} (u : Token) (s : Stack) → HoldsFile x ts w → Good u w ts s (file_row u x s)
file_row_good u s h.start = good_if (is_word word.Package u) (λ q. good (open_one (OfFile f.AtPackage) (h.at_package (word_of q)))) (λ n. stuck)
file_row_good u s (h.at_package k) = good_if (is_name_token u.kind) (λ q. good (open_one (OfFile (f.PackageEnd (name_of u))) (h.package_end k (name_is q)))) (λ n. stuck)
file_row_good u s (h.package_end {v} k n) = good_if (is_semicolon u.kind) (λ q. good (open_one (OfFile (f.Top (record { «package» = name_of v; imports = []; decls = [] }))) (h.top (h.file_held {ts = []} {us = []} (h.package_held k n (semicolon_is q)) (record { held = λ us r d. d }) (λ z. refl) (record { held = λ us r d. d }))))) (λ n. stuck)
file_row_good u s (h.top i) = good (top_good u u.kind s refl i)
file_row_good u s (h.at_import {x} {ts} k) = good_op o.LeftParen (λ q. good (open_one (OfFile (f.ImportGroup x)) (h.import_group (group_starts u k q)))) (λ n. good (import_opens u s k))
file_row_good u s (h.import_group {x} k) = good_op o.RightParen (λ q. good (open_one (OfFile (f.ImportEnd x false)) (h.import_end (closed_held u k q)))) (λ n. good (import_opens u s k))
file_row_good u s (h.import_name {x} {grouped} {ts} {u = v} k n) =
    let i : t.Import = record { place = v.place; name = Some (name_of v); path = u.text; path_place = u.place } in
    good_if (is_string u.kind) (λ q. good (open_at (OfFile (f.ImportEnd (with_import x i) grouped)) (append_assoc ts (v ∷ []) (u ∷ [])) (h.import_end (spec_done i k (g.named_import n (string_is q)))))) (λ m. stuck)
file_row_good u s (h.import_dot {x} {grouped} {ts} {u = v} k n) =
    let i : t.Import = record { place = v.place; name = Some (name_of v); path = u.text; path_place = u.place } in
    good_if (is_string u.kind) (λ q. good (open_at (OfFile (f.ImportEnd (with_import x i) grouped)) (append_assoc ts (v ∷ []) (u ∷ [])) (h.import_end (spec_done i k (g.dot_import n (string_is q)))))) (λ m. stuck)
file_row_good u s (h.import_end {x} {grouped} k) =
    good_if (is_semicolon u.kind) (λ q. good (next_good u s k (semicolon_is q))) (λ n.
    good_if (grouped && is_op o.RightParen u) (λ q. let both = and_parts grouped (is_op o.RightParen u) q in good (open_one (OfFile (f.ImportEnd x false)) (h.import_end (closed_ended u (both.0) k (op_of (both.1)))))) (λ n. stuck))
file_row_good u s (h.top_func {u = v} k) = good_op o.LeftParen (λ q. good (params_opens u (new_ctx 0) s (he.receiver_role k))) (λ n. good (name_opens u s refl (h.no_receiver k)))
file_row_good u s (h.func_name k d) = good (name_opens u s refl (h.receiver k d))
file_row_good u s _ = stuck

pub file_sig_good : {x : FileFrame} {ts : List Token} {w : Want} (vs : List Token) (u : Token) (sig : t.Sig) (s : Stack) → HoldsFile x ts w → Is u (waits_file x) (ASig sig) vs → Good u w (ts ++ vs) s (file_meets_sig u x sig s)
file_sig_good vs u sig s (h.func_sig {at} {x} {ts} {u = v} k n) i = good_at (append_assoc ts (v ∷ []) vs) (good (within_new (OfFile (f.TopBody at x (name_of v) sig)) (h.top_body k n (i.0)) (block_opens u 0 (OfFile (f.TopBody at x (name_of v) sig) ∷ s))))
file_sig_good vs u sig s _ i = stuck

top_is : {at : Place} {x : Option (Place × Params)} {sig : t.Sig} {ts us vs : List Token} {b : t.Block} {v : Token} (u : Token) (s : Stack) → ReceiverHeld at x ts → IsName v → IsSig us sig → IsBlock vs b → Good u WTop (ts ++ v ∷ us ++ vs) s (file_meets_block (f.TopBody at x (name_of v) sig) b s)
top_is u s (h.no_receiver k) n d i = over (g.function_decl k n d i)
top_is u s (h.receiver k p) n d i = over (g.method_decl k p n d i)

pub file_block_good : {x : FileFrame} {ts : List Token} {w : Want} (vs : List Token) (u : Token) (b : t.Block) (s : Stack) → HoldsFile x ts w → Is u (waits_file x) (ABlock b) vs → Good u w (ts ++ vs) s (file_meets_block x b s)
file_block_good vs u b s (h.top_body k n d) i = top_is u s k n d (i.0)
file_block_good vs u b s _ i = stuck

tops_more : {ts us : List Token} {ds : List t.Decl} {d : t.Decl} {u : Token} → TopsHeld ts ds → IsTop us d → IsSemicolon u → TopsHeld (ts ++ us ++ u ∷ []) (ds ++ d ∷ [])
tops_more {ts} {us} {ds} {d} {u} k i q = record {
  held = λ vs r j.
      subst (λ z. AreTops (ts ++ us ++ u ∷ [] ++ vs) z) (sym (append_assoc ds (d ∷ []) r))
      (subst (λ z. AreTops z (ds ++ d ∷ r)) (sym (append_assoc ts us (u ∷ vs)) ∙ sym (append_assoc (ts ++ us) (u ∷ []) vs)) (k.held (us ++ u ∷ vs) (d ∷ r) (g.more_tops i q j)));
}

not_none : {A : Type 0} (B : Type 0) (xs : List A) (x : A) → xs ++ x ∷ [] ≡ [] → B
not_none B [] x q = absurd (cc)
not_none B (y ∷ ys) x q = absurd (cc)

decl_next : {x : FilePart} {ts us : List Token} {d : t.Decl} (u : Token) → FileHeld x ts → IsTop us d → IsSemicolon u → FileHeld (record x { decls = x.decls ++ d ∷ [] }) (ts ++ us ++ u ∷ [])
decl_next {us = us} {d} u (h.file_held {y} {xs} {ds} {ps} {ts} {us = rs} p i none k) j q =
    subst (λ z. FileHeld (record { «package» = y; imports = xs; decls = ds ++ d ∷ [] }) z) (sym (ap (λ z. z ++ u ∷ []) (append_assoc (ps ++ ts) rs us) ∙ append_assoc (ps ++ ts) (rs ++ us) (u ∷ [])))
    (h.file_held p i (λ z. not_none (rs ++ us ++ u ∷ [] ≡ []) ds d z) (tops_more k j q))

pub file_decl_good : {x : FileFrame} {ts : List Token} {w : Want} (vs : List Token) (u : Token) (d : t.Decl) (s : Stack) → HoldsFile x ts w → Is u (waits_file x) (ADecl d) vs → Good u w (ts ++ vs) s (file_meets_decl u x d s)
file_decl_good vs u d s (h.top {x} i) j = good_if (is_semicolon u.kind) (λ q. good (open_one (OfFile (f.Top (record x { decls = x.decls ++ d ∷ [] }))) (h.top (decl_next u i j (semicolon_is q))))) (λ n. stuck)
file_decl_good vs u d s _ j = stuck
