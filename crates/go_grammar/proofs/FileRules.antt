-- Files are read.
use Rattle.std.proofs.Common.{◌≡◌, Bool, true, false, List, [], ◌∷◌, ◌++◌, Option, Some, None, refl, sym, ◌∙◌, ap, append_assoc, append-nil}
use Rattle.std.specs.List.{list_all}
use Rattle.gj_base.specs.declared.place.Place.{Place}
use Rattle.go_syntax.specs.Tree as t
use Rattle.go_syntax.specs.Token.{Token}
use Rattle.go_syntax.specs.declared.keyword.Keyword.TheVariants as word
use Rattle.go_syntax.specs.declared.operator.Operator.TheVariants as o
use Rattle.go_syntax.specs.declared.tree.Name.{Name}
use Rattle.go_grammar.specs.Classes.{IsOp, IsWord, IsName, IsSemicolon, written, inserted, IsEnd, name_of}
use Rattle.go_grammar.specs.Frames.{ASig, ABlock, ADecl, Frame, OfStmt, OfSig, OfFile, Done, Stack, InBlock, SigOpen, InParams, OfReceiver, Params, FilePart, Start, Top, AtImport, ImportGroup, ImportEnd, FuncSig, TopBody}
use Rattle.go_grammar.specs.Limits.{sig_fits, params_fit, block_fits, stmts_fit, decl_fits}
use Rattle.go_grammar.specs.Grammar.{IsBlock, block_braces, params_in_parens, IsSig}
use Rattle.go_grammar.specs.Files.{IsImport, plain_import, named_import, dot_import, AreImportSpecs, no_import_specs, last_import_spec, more_import_specs, AreImports, no_imports, import_one, import_group, IsTop, top_decl, function_decl, method_decl, AreTops, no_tops, more_tops, file}
use Rattle.go_grammar.specs.Laws.{ReadsAllFiles, DerivesOneFile}
use Rattle.go_grammar.specs.Parsed.{run, Tree}
use Rattle.go_grammar.proofs.Stepping.{ctx, run_assoc, first_part, second_part}
use Rattle.go_grammar.proofs.Readings.{params_list, joined_params, params_part}
use Rattle.go_grammar.proofs.OperandRules.{Inside, body_after}
use Rattle.go_grammar.proofs.Exprs.{sig_reads, params_read}
use Rattle.go_grammar.proofs.StmtReadings.{EndsList, list_semicolon}
use Rattle.go_grammar.proofs.StmtRules.{StartsDecl, inside_of}
use Rattle.go_grammar.proofs.DeclRules.{decl_reads}
use Rattle.go_grammar.proofs.Stmts.{all_below}

inside : Inside 0
inside = inside_of 0 (all_below 0)

abbrev file_part : Name → List t.Import → List t.Decl → FilePart
file_part y imports decls = record { «package» = y; imports = imports; decls = decls }

-- imports

-- where an import may stand, in a group or not
abbrev import_start : Bool → FilePart → Frame
import_start false x = OfFile (AtImport x)
import_start true x = OfFile (ImportGroup x)

import_reads : (ts : List Token) (x : t.Import) → IsImport ts x → (group : Bool) (y : Name) (is : List t.Import) (s : Stack) (rest : List Token) → run (ts ++ rest) (import_start group (file_part y is []) ∷ s) ≡ run rest (OfFile (ImportEnd (file_part y (is ++ x ∷ []) []) group) ∷ s)
import_reads _ _ (plain_import h) false y is s rest = simp h.string
import_reads _ _ (plain_import h) true y is s rest = simp h.string
import_reads _ _ (named_import h k) false y is s rest = simp (h.name, k.string)
import_reads _ _ (named_import h k) true y is s rest = simp (h.name, k.string)
import_reads _ _ (dot_import h k) false y is s rest = simp (h.op, k.string)
import_reads _ _ (dot_import h k) true y is s rest = simp (h.op, k.string)

import_done : (y : Name) (is : List t.Import) (s : Stack) (u : Token) (us : List Token) → IsSemicolon u → run (u ∷ us) (OfFile (ImportEnd (file_part y is []) false) ∷ s) ≡ run us (OfFile (Top (file_part y is [])) ∷ s)
import_done y is s u us (written h) = simp h
import_done y is s u us (inserted h) = simp h

import_next : (y : Name) (is : List t.Import) (s : Stack) (u : Token) (us : List Token) → IsSemicolon u → run (u ∷ us) (OfFile (ImportEnd (file_part y is []) true) ∷ s) ≡ run us (OfFile (ImportGroup (file_part y is [])) ∷ s)
import_next y is s u us (written h) = simp h
import_next y is s u us (inserted h) = simp h

specs_read : (ts : List Token) (xs : List t.Import) → AreImportSpecs ts xs → (y : Name) (is : List t.Import) (s : Stack) (v : Token) (rest : List Token) → IsOp o.RightParen v → run (ts ++ v ∷ rest) (OfFile (ImportGroup (file_part y is [])) ∷ s) ≡ run rest (OfFile (ImportEnd (file_part y (is ++ xs) []) false) ∷ s)
specs_read _ _ no_import_specs y is s v rest hv =
    let closed : run (v ∷ rest) (OfFile (ImportGroup (file_part y is [])) ∷ s) ≡ run rest (OfFile (ImportEnd (file_part y is []) false) ∷ s) = simp hv.op in
    closed ∙ ap (λ zs. run rest (OfFile (ImportEnd (file_part y zs []) false) ∷ s)) (sym (append-nil is))
specs_read _ _ (last_import_spec {ts} {x} d) y is s v rest hv =
    let closed : run (v ∷ rest) (OfFile (ImportEnd (file_part y (is ++ x ∷ []) []) true) ∷ s) ≡ run rest (OfFile (ImportEnd (file_part y (is ++ x ∷ []) []) false) ∷ s) = simp hv.op in
    import_reads ts x d true y is s (v ∷ rest) ∙ closed
specs_read _ _ (more_import_specs {ts} {us} {x} {xs} {u} d hu ds) y is s v rest hv =
    run_assoc ts (u ∷ us) (v ∷ rest) (OfFile (ImportGroup (file_part y is [])) ∷ s)
    ∙ (import_reads ts x d true y is s (u ∷ us ++ v ∷ rest)
    ∙ (import_next y (is ++ x ∷ []) s u (us ++ v ∷ rest) hu
    ∙ (specs_read us xs ds y (is ++ x ∷ []) s v rest hv
    ∙ ap (λ zs. run rest (OfFile (ImportEnd (file_part y zs []) false) ∷ s)) (append_assoc is (x ∷ []) xs))))

imports_read : (ts : List Token) (xs : List t.Import) → AreImports ts xs → (y : Name) (is : List t.Import) (s : Stack) (rest : List Token) → run (ts ++ rest) (OfFile (Top (file_part y is [])) ∷ s) ≡ run rest (OfFile (Top (file_part y (is ++ xs) [])) ∷ s)
imports_read _ _ no_imports y is s rest = ap (λ zs. run rest (OfFile (Top (file_part y zs [])) ∷ s)) (sym (append-nil is))
imports_read _ _ (import_one {ts} {us} {x} {xs} {u} {v} hu d hv ds) y is s rest =
    let taken : run (u ∷ (ts ++ v ∷ (us ++ rest))) (OfFile (Top (file_part y is [])) ∷ s) ≡ run (ts ++ v ∷ (us ++ rest)) (OfFile (AtImport (file_part y is [])) ∷ s) = simp hu.word in
    run_assoc (u ∷ ts) (v ∷ us) rest (OfFile (Top (file_part y is [])) ∷ s)
    ∙ (taken
    ∙ (import_reads ts x d false y is s (v ∷ (us ++ rest))
    ∙ (import_done y (is ++ x ∷ []) s v (us ++ rest) hv
    ∙ (imports_read us xs ds y (is ++ x ∷ []) s rest
    ∙ ap (λ zs. run rest (OfFile (Top (file_part y zs [])) ∷ s)) (append_assoc is (x ∷ []) xs)))))
imports_read _ _ (import_group {ts} {us} {xs} {ys} {u} {v} {w} {x} hu hv d hw hx ds) y is s rest =
    let taken : run (u ∷ v ∷ (ts ++ w ∷ x ∷ (us ++ rest))) (OfFile (Top (file_part y is [])) ∷ s) ≡ run (ts ++ w ∷ x ∷ (us ++ rest)) (OfFile (ImportGroup (file_part y is [])) ∷ s) = simp (hu.word, hv.op) in
    run_assoc (u ∷ v ∷ ts) (w ∷ x ∷ us) rest (OfFile (Top (file_part y is [])) ∷ s)
    ∙ (taken
    ∙ (specs_read ts xs d y is s w (x ∷ (us ++ rest)) hw
    ∙ (import_done y (is ++ xs) s x (us ++ rest) hx
    ∙ (imports_read us ys ds y (is ++ xs) s rest
    ∙ ap (λ zs. run rest (OfFile (Top (file_part y zs [])) ∷ s)) (append_assoc is xs ys)))))

-- declarations at the top

top_starts : (y : Name) (is : List t.Import) (ds : List t.Decl) (s : Stack) → StartsDecl 0 (OfFile (Top (file_part y is ds)) ∷ s) (OfFile (Top (file_part y is ds)) ∷ s)
top_starts y is ds s = record {
  on_const = λ u us h. simp h.word;
  on_var = λ u us h. simp h.word;
  on_type = λ u us h. simp h.word;
}

-- the body of a function, from its `{` on
body_read : (at : Place) (receiver : Option (Place × Params)) (y : Name) (sig : t.Sig) (bl : t.Block) (us' : List Token) → IsBlock us' bl → block_fits 0 bl ≡ true → (us : List Token) (s : Stack) → run (us' ++ us) (Done (ASig sig) ∷ OfFile (FuncSig at receiver y) ∷ s) ≡ run us (Done (ABlock bl) ∷ OfFile (TopBody at receiver y sig) ∷ s)
body_read at receiver y sig _ _ (block_braces {ts = body} {ss} {u = x} {v = z} hx d hz) fits us s =
    let within : stmts_fit 1 ss ≡ true = fits in
    let opened : run (x ∷ (body ++ z ∷ us)) (Done (ASig sig) ∷ OfFile (FuncSig at receiver y) ∷ s) ≡ run (body ++ z ∷ us) (OfStmt (InBlock 1 x.place []) ∷ OfFile (TopBody at receiver y sig) ∷ s) = simp hx.op in
    ap (λ zs. run (x ∷ zs) (Done (ASig sig) ∷ OfFile (FuncSig at receiver y) ∷ s)) (append_assoc body (z ∷ []) us)
    ∙ (opened
    ∙ inside refl z.place body ss d within x.place z us (OfFile (TopBody at receiver y sig) ∷ s) hz refl)

-- a signature with the body after it
sig_and_body : (at : Place) (receiver : Option (Place × Params)) (y : Name) (ts us' : List Token) (sig : t.Sig) (bl : t.Block) → IsSig ts sig → sig_fits 0 0 sig ≡ true → IsBlock us' bl → block_fits 0 bl ≡ true → (us : List Token) (s : Stack) → run (ts ++ (us' ++ us)) (OfSig (SigOpen (ctx 0 0 false false)) ∷ OfFile (FuncSig at receiver y) ∷ s) ≡ run us (Done (ABlock bl) ∷ OfFile (TopBody at receiver y sig) ∷ s)
sig_and_body at receiver y ts _ sig _ ds fits_sig (block_braces {ts = body} {ss} {u = x} {v = z} hx d hz) fits us s =
    sig_reads 0 inside ds 0 false false fits_sig x ((body ++ z ∷ []) ++ us) (OfFile (FuncSig at receiver y) ∷ s) (body_after sig x hx)
    ∙ body_read at receiver y sig (t.BlockOf x.place ss z.place) (x ∷ body ++ z ∷ []) (block_braces hx d hz) fits us s

top_reads : (ts : List Token) (d : t.Decl) → IsTop ts d → decl_fits 0 d ≡ true → (y : Name) (is : List t.Import) (ds : List t.Decl) (s : Stack) (u : Token) (us : List Token) → EndsList u → run (ts ++ u ∷ us) (OfFile (Top (file_part y is ds)) ∷ s) ≡ run (u ∷ us) (Done (ADecl d) ∷ OfFile (Top (file_part y is ds)) ∷ s)
top_reads _ _ (top_decl d) fits y is ds s u us hu = decl_reads 0 inside d fits (OfFile (Top (file_part y is ds)) ∷ s) (OfFile (Top (file_part y is ds)) ∷ s) (top_starts y is ds s) u us hu
top_reads _ _ (function_decl {ts} {us = us'} {sig} {b = bl} {u = f} {v = n} hf hn dsig dbl) fits y is ds s u us hu =
    let s' : Stack = OfFile (Top (file_part y is ds)) ∷ s in
    let taken : run (f ∷ n ∷ (ts ++ (us' ++ u ∷ us))) s' ≡ run (ts ++ (us' ++ u ∷ us)) (OfSig (SigOpen (ctx 0 0 false false)) ∷ OfFile (FuncSig f.place None (name_of n)) ∷ s') = simp (hf.word, hn.name) in
    run_assoc (f ∷ n ∷ ts) us' (u ∷ us) s'
    ∙ (taken
    ∙ sig_and_body f.place None (name_of n) ts us' sig bl dsig (first_part _ _ fits) dbl (second_part _ _ fits) (u ∷ us) s')
top_reads _ _ (method_decl {ts} {us = us'} {receiver} {sig} {b = bl} {u = f} {w = n} hf (params_in_parens {ts = rs} {u = v} {v = w} hv dr hw) hn dsig dbl) fits y is ds s u us hu =
    let s' : Stack = OfFile (Top (file_part y is ds)) ∷ s in
    let rest : List Token = ts ++ (us' ++ u ∷ us) in
    let fits_r : params_fit 0 1 receiver ≡ true = first_part _ _ (first_part _ _ fits) in
    let fits_sig : sig_fits 0 0 sig ≡ true = second_part _ _ (first_part _ _ fits) in
    let fits_bl : block_fits 0 bl ≡ true = second_part _ _ fits in
    let taken : run (f ∷ v ∷ (rs ++ w ∷ n ∷ rest)) s' ≡ run (rs ++ w ∷ n ∷ rest) (OfSig (InParams (params_part (ctx 0 0 false false) v.place [] (OfReceiver f.place))) ∷ s') = simp (hf.word, hv.op) in
    let closed : run (w ∷ n ∷ rest) (OfSig (InParams (params_part (ctx 0 0 false false) v.place (params_list receiver) (OfReceiver f.place))) ∷ s') ≡ run rest (OfSig (SigOpen (ctx 0 0 false false)) ∷ OfFile (FuncSig f.place (Some (v.place, params_list receiver)) (name_of n)) ∷ s') = simp (hw.op, hn.name) in
    run_assoc (f ∷ (v ∷ rs ++ w ∷ []) ++ n ∷ ts) us' (u ∷ us) s'
    ∙ (run_assoc (f ∷ (v ∷ rs ++ w ∷ [])) (n ∷ ts) (us' ++ u ∷ us) s'
    ∙ (run_assoc (f ∷ v ∷ rs) (w ∷ []) (n ∷ rest) s'
    ∙ (taken
    ∙ (params_read 0 inside dr 0 false false refl fits_r v.place [] (OfReceiver f.place) w (n ∷ rest) s' hw
    ∙ (closed
    ∙ (sig_and_body f.place (Some (v.place, params_list receiver)) (name_of n) ts us' sig bl dsig fits_sig dbl fits_bl (u ∷ us) s'
    ∙ ap (λ xs. run (u ∷ us) (Done (ADecl (t.MethodDecl f.place v.place xs (name_of n) sig bl)) ∷ s')) (joined_params receiver)))))))

top_done : (y : Name) (is : List t.Import) (ds : List t.Decl) (d : t.Decl) (s : Stack) (u : Token) (us : List Token) → IsSemicolon u → run (u ∷ us) (Done (ADecl d) ∷ OfFile (Top (file_part y is ds)) ∷ s) ≡ run us (OfFile (Top (file_part y is (ds ++ d ∷ []))) ∷ s)
top_done y is ds d s u us (written h) = simp h
top_done y is ds d s u us (inserted h) = simp h

tops_read : (ts : List Token) (ds : List t.Decl) → AreTops ts ds → list_all (decl_fits 0) ds ≡ true → (y : Name) (is : List t.Import) (before : List t.Decl) (s : Stack) (rest : List Token) → run (ts ++ rest) (OfFile (Top (file_part y is before)) ∷ s) ≡ run rest (OfFile (Top (file_part y is (before ++ ds))) ∷ s)
tops_read _ _ no_tops fits y is before s rest = ap (λ zs. run rest (OfFile (Top (file_part y is zs)) ∷ s)) (sym (append-nil before))
tops_read _ _ (more_tops {ts} {us} {d} {ds} {u} dt hu dts) fits y is before s rest =
    run_assoc ts (u ∷ us) rest (OfFile (Top (file_part y is before)) ∷ s)
    ∙ (top_reads ts d dt (first_part _ _ fits) y is before s u (us ++ rest) (list_semicolon hu)
    ∙ (top_done y is before d s u (us ++ rest) hu
    ∙ (tops_read us ds dts (second_part _ _ fits) y is (before ++ d ∷ []) s rest
    ∙ ap (λ zs. run rest (OfFile (Top (file_part y is zs)) ∷ s)) (append_assoc before (d ∷ []) ds))))

package_read : (u v w : Token) (rest : List Token) → IsWord word.Package u → IsName v → IsSemicolon w → run (u ∷ v ∷ w ∷ rest) (OfFile Start ∷ []) ≡ run rest (OfFile (Top (file_part (name_of v) [] [])) ∷ [])
package_read u v w rest hu hv (written h) = simp (hu.word, hv.name, h)
package_read u v w rest hu hv (inserted h) = simp (hu.word, hv.name, h)

end_read : (y : Name) (is : List t.Import) (ds : List t.Decl) (x : Token) → IsEnd x → run (x ∷ []) (OfFile (Top (file_part y is ds)) ∷ []) ≡ Tree (record { «package» = y; imports = is; decls = ds })
end_read y is ds x h = simp h.end

pub reads_all_files : ReadsAllFiles
reads_all_files _ _ (file {ts} {us} {imports} {decls} {u} {v} {w} {x} hu hv hw dis dts hx) fits =
    run_assoc (u ∷ v ∷ w ∷ ts) us (x ∷ []) (OfFile Start ∷ [])
    ∙ (package_read u v w (ts ++ (us ++ x ∷ [])) hu hv hw
    ∙ (imports_read ts imports dis (name_of v) [] [] (us ++ x ∷ [])
    ∙ (tops_read us decls dts fits (name_of v) imports [] [] (x ∷ [])
    ∙ end_read (name_of v) imports decls x hx)))

same_tree : (f g : t.File) → Tree f ≡ Tree g → f ≡ g
same_tree f g e = cc

pub derives_one_file : DerivesOneFile
derives_one_file us f g d fits d' fits' = same_tree f g (sym (reads_all_files us f d fits) ∙ reads_all_files us g d' fits')
