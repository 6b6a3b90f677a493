-- Files that the grammar derives, and all files of a load.
use Rattle.std.proofs.Common.{List, [], ◌∷◌, ◌++◌, ◌+◌, ℕ}
use Rattle.go_syntax.specs.Tree as t
use Rattle.go_syntax.specs.Token.{Token}
use Rattle.go_grammar.specs.Files.{IsTop, top_decl, function_decl, method_decl, AreTops, no_tops, more_tops, IsFile, file}
use Rattle.go_load.specs.Readings.{AreTrees}
use Rattle.go_load.specs.declared.sources.FileEntry.{FileEntry}
use Rattle.go_items.specs.ItemView.{decls_of}
use Rattle.go_sound.specs.Grammar.{DeclOfGrammar, DeclsOfGrammar}
use Rattle.go_loaded.specs.Loaded.{FilesAreOfGrammar}
use Rattle.go_loaded.proofs.Signatures.{params_derived, sig_derived}
use Rattle.go_loaded.proofs.Declarations.{decl_derived}
use Rattle.go_loaded.proofs.Statements.{block_derived}

top_derived : {ts : List Token} {d : t.Decl} → IsTop ts d → DeclOfGrammar d
top_derived (top_decl d) = decl_derived d
top_derived (function_decl x n s b) = (sig_derived s, block_derived b)
top_derived (method_decl x r n s b) = (params_derived r, sig_derived s, block_derived b)

tops_derived : {ts : List Token} {ds : List t.Decl} → AreTops ts ds → DeclsOfGrammar ds
tops_derived no_tops = tt
tops_derived (more_tops d x ds) = (top_derived d, tops_derived ds)

file_derived : {ts : List Token} {f : t.File} → IsFile ts f → DeclsOfGrammar f.decls
file_derived (file p n x is tops y) = tops_derived tops

pub files_are_of_grammar : FilesAreOfGrammar
files_are_of_grammar ts f d = file_derived d

-- ---- all files

joined : (ds es : List t.Decl) → DeclsOfGrammar ds → DeclsOfGrammar es → DeclsOfGrammar (ds ++ es)
joined [] es o q = q
joined (d ∷ ds) es o q = (o.0, joined ds es o.1 q)

pub trees_derived : FilesAreOfGrammar → (number : ℕ) (entries : List FileEntry) (files : List t.File) → AreTrees number entries files → DeclsOfGrammar (decls_of files)
trees_derived law number [] [] h = tt
trees_derived law number [] (f ∷ fs) h = absurd h
trees_derived law number (e ∷ es) [] h = absurd h
trees_derived law number (e ∷ es) (f ∷ fs) h = joined f.decls (decls_of fs) (law (h.0.0).tokens f h.0.2.derived) (trees_derived law (number + 1) es fs h.1)
