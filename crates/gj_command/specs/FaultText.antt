-- own: what is told of a fault.
use Rattle.std.specs.Prelude.{◌++◌, ◌==◌, nat_lt, ℕ, false, List, [], ◌∷◌, codes, decimal, slice_index_or, if◌then◌else◌}
use Rattle.gj_base.specs.LineColumn.{line_and_column}
use Rattle.gj_base.specs.declared.fault.Fault.{Fault}
use Rattle.go_load.specs.declared.sources.FileEntry.{FileEntry}

-- faults of a text and of its grammar
abbrev pub of_text : ℕ → List ℕ
of_text code =
    if code == 0 then codes "form not built yet"
    else if code == 1 then codes "invalid character"
    else if code == 2 then codes "invalid UTF-8"
    else if code == 3 then codes "string literal not terminated"
    else if code == 4 then codes "invalid rune literal"
    else if code == 5 then codes "floats and imaginary numbers are not in the profile"
    else if code == 6 then codes "invalid number"
    else if code == 7 then codes "invalid escape"
    else if code == 8 then codes "comment not terminated"
    else if code == 9 then codes "number outside 128 bits"
    else if code == 10 then codes "syntax error: unexpected "
    else if code == 11 then codes "nesting deeper than 100"
    else if code == 12 then codes "chain longer than 500"
    else []

-- faults of constants, and of packages
abbrev pub of_constants : ℕ → List ℕ
of_constants code =
    if code == 30 then codes "division by zero"
    else if code == 31 then codes "constant outside 128 bits"
    else if code == 32 then codes "constant does not fit its type"
    else if code == 33 then codes "negative shift count"
    else if code == 40 then codes "package "
    else if code == 41 then codes "import cycle"
    else if code == 42 then codes "package names differ"
    else if code == 43 then codes "no function main"
    else if code == 44 then codes "wrong use of package main"
    else if code == 45 then codes "file longer than 4194304 bytes"
    else if code == 46 then codes "program too large"
    else if code == 47 then codes "build constraints are not in the profile"
    else if code == 48 then codes "initialisation cycle"
    else []

-- faults of names and expressions
abbrev pub of_expressions : ℕ → List ℕ
of_expressions code =
    if code == 50 then codes "undefined: "
    else if code == 51 then codes "a type is wanted here"
    else if code == 52 then codes "a value is wanted here"
    else if code == 53 then codes "bad parameter list"
    else if code == 54 then codes "operator not defined here"
    else if code == 55 then codes "operands do not fit"
    else if code == 56 then codes "values can not be compared"
    else if code == 57 then codes "shift needs integers"
    else if code == 58 then codes "conversion not possible"
    else if code == 59 then codes "not a function"
    else if code == 60 then codes "wrong number of arguments"
    else if code == 61 then codes "value does not fit the wanted type"
    else if code == 62 then codes "no field or method "
    else if code == 64 then codes "can not be indexed"
    else if code == 65 then codes "bad index"
    else if code == 66 then codes "not a pointer"
    else if code == 67 then codes "not addressable"
    else if code == 68 then codes "impossible type assertion"
    else if code == 69 then codes "bad literal"
    else []

-- faults of types and of what is too large
abbrev pub of_types : ℕ → List ℕ
of_types code =
    if code == 70 then codes "map key type not in the profile"
    else if code == 71 then codes "not in the profile"
    else if code == 72 then codes "bad arguments of "
    else if code == 73 then codes "use of untyped nil"
    else if code == 74 then codes "invalid recursive type"
    else if code == 75 then codes "type too large"
    else if code == 76 then codes "more than 1000 parts"
    else if code == 77 then codes "duplicate "
    else if code == 78 then codes "bad array length"
    else if code == 79 then codes "too many functions"
    else []

-- faults of declarations and statements
abbrev pub of_statements : ℕ → List ℕ
of_statements code =
    if code == 81 then 34 ∷ []
    else if code == 83 then codes "bad left side of :="
    else if code == 84 then codes "counts do not match"
    else if code == 85 then codes "can not assign here"
    else if code == 86 then codes "condition is not boolean"
    else if code == 87 then codes "missing return"
    else if code == 88 then codes "wrong number of results"
    else if code == 89 then codes "no target"
    else if code == 90 then codes "label "
    else if code == 91 then codes "misplaced fallthrough"
    else if code == 92 then codes "duplicate case"
    else if code == 93 then codes "expression is not used"
    else if code == 94 then codes "bad range"
    else if code == 95 then codes "bad receiver"
    else if code == 96 then codes "a call is wanted here"
    else if code == 97 then codes "bad communication"
    else if code == 98 then codes "import form not in the profile"
    else if code == 99 then codes "bad main or init"
    else []

-- the text of a fault with this code, up to the name that it tells
abbrev pub sentence : ℕ → List ℕ
sentence code =
    if nat_lt code 30 then of_text code
    else if nat_lt code 50 then of_constants code
    else if nat_lt code 70 then of_expressions code
    else if nat_lt code 80 then of_types code
    else of_statements code

-- and after that name
abbrev pub ending : ℕ → List ℕ
ending code =
    if code == 40 then codes " not found"
    else if code == 63 then codes " is not exported"
    else if code == 80 then codes " declared but not used"
    else if code == 81 then 34 ∷ codes " imported and not used"
    else if code == 82 then codes " redeclared"
    else if code == 90 then codes " defined and not used"
    else []

-- the whole text
abbrev pub fault_text : Fault → List ℕ
fault_text fault = sentence fault.code ++ fault.text ++ ending fault.code

-- the fault with its whole text
abbrev pub told_fault : Fault → Fault
told_fault fault = record fault { text = fault_text fault }

-- the entry of the file that the fault is in
abbrev pub entry_of : List FileEntry → Fault → FileEntry
entry_of entries fault = slice_index_or entries fault.place.file (record { path = []; name = []; bytes = []; embedded = false; too_long = false })

-- `NAME:LINE:COL: TEXT` and a newline
abbrev pub line_of : List ℕ → List ℕ → List ℕ → List ℕ → List ℕ
line_of name line column text = name ++ codes ":" ++ line ++ codes ":" ++ column ++ codes ": " ++ text ++ 10 ∷ []

-- the same, of a line and a column in decimal digits
abbrev pub line_at : List ℕ → ℕ × ℕ → List ℕ → List ℕ
line_at name place text = line_of name (decimal place.0) (decimal place.1) text

-- the line that tells of a fault in these files
abbrev pub fault_line : List FileEntry → Fault → List ℕ
fault_line entries fault =
    let entry = entry_of entries fault in
    line_at entry.name (line_and_column entry.bytes fault.place.offset) (fault_text fault)

-- what stands between the path of a package and the name of a file
abbrev pub slash_after : List ℕ → List ℕ
slash_after [] = []
slash_after (b ∷ bs) = codes "/"

-- the name of a file with the path of its package; the root has none
abbrev pub whole_name : FileEntry → List ℕ
whole_name entry = entry.path ++ slash_after entry.path ++ entry.name

-- the line that tells of a fault with its whole text
abbrev pub whole_line : List FileEntry → Fault → List ℕ
whole_line entries fault =
    let entry = entry_of entries fault in
    line_at (whole_name entry) (line_and_column entry.bytes fault.place.offset) fault.text
