use Rattle.std.proofs.Common.{refl, ℕ, List, [], ◌∷◌, arith, true}
use Rattle.std.specs.Prelude.{codes}
use Rattle.std.specs.Fmt.{digits}
use Rattle.js_tree.specs.Script.{Expr}
use Rattle.js_tree.specs.Printed.{preamble}
use Rattle.js_tree.specs.Lexical.{identifier_name, punctuator, numeric_literal, string_literal, Placed, end, token}
use Rattle.js_tree.specs.Scripts as rule
use Rattle.js_tree.specs.Scripts.{Expression, looser}
use Rattle.js_tree.specs.GrammarRows.{greeting, sum}
use Rattle.js_tree.proofs.laws.grammar_rows.Goals as goal

-- where an expression that binds tightest stands for any
loose : {d n : ℕ} {ts rest : List Placed} {e : Expr} → Expression d 12 n ts rest e → Expression d 0 0 ts rest e
loose h =
    looser (omega arith) (looser (omega arith) (looser (omega arith) (looser (omega arith) (looser (omega arith) (looser (omega arith) (looser (omega arith) (looser (omega arith) (looser (omega arith) (looser (omega arith) (looser (omega arith) (looser (omega arith) h)))))))))))

abbrev greeting_tokens : List Placed
greeting_tokens = record { token = identifier_name (codes "function"); at = 290 } ∷ record { token = identifier_name (codes "$start"); at = 299 } ∷ record { token = punctuator (codes "("); at = 305 } ∷ record { token = punctuator (codes ")"); at = 306 } ∷ record { token = punctuator (codes "{"); at = 307 } ∷ record { token = identifier_name (codes "$write"); at = 308 } ∷ record { token = punctuator (codes "("); at = 314 } ∷ record { token = string_literal (codes "hi"); at = 315 } ∷ record { token = punctuator (codes ")"); at = 319 } ∷ record { token = punctuator (codes ";"); at = 320 } ∷ record { token = punctuator (codes "}"); at = 321 } ∷ record { token = identifier_name (codes "$start"); at = 322 } ∷ record { token = punctuator (codes "("); at = 328 } ∷ record { token = punctuator (codes ")"); at = 329 } ∷ record { token = punctuator (codes ";"); at = 330 } ∷ []

abbrev sum_tokens : List Placed
sum_tokens = record { token = identifier_name (codes "var"); at = 290 } ∷ record { token = identifier_name (codes "$n"); at = 294 } ∷ record { token = punctuator (codes "="); at = 297 } ∷ record { token = punctuator (codes "("); at = 299 } ∷ record { token = numeric_literal 1; at = 300 } ∷ record { token = punctuator (codes ")"); at = 301 } ∷ record { token = punctuator (codes "+"); at = 302 } ∷ record { token = numeric_literal 2; at = 303 } ∷ record { token = punctuator (codes "*"); at = 304 } ∷ record { token = punctuator (codes "-"); at = 305 } ∷ record { token = numeric_literal 3; at = 306 } ∷ record { token = punctuator (codes ";"); at = 307 } ∷ record { token = identifier_name (codes "$n"); at = 309 } ∷ record { token = punctuator (codes "("); at = 311 } ∷ record { token = punctuator (codes ")"); at = 312 } ∷ record { token = punctuator (codes ";"); at = 313 } ∷ []

greeting_items : rule.Body greeting_tokens greeting
greeting_items = record {
  start = record { token = identifier_name (codes "$start"); at = 322 } ∷ record { token = punctuator (codes "("); at = 328 } ∷ record { token = punctuator (codes ")"); at = 329 } ∷ record { token = punctuator (codes ";"); at = 330 } ∷ [];
  items = rule.function {x = codes "$start"} refl refl rule.no_parameters refl (rule.block refl (rule.statements (rule.perform refl (rule.call (rule.name refl refl) refl (rule.expressions (loose (rule.string refl)) rule.no_more_expressions) refl) refl) rule.no_statements) refl) rule.no_items;
  is_name = refl;
  call = refl;
  at = refl;
}

sum_items : rule.Body sum_tokens sum
sum_items = record {
  start = record { token = identifier_name (codes "$n"); at = 309 } ∷ record { token = punctuator (codes "("); at = 311 } ∷ record { token = punctuator (codes ")"); at = 312 } ∷ record { token = punctuator (codes ";"); at = 313 } ∷ [];
  items = rule.global {x = codes "$n"} refl refl
      (looser (omega arith) (looser (omega arith) (looser (omega arith) (looser (omega arith) (looser (omega arith) (looser (omega arith) (looser (omega arith) (looser (omega arith) (looser (omega arith)
      (rule.binary (looser (omega arith) (looser (omega arith) (looser (omega arith) (rule.parentheses refl (loose (rule.number refl)) refl)))) refl
      (rule.binary (looser (omega arith) (looser (omega arith) (rule.number refl))) refl (rule.unary refl (looser (omega arith) (rule.number refl))))))))))))))
      refl rule.no_items;
  is_name = refl;
  call = refl;
  at = refl;
}

pub returns : goal.returns
unfolding preamble digits
returns c = record {
  rows = record {
    a_greeting = record {
      body = codes "function $start(){$write(\"hi\");}$start();";
      tokens = greeting_tokens;
      begins = refl;
      splits = token {newlines = true} [] (identifier_name (codes "function")) refl refl refl (token {newlines = true} (codes " ") (identifier_name (codes "$start")) refl refl refl (token {newlines = true} [] (punctuator (codes "(")) refl refl refl (token {newlines = true} [] (punctuator (codes ")")) refl refl refl (token {newlines = true} [] (punctuator (codes "{")) refl refl refl (token {newlines = true} [] (identifier_name (codes "$write")) refl refl refl (token {newlines = true} [] (punctuator (codes "(")) refl refl refl (token {newlines = true} [] (string_literal (codes "hi")) refl refl refl (token {newlines = true} [] (punctuator (codes ")")) refl refl refl (token {newlines = true} [] (punctuator (codes ";")) refl refl refl (token {newlines = true} [] (punctuator (codes "}")) refl refl refl (token {newlines = true} [] (identifier_name (codes "$start")) refl refl refl (token {newlines = true} [] (punctuator (codes "(")) refl refl refl (token {newlines = true} [] (punctuator (codes ")")) refl refl refl (token {newlines = true} [] (punctuator (codes ";")) refl refl refl (end {newlines = true} [] refl)))))))))))))));
      derives = greeting_items;
    };
    a_sum = record {
      body = codes "var $n = (1)+2*-3;\n$n();";
      tokens = sum_tokens;
      begins = refl;
      splits = token {newlines = true} [] (identifier_name (codes "var")) refl refl refl (token {newlines = true} (codes " ") (identifier_name (codes "$n")) refl refl refl (token {newlines = true} (codes " ") (punctuator (codes "=")) refl refl refl (token {newlines = true} (codes " ") (punctuator (codes "(")) refl refl refl (token {newlines = true} [] (numeric_literal 1) refl refl refl (token {newlines = true} [] (punctuator (codes ")")) refl refl refl (token {newlines = true} [] (punctuator (codes "+")) refl refl refl (token {newlines = true} [] (numeric_literal 2) refl refl refl (token {newlines = true} [] (punctuator (codes "*")) refl refl refl (token {newlines = true} [] (punctuator (codes "-")) refl refl refl (token {newlines = true} [] (numeric_literal 3) refl refl refl (token {newlines = true} [] (punctuator (codes ";")) refl refl refl (token {newlines = true} (codes "\n") (identifier_name (codes "$n")) refl refl refl (token {newlines = true} [] (punctuator (codes "(")) refl refl refl (token {newlines = true} [] (punctuator (codes ")")) refl refl refl (token {newlines = true} [] (punctuator (codes ";")) refl refl refl (end {newlines = true} [] refl))))))))))))))));
      derives = sum_items;
    };
  };
}
