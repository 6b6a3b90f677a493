-- The rules by which a node stands for a tree.
use Rattle.js_pool.specs.Stands.{number, string, boolean, null, name, unary, binary, both, either, choice, call, index, length_of, pop, char_code_at, substring, array, dictionary, decimal_of, from_char_code, held, none, more}

pub ruleset shown = (number, string, boolean, null, name, unary, binary, both, either, choice, call, index, length_of, pop, char_code_at, substring, array, dictionary, decimal_of, from_char_code, held, none, more)
