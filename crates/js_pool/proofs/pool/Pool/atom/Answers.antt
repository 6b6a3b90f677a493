use Rattle.js_pool.specs.Stands as stands
use Rattle.js_pool.proofs.pool.Pool.atom.Goals as goal

pub returns-in-Number : goal.returns-in-Number
returns-in-Number c = rw (c.in-Number.is, c.number.ensures) stands.number

pub returns-in-Bool : goal.returns-in-Bool
returns-in-Bool c = rw (c.in-Bool.is, c.boolean.ensures) stands.boolean

pub returns-in-Null : goal.returns-in-Null
returns-in-Null c = rw (c.in-Null.is, c.null.ensures) stands.null

pub returns-in-Dictionary : goal.returns-in-Dictionary
returns-in-Dictionary c = rw (c.in-Dictionary.is, c.dictionary.ensures) stands.dictionary

pub returns-in_ok-x-in-Name : goal.returns-in_ok-x-in-Name
returns-in_ok-x-in-Name c = rw (c.in-Name.is, c.name.ensures, c.in_ok-x-in-Name.ensures) stands.name
