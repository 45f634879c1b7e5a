-- Which tree a text has, in the order in which to read it: `Words`, the words of tokens; `Tokens`, their spellings; `Lexing`, the
-- tokens of a text; `Table`, the grammar; `Build`, the nodes that it makes; and `Spells`, the tree, which contracts cite.
-- `States` has the automaton of the tokens, for those who read character by character.
-- The folder `reader` has the reader's own steps, which proofs use and no promise.
pub mod Words
pub mod Tokens
pub mod Lexing
pub mod Table
pub mod Build
pub mod Spells
pub mod States
pub mod reader
