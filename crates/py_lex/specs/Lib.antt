-- Read first Tokens: what stands in a text, as regular expressions. Then Layout, what each of these gives in a line, and Inside, in an f-string.
-- Parts says which parts an f-string has, Lexing which tokens a text has, Comments which comments, and Places where they lie.
-- Keywords, Classes, Columns and Starts serve these.
pub mod Keywords
pub mod Classes
pub mod Columns
pub mod Tokens
pub mod Layout
pub mod Inside
pub mod Starts
pub mod Parts
pub mod Lexing
pub mod Places
pub mod Comments
