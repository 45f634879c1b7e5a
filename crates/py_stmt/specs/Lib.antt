-- Modules says which tree a module has, and which pattern a text is, over the tokens of py_lex and the tables of py_expr and py_suite.
pub mod Modules
-- Braces says what the table has in braces, by the lines of the reference.
pub mod Braces
