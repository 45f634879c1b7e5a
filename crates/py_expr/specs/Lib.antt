-- Read first Table, a row for each line of the grammar, with Words, what a token is for it. Then Parts and Build, the nodes that rows make, and Strings, their texts.
-- Items and Insides say what a token is with an f-string inside, and Runs what `read_py` promises. The folder reader has steps of the reader.
pub mod Words
pub mod Items
pub mod Strings
pub mod Parts
pub mod Table
pub mod Build
pub mod reader
pub mod Insides
pub mod Runs
