-- Read first Table, a row for each line of the grammar, and then Build, the nodes that rows make. The folder reader has steps of the reader.
pub mod Table
pub mod Build
pub mod reader
