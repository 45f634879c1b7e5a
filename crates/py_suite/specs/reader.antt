-- Steps of the reader by the table. The contract of `file_input` cites them, which `py_stmt` reads by; no promise of `py_stmt` does.
pub mod Sets
pub mod Reading
