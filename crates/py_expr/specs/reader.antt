-- Steps of the reader by the table. The promise of `read_py` cites none of them; of the calls that the crates above read by,
-- `read_level`, `shallow_end` and those that begin with `starts_` do.
pub mod Sets
pub mod Reading
