pub mod BitLaws
pub mod Outcomes
pub mod PairLists
pub mod ByNumber
pub mod RowLaws
pub mod RowPuts
pub mod Settled
pub mod Sweeps
