pub mod CensusLists
pub mod CensusLoops
pub mod FactLists
pub mod Halving
pub mod Hulls
pub mod ItemPlaces
pub mod SinkLists
