-- `Viable` says where a text stops being JSON. The folder `fronts` has the steps by which that is found, which no promise cites.
pub mod Viable
pub mod fronts
