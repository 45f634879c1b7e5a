pub mod KindLaws
pub mod Items
pub mod NodeLaws
pub mod NameOrder
pub mod Adding
