pub mod Order
pub mod Items
pub mod Digests
pub mod Keys
pub mod SeenBounds
pub mod Forests
pub mod Shelves
pub mod Fits
