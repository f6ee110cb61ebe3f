pub mod Numbers
pub mod BuildingElement
