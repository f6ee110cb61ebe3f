pub mod Claims
mod Laws
pub mod Promise
