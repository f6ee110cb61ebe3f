pub mod Hours
pub mod Asked
pub mod Convert
