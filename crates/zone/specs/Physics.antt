pub mod Ventilation
pub mod Slots
pub mod Equations
pub mod System
pub mod CalcTemperatures
pub mod TempOperative
pub mod NodeLayout
pub mod HeatBalance
