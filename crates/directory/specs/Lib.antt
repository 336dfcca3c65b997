pub mod Item
pub mod Quantity
pub mod Order
pub mod Views
pub mod Tenant
pub mod Run
pub mod Rules
pub mod Bites
