pub mod Missing
pub mod Laws
