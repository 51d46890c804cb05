pub mod Does
pub mod Sets
