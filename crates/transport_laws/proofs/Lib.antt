pub mod ReducedLists
pub mod SupplierBases
pub mod SupplierSums
pub mod NoLimit
