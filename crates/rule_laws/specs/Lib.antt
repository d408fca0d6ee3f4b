pub mod BestUpTo
