pub mod VectorLists
