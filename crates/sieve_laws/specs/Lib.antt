pub mod Sieve
