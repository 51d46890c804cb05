pub mod FedLemmas
pub mod Places
pub mod SameMeanings
pub mod StartWords
pub mod Starts
pub mod TakenLemmas
