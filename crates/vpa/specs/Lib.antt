pub mod Automata
pub mod Quotients
pub mod Combined
