pub mod Lex
pub mod Packing
pub mod Chain
pub mod Total
pub mod Agreeing
pub mod Words
pub mod OneToOne
pub mod OneOutcome
