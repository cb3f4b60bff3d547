pub mod Agreement
pub mod Answers
pub mod HartFacts
pub mod Needs
