-- A node: what it holds, and Algorithm 1 of the paper line by line.
pub mod Model
pub mod Answers
pub mod Figures
pub mod Negotiation
pub mod Close
pub mod Distribution
pub mod End
pub mod Begin
pub mod Steps
pub mod Grounds
pub mod Core
pub mod InPlace
pub mod Outline
pub mod Inner
