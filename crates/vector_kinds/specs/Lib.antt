pub mod Vectors
pub mod Totals
pub mod Spreads
pub mod VectorLaws
pub mod Kinds
pub mod KindLaws
