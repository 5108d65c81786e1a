-- Laws on floats and fractions, and the theorems on one move.
pub mod Signed
pub mod FloatsInUnits
pub mod MoveCases
pub mod NoLoss
