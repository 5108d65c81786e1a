-- What the stack's judgement accepts; stack vertices by level and number; then the laws on sizes and on the judgement.
pub mod AcceptedStack
pub mod StackVertices
pub mod Sizes
pub mod Judged
