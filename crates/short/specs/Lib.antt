pub mod Tests
pub mod Form
pub mod Answer
pub mod Reading
pub mod Writing
pub mod Carry
pub mod Inner
