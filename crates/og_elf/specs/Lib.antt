pub mod Span
pub mod Segment
pub mod Elf
pub mod Raw
