pub mod Effect
pub mod Work
pub mod Hart
