pub mod Text
pub mod Room
pub mod Page
