pub mod DocumentValue
pub mod ReadBack
pub mod Settings
pub use Rattle.serde_json.specs.Data
pub use Rattle.serde_json.specs.Read
