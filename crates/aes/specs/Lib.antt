pub mod Block
pub mod Field
pub mod Keys
pub mod KeySets
pub mod Step
