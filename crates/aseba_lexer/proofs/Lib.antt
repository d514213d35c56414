pub mod CutLaws
pub mod FewTokens
pub mod FoundLaws
pub mod NumberLaws
pub mod NumberValue
pub mod Spelled
