pub mod Items
pub mod LimitLemmas
pub mod Numbering
pub mod Refusing
pub mod Texts
