pub mod FewBytes
pub mod GivenWords
pub mod Others
