pub mod Trie
pub mod CodesText
pub mod inner
