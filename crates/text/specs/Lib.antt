-- The definitions of tokens, numbers and what the lexer answers.
pub mod Token
pub mod Taken
pub mod Cursor
pub mod Number
pub mod Longest
