pub mod Replies
pub mod TaskMoves
