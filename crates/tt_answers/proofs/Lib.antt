pub mod PieceLemmas
pub mod ReplyLemmas
pub mod AnswerLemmas
mod worked_answers
