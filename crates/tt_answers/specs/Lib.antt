pub mod ToldText
pub mod RefusalText
pub mod CauseText
pub mod DiffText
pub mod AnswerText
pub mod LogText
