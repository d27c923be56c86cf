pub mod Arrivals
pub mod WholeRun
pub mod RunAnswers
pub mod TableAgreement
