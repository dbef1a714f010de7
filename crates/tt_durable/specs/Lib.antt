pub mod Restoring
pub mod OnLog
pub mod Renewing
pub mod RestoringRun
pub mod LoggedFaults
pub mod LoggedSession
pub mod LogReadBack
