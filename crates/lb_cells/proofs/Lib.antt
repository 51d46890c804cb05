pub mod BetweenThreads
pub mod Overlaid
pub mod StartMeaning
pub mod StartSteps
