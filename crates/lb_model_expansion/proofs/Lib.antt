pub mod FallsCommands
pub mod FallsGiven
pub mod FallsReadings
pub mod FallsSteps
