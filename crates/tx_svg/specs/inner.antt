pub mod WrongSteps
