mod Grading
mod Surviving
mod Changing
mod LineKinds
mod DeclaredLines
mod Printed
mod Ordering
mod LintTold
mod Comparing
pub mod Common
