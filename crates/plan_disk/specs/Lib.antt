pub mod Patches
pub mod Plan
pub mod PlanView
