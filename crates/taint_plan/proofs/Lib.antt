pub mod Below
pub mod CarryLists
pub mod GoalLists
pub mod Outermost
pub mod PlanLists
pub mod RowLists
