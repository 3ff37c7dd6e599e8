-- Steps, runs and legal plays, the first play, and the demand for the most dice.
pub mod Steps
pub mod Spent
pub mod Results
pub mod Enumerated
pub mod Needs
pub mod MostPlays
pub mod PlayOrder
pub mod SinglePlays
