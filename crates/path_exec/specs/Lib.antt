-- What public contracts rest on.
pub mod Handing
pub mod Location
pub mod Views
pub mod Offers
pub mod Moves
pub mod Trials
pub mod OpenNodes
pub mod Paying
pub mod Keeping
pub mod Receiving
pub mod Ending
pub mod Following
pub mod Visiting
pub mod Stepping
-- What functions inside promise each other.
pub mod Coursing
