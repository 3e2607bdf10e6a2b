mod Along
mod Answered
mod Chained
mod Complete
mod Joined
mod Offers
mod Settled
mod Shown
