mod EqualTests
mod Names
mod SameLemmas
mod Steps
mod Truths
mod Starting
