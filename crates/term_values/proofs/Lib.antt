mod LawsBelow
mod FitLemmas
mod Respecting
mod Typing
