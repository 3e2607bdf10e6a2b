mod Equal
mod Listed
