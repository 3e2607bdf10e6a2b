mod Gathering
mod Parts
