mod Lists
mod Starts
