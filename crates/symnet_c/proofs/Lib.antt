mod Rooms
mod Running
