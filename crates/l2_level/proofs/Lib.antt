mod Earlier
mod Ended
mod Opened
mod Steps
