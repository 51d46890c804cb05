mod Behind
mod Joining
mod Marking
mod Wholes
