mod Members
mod Loops
mod Cycles
mod Keeping
mod Lines
mod Queues
mod Changed
mod Least
