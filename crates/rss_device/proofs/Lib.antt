mod Events
mod FileRuns
mod Images
mod Noted
mod Numbered
mod Places
mod Runs
mod Walks
