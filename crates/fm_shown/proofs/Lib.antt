mod Outermost
mod Awaited
mod Listed
mod Holding
mod Needed
