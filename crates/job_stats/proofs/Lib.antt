mod Levels
mod Spreads
mod Told
