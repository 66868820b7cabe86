mod Sound
mod Agreement
mod Lookups
mod Joined
