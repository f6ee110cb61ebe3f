mod Laws
mod Writes
