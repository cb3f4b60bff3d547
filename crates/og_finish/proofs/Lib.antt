mod Made
mod Going
mod Begun
mod Drawing
mod Draining
mod One
mod Finished
