-- What the function's proof rests on.
mod Previewing
