mod Lessened
mod Stripped
mod Shown
mod Spare
