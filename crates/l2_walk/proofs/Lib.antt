mod Turning
mod Blocks
mod Beginning
mod Coding
