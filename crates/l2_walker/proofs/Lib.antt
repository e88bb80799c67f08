pub mod States
mod Looking
pub mod Framing
mod Temps
