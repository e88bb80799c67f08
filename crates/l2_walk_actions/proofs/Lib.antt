mod Computing
mod Picking
