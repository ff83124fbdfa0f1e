mod Covering
mod PointBoxes
mod Hopeless
