mod Lines
mod Signs
