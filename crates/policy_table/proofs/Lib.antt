mod Judged
mod Registers
