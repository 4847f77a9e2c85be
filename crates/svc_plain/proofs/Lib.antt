mod Nexts
mod Seen
mod OnOks
mod Overwrites
mod Carried
