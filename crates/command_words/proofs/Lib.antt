mod Refused
mod Numbers
mod Objects
mod Plain
