mod Splits
mod Due
mod Histories
