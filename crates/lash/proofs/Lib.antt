mod Fits
mod BayNumber
