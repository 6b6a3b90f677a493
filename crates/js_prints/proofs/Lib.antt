mod Simulation
mod Printing
mod ListLemmas
mod Views
