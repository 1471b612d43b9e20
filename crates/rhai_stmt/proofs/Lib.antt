mod CellLemmas
mod ItemLemmas
mod Plain
mod TurnLemmas
mod ExportSteps
mod Cells
mod Steps
mod Declared
