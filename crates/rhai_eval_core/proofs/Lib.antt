mod RootLemmas
mod Untold
