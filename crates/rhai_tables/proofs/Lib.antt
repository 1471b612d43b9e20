mod PairLemmas
mod OddLemmas
